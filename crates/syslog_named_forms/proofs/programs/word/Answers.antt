use Rattle.syslog_named_forms.proofs.Names.{empty_is, no_some_run, nonempty_is, some_run_front}
use Rattle.syslog_named_forms.proofs.programs.word.Goals as goal

pub returns-then-is_empty-clause-reads : goal.returns-then-is_empty-clause-reads
returns-then-is_empty-clause-reads c = no_some_run _ _ _ _ c.split.ensures (empty_is _ c.if-is_empty.ensures)

pub returns-else-is_empty-clause-reads : goal.returns-else-is_empty-clause-reads
returns-else-is_empty-clause-reads c = (
  tt,
  some_run_front _ _ _ _ c.split.ensures
      (nonempty_is _ c.if-is_empty.ensures),
)
