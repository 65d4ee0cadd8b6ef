use Rattle.syslog_named_forms.proofs.Names.{◌then◌, empty_is, inl, listed_row, no_row, no_some_run, nonempty_is, refl}
use Rattle.syslog_named_forms.proofs.Names.{row_of, some_run_front}
use Rattle.syslog_named_forms.proofs.PairLemmas.{listed_row_det}
use Rattle.syslog_named_forms.proofs.pairs.listed_end.Goals as goal

pub returns-then-is_empty-clause-reads : goal.returns-then-is_empty-clause-reads
returns-then-is_empty-clause-reads c = no_row listed_row listed_row_det
    (inl (no_some_run _ _ _ _ c.split.ensures (empty_is _ c.if-is_empty.ensures)))

pub returns-clause-reads : goal.returns-clause-reads
returns-clause-reads c = (
  _,
  row_of listed_row
      (some_run_front _ _ _ _ c.split.ensures (nonempty_is _ c.if-is_empty.ensures)
      then c.past_part.ensures.1 then c.past_part-2.ensures.1 then refl),
)
