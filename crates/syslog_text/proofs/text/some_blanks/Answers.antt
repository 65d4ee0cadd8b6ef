use Rattle.syslog_text.proofs.TextLemmas.Runs.{no_some_run, split_at_end, empty_is}
use Rattle.syslog_text.proofs.text.some_blanks.Goals as goal

pub returns-then-is_empty : goal.returns-then-is_empty
returns-then-is_empty c = no_some_run _ _ _ _ (split_at_end _ _ _ _ _ c.blanks_end.ensures c.split_at.ensures.front
    c.split_at.ensures.back) (empty_is _ c.if-is_empty.ensures)
