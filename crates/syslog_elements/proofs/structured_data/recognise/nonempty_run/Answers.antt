use Rattle.syslog_elements.proofs.Names.{has, some_run}
use Rattle.syslog_text.proofs.{PieceLemmas.Class.no_texted, TextLemmas.Runs.empty_is, TextLemmas.Runs.no_some_run}
use Rattle.syslog_elements.proofs.structured_data.recognise.nonempty_run.Goals as goal

pub returns-then-is_empty : goal.returns-then-is_empty
returns-then-is_empty c =
    no_texted (some_run (has _)) (no_some_run (has _) _ _ _ c.split_run.ensures (empty_is _ c.if-is_empty.ensures))
