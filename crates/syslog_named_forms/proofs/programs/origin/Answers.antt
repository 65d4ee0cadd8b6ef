use Rattle.syslog_named_forms.proofs.Names.{empty_is, is_tag_char, no_some_run, no_texted, nonempty_is, run_text}
use Rattle.syslog_named_forms.proofs.Names.{some_run}
use Rattle.syslog_named_forms.proofs.programs.origin.Goals as goal

pub returns-then-is_empty : goal.returns-then-is_empty
returns-then-is_empty c =
    no_texted (some_run is_tag_char) (no_some_run _ _ _ _ c.split_run.ensures (empty_is _ c.if-is_empty.ensures))

pub returns-else-is_empty : goal.returns-else-is_empty
returns-else-is_empty c =
    run_text is_tag_char c.split_run.ensures (nonempty_is _ c.if-is_empty.ensures)
