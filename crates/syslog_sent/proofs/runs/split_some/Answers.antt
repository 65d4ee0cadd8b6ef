use Rattle.syslog_text.proofs.PieceLemmas.Class.{no_texted}
use Rattle.syslog_text.proofs.TextLemmas.Runs.{empty_is, nonempty_is, no_some_run}
use Rattle.syslog_text.specs.Pieces.Class.{some_run}
use Rattle.syslog_sent.specs.Runs.{is_of}
use Rattle.syslog_sent.proofs.NamedLemmas.{run_text}
use Rattle.syslog_sent.proofs.runs.split_some.Goals as goal

pub returns-then-is_empty : goal.returns-then-is_empty
returns-then-is_empty c = no_texted (some_run (is_of c.args.run))
    (no_some_run _ _ _ _ c.split.ensures (empty_is _ c.if-is_empty.ensures))

pub returns : goal.returns
returns c = run_text (is_of c.args.run) c.split.ensures (nonempty_is _ c.if-is_empty.ensures)
