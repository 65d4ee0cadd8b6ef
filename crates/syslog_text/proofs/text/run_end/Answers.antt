use Rattle.syslog_text.proofs.Names.{rules}
use Rattle.syslog_text.proofs.TextLemmas.Runs.{all_end, ascii_run}
use Rattle.syslog_text.proofs.text.run_end.Goals as goal

pub returns-then-is_cut : goal.returns-then-is_cut
returns-then-is_cut c =
    let end = ascii_run _ _ _ c.utf8.text (rw c.as_bytes.ensures.value at c.ascii_run-end.ensures) in
    all_end _ _ _ c.utf8.text end (search rules)
