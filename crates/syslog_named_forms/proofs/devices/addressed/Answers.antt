use Rattle.syslog_named_forms.proofs.Names.{[], ◌also◌, ◌∷◌, addressed_row, colon, drop, exactly, is_blank, point_word}
use Rattle.syslog_named_forms.proofs.Names.{program_tail, refl, some_run}
use Rattle.syslog_named_forms.specs.Devices.{addressed_of}
use Rattle.syslog_named_forms.proofs.ReaderLemmas.{passed}
use Rattle.syslog_named_forms.proofs.HostLemmas.{no_host, past_host}
use Rattle.syslog_named_forms.proofs.RowLemmas.{addressed_det}
use Rattle.syslog_named_forms.proofs.devices.addressed.Goals as goal

pub returns-in_err-host : goal.returns-in_err-host
returns-in_err-host c text after = rw c.from_residual.ensures
    (no_host (drop 2 addressed_row) addressed_of (rw c.in_err-host.was at after))

pub returns : goal.returns
returns c text after = past_host (drop 2 addressed_row) addressed_of c.in_ok-host.host (rw c.in_ok-host.was at after) _
    (passed (point_word ∷ exactly colon ∷ some_run is_blank ∷ []) program_tail addressed_det.1.1 _ _
    (λ _ _. refl) c.in_ok-host.host.text (c.point_word.result ∷ c.and_then.result ∷ c.and_then-at_program.result ∷ []) _
    (c.point_word.ensures also c.and_then.ensures also c.and_then-at_program.ensures also tt) c.program_from.ensures)
