use Rattle.syslog_named_forms.proofs.Names.{[], ◌also◌, ◌∷◌, drop, is_blank, program_tail, refl, severity_row, some_run}
use Rattle.syslog_named_forms.specs.Programs.{severity_of, grade}
use Rattle.syslog_named_forms.proofs.ReaderLemmas.{passed}
use Rattle.syslog_named_forms.proofs.HostLemmas.{no_host, past_host}
use Rattle.syslog_named_forms.proofs.RowLemmas.{severity_det}
use Rattle.syslog_named_forms.proofs.programs.severity_first.Goals as goal

pub returns-in_err-host : goal.returns-in_err-host
returns-in_err-host c text after = rw c.from_residual.ensures
    (no_host (drop 2 severity_row) severity_of (rw c.in_err-host.was at after))

pub returns : goal.returns
returns c text after = past_host (drop 2 severity_row) severity_of c.in_ok-host.host (rw c.in_ok-host.was at after) _
    (passed (grade ∷ some_run is_blank ∷ []) program_tail severity_det.1.1 _ _
    (λ _ _. refl) c.in_ok-host.host.text (c.grade.result ∷ c.and_then.result ∷ []) _
    (c.grade.ensures also c.and_then.ensures also tt) c.program_from.ensures)
