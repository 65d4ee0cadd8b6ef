use Rattle.syslog_named_forms.proofs.Names.{[], ◌also◌, ◌∷◌, drop, is_blank, program_tail, refl, Row, some_run}
use Rattle.syslog_named_forms.proofs.Names.{sourced_row}
use Rattle.syslog_named_forms.specs.Graded.{source_row, sourced_of}
use Rattle.syslog_named_forms.proofs.ReaderLemmas.{passed}
use Rattle.syslog_named_forms.proofs.HostLemmas.{no_host, past_host}
use Rattle.syslog_named_forms.proofs.RowLemmas.{sourced_det}
use Rattle.syslog_named_forms.proofs.graded.sourced.Goals as goal

pub returns-in_err-host : goal.returns-in_err-host
returns-in_err-host c text after = rw c.from_residual.ensures
    (no_host (drop 2 sourced_row) sourced_of (rw c.in_err-host.was at after))

pub returns : goal.returns
returns c text after = past_host (drop 2 sourced_row) sourced_of c.in_ok-host.host (rw c.in_ok-host.was at after) _
    (passed (Row source_row ∷ some_run is_blank ∷ []) program_tail sourced_det.1.1 _ _
    (λ _ _. refl) c.in_ok-host.host.text (c.source.result ∷ c.and_then.result ∷ []) _
    (c.source.ensures also c.and_then.ensures also tt) c.program_from.ensures)
