use Rattle.syslog_named_forms.proofs.Names.{[], ◌also◌, ◌∷◌, access_of, access_row, colon, exactly, inl, is_blank}
use Rattle.syslog_named_forms.proofs.Names.{NamedTexts, point_row, program_tail, refl, Row, some_run, texted, unread}
use Rattle.syslog_named_forms.proofs.ReaderLemmas.{known, passed}
use Rattle.syslog_named_forms.proofs.RowLemmas.{access_det}
use Rattle.syslog_named_forms.proofs.programs.point_first.Goals as goal

pub returns-in_err-host : goal.returns-in_err-host
returns-in_err-host c = rw c.from_residual.ensures
    (unread access_row access_det NamedTexts access_of (inl c.in_err-host.ensures))

pub returns : goal.returns
returns c = known (texted (Row point_row)) (exactly colon ∷ some_run is_blank ∷ program_tail) access_of access_det
    c.in_ok-host.ensures _ (passed (exactly colon ∷ some_run is_blank ∷ []) program_tail access_det.1 _ _ (λ _ _. refl)
    c.in_ok-host.after_host (c.colon.result ∷ c.and_then.result ∷ []) _ (c.colon.ensures also c.and_then.ensures also
    tt)
    c.program_from.ensures)
