use Rattle.syslog_named_forms.proofs.Names.{◌past◌, ◌then◌, enclosed_row, inl, match_map, no_row, refl, row_of}
use Rattle.syslog_named_forms.proofs.RowLemmas.{enclosed_det}
use Rattle.syslog_named_forms.proofs.programs.enclosed.Goals as goal

pub returns-in_err-inner-clause-reads : goal.returns-in_err-inner-clause-reads
returns-in_err-inner-clause-reads c =
    rw c.from_residual.ensures (no_row enclosed_row enclosed_det (inl c.in_err-inner.ensures))

pub returns-in_err-end-clause-reads : goal.returns-in_err-end-clause-reads
returns-in_err-end-clause-reads c = rw c.from_residual-in_err-end.ensures
    (no_row enclosed_row enclosed_det (c.in_ok-inner.ensures past inl c.in_err-end.ensures.reads))

pub returns-clause-reads : goal.returns-clause-reads
returns-clause-reads c = let (v, word) = c.in_ok-end.ensures.reads in match_map c.closing.result
    (λ n. no_row enclosed_row enclosed_det (c.in_ok-inner.ensures past word past inl n))
    (λ x (w, f). (_, row_of enclosed_row (c.in_ok-inner.ensures then word then f then refl)))
    c.closing.ensures.reads
