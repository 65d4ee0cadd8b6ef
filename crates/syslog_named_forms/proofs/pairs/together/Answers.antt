use Rattle.syslog_named_forms.proofs.Names.{[], ◌then◌, ◌∷◌, inl, iso_date, no_row, no_row_division, refl, row_of}
use Rattle.syslog_named_forms.proofs.PairLemmas.{not_whole, together_det, whole_is}
use Rattle.syslog_named_forms.proofs.pairs.together.Goals as goal

pub returns-in_err-date : goal.returns-in_err-date
returns-in_err-date c = rw c.from_residual.ensures (λ d. no_row_division (iso_date ∷ [])
    (no_row (iso_date ∷ []) together_det (inl c.in_err-date.ensures)) (d, tt))

pub returns-in-Some : goal.returns-in-Some
returns-in-Some c = λ d. not_whole (iso_date ∷ []) together_det
    (row_of (iso_date ∷ []) (c.in_ok-date.ensures then refl))
    c.in-Some.ensures.0 (d, tt)

pub returns-in-None : goal.returns-in-None
returns-in-None c = whole_is (iso_date ∷ []) (row_of (iso_date ∷ []) (c.in_ok-date.ensures then refl)) c.in-None.ensures
