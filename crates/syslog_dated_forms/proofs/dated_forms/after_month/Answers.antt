use Rattle.syslog_dated_forms.proofs.Names.{[], ◌∷◌, apart, bsd_form, here, iso_form}
use Rattle.syslog_dated_forms.proofs.LedFormLemmas.{no_odd_iso}
use Rattle.syslog_dated_forms.proofs.dated_forms.after_month.Goals as goal

pub returns-in_err-sent : goal.returns-in_err-sent
returns-in_err-sent c text at g d =
    rw c.from_residual.ensures (c.in_err-sent.ensures text at g d, (no_odd_iso g (apart d), tt))

pub returns : goal.returns
returns c text at g d = here bsd_form (iso_form ∷ []) _ _ (c.in_ok-sent.ensures text at g d)
