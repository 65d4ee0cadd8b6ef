use Rattle.syslog_dated_forms.proofs.Names.{[], ◌∷◌, bsd_form, here, iso_form, NearlyRfc3339}
use Rattle.syslog_sent.proofs.DialectLemmas.{later}
use Rattle.syslog_dated_forms.proofs.LedFormLemmas.{no_odd_month}
use Rattle.syslog_dated_forms.proofs.dated_forms.after_iso.Goals as goal

pub returns-in_err-sent : goal.returns-in_err-sent
returns-in_err-sent c text g n d =
    rw c.from_residual.ensures (no_odd_month g n, (c.in_err-sent.ensures text g d, tt))

pub returns : goal.returns
returns c text g n d = later bsd_form (iso_form ∷ []) _ NearlyRfc3339 _ (no_odd_month g n)
    (here iso_form [] _ _ (c.in_ok-sent.ensures text g d))
