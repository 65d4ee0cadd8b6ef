use Rattle.syslog_dated_forms.proofs.Names.{◌past◌, ◌then◌, cisco_row, date_row, inl, no_row, refl, row_of}
use Rattle.syslog_dated_forms.proofs.CiscoLemmas.{cisco_row_det}
use Rattle.syslog_dated_forms.proofs.cisco.shown_after.Goals as goal

pub returns-in_err-tag : goal.returns-in_err-tag
returns-in_err-tag c text d = rw c.from_residual.ensures (no_row cisco_row cisco_row_det (d.front
    past row_of date_row (d.year then d.dated then refl) past c.place.ensures past inl c.in_err-tag.ensures))

pub returns : goal.returns
returns c text d = row_of cisco_row (d.front then row_of date_row (d.year then d.dated then refl)
    then c.place.ensures then c.in_ok-tag.ensures then refl)
