use Rattle.syslog_dated_forms.proofs.Names.{◌past◌, ◌then◌, dated_sent, header_stamp, inl, iso_date, iso_row}
use Rattle.syslog_dated_forms.proofs.Names.{NearlyRfc3339, refl, row_of, says_once}
use Rattle.syslog_sent.proofs.DateLemmas.{no_unless, unless_front}
use Rattle.syslog_dated_forms.proofs.RowLemmas.{iso_line_det}
use Rattle.syslog_dated_forms.proofs.ChainLemmas.{undivided}
use Rattle.syslog_dated_forms.proofs.dated.read_iso.Goals as goal

pub returns-in-Some : goal.returns-in-Some
returns-in-Some c text g d = undivided iso_row iso_line_det (g past inl (no_unless header_stamp iso_date
    c.in-Some.ensures))

pub returns : goal.returns
returns c text g d = says_once NearlyRfc3339 iso_row (λ v. dated_sent v.1.0 v.1.1.0) iso_line_det
    (row_of iso_row (g then unless_front header_stamp iso_date c.in_default.ensures d then c.read_wide_tail.ensures
    then refl)) c.says.ensures
