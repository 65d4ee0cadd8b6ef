use Rattle.syslog_dated_forms.proofs.Names.{◌past◌, ◌then◌, bsd_of, BsdDate, dated_sent, inl, IsOdd, mapped_front}
use Rattle.syslog_dated_forms.proofs.Names.{no_mapped, no_such_meaning, refl, Row, row_det, row_of, says_once, SentDate}
use Rattle.syslog_dated_forms.proofs.Names.{such_front, such_that}
use Rattle.syslog_sent.specs.Date.{bsd_row as date_row}
use Rattle.syslog_dated_forms.specs.Dated.{bsd_row}
use Rattle.syslog_sent.proofs.DateLemmas.{bsd_det, not_plain, odd_told}
use Rattle.syslog_dated_forms.proofs.RowLemmas.{bsd_line_det}
use Rattle.syslog_dated_forms.proofs.ChainLemmas.{undivided}
use Rattle.syslog_dated_forms.proofs.dated.read_bsd.Goals as goal

pub returns-then-is_plain : goal.returns-then-is_plain
returns-then-is_plain c text at g d = undivided bsd_row bsd_line_det (g past inl (no_mapped (such_that (Row date_row)
    IsOdd) SentDate bsd_of (no_such_meaning (Row date_row) IsOdd (row_det date_row bsd_det) d (not_plain _
    c.if-is_plain.ensures))))

pub returns : goal.returns
returns c text at g d = says_once BsdDate bsd_row (λ v. dated_sent v.1.0 v.1.1.0) bsd_line_det
    (row_of bsd_row (g then rw c.sent.ensures (mapped_front (such_that (Row date_row) IsOdd) SentDate bsd_of
    (such_front (Row date_row) IsOdd d (odd_told _ c.if-is_plain.ensures))) then c.read_wide_tail.ensures then refl))
    c.says.ensures
