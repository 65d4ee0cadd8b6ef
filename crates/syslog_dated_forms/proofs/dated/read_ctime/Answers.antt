use Rattle.syslog_dated_forms.proofs.Names.{◌past◌, ◌then◌, bsd_date, BsdDate, ctime_row, dated_sent, drop, refl}
use Rattle.syslog_dated_forms.proofs.Names.{row_of, says_once, take}
use Rattle.syslog_dated_forms.proofs.ChainLemmas.{◌next◌, chain_fails, chain_reads, end, undivided}
use Rattle.syslog_dated_forms.proofs.RowLemmas.{ctime_line_det}
use Rattle.syslog_dated_forms.proofs.dated.read_ctime.Goals as goal

pub returns-in_err-date : goal.returns-in_err-date
returns-in_err-date c = rw c.from_residual.ensures (undivided ctime_row ctime_line_det
    (c.blanks.ensures past chain_fails {Cs = take 2 (drop 1 ctime_row)} bsd_date (drop 4 ctime_row) _
    {x = c.blanks.result} (c.weekday.ensures next c.and_then.ensures next end) c.in_err-date.ensures))

pub returns : goal.returns
returns c =
    let (us, p) = chain_reads {Cs = take 2 (drop 1 ctime_row)} bsd_date (drop 4 ctime_row) _ _ _ _
    {x = c.blanks.result} (c.weekday.ensures next c.and_then.ensures next end) (λ e. cc) c.in_ok-date.ensures
    (c.read_wide_tail.ensures then refl) in
    says_once BsdDate ctime_row (λ v. dated_sent v.1.1.1.0 v.1.1.1.1.0) ctime_line_det
    (row_of ctime_row (c.blanks.ensures then p)) c.says.ensures
