use Rattle.syslog_dated_forms.proofs.Names.{◌past◌, ◌then◌, dated_sent, drop, iso_date, journal_row, refl, row_of}
use Rattle.syslog_dated_forms.proofs.Names.{says_once, take}
use Rattle.syslog_dated_forms.proofs.ChainLemmas.{◌next◌, chain_fails, chain_reads, end, undivided}
use Rattle.syslog_dated_forms.proofs.RowLemmas.{journal_line_det}
use Rattle.syslog_sent.specs.declared.dialect.Dialect.TheVariants.{Journal}
use Rattle.syslog_dated_forms.proofs.dated.read_journal.Goals as goal

pub returns-in_err-date : goal.returns-in_err-date
returns-in_err-date c = rw c.from_residual.ensures (undivided journal_row journal_line_det
    (c.blanks.ensures past chain_fails {Cs = take 2 (drop 1 journal_row)} iso_date (drop 4 journal_row) _
    {x = c.blanks.result} (c.weekday.ensures next c.and_then.ensures next end) c.in_err-date.ensures))

pub returns : goal.returns
returns c =
    let (us, p) = chain_reads {Cs = take 2 (drop 1 journal_row)} iso_date (drop 4 journal_row) _ _ _ _
    {x = c.blanks.result} (c.weekday.ensures next c.and_then.ensures next end) (λ e. cc) c.in_ok-date.ensures
    (c.read_wide_tail.ensures then refl) in
    says_once Journal journal_row (λ v. dated_sent v.1.1.1.0 v.1.1.1.1.0) journal_line_det
    (row_of journal_row (c.blanks.ensures then p)) c.says.ensures
