use Rattle.syslog_dated_forms.proofs.Names.{◌past◌, ◌then◌, any_date, drop, logread_row, program, refl, rest_front}
use Rattle.syslog_dated_forms.proofs.Names.{row_of, says_once, SeverityFirst, take}
use Rattle.syslog_dated_forms.specs.OpenWrt.{logread_sent}
use Rattle.syslog_dated_forms.proofs.ChainLemmas.{◌next◌, chain_fails, chain_past, chain_reads, end, undivided}
use Rattle.syslog_dated_forms.proofs.RowLemmas.{logread_row_det}
use Rattle.syslog_dated_forms.proofs.open_wrt.read_logread.Goals as goal

pub returns-in_err-date : goal.returns-in_err-date
returns-in_err-date c = rw c.from_residual.ensures (undivided logread_row logread_row_det
    (c.blanks.ensures past chain_fails {Cs = take 2 (drop 1 logread_row)} any_date (drop 4 logread_row) _
    {x = c.blanks.result} (c.weekday.ensures next c.and_then.ensures next end) c.in_err-date.ensures))

pub returns-in_err-program : goal.returns-in_err-program
returns-in_err-program c = rw c.from_residual-in_err-program.ensures (undivided logread_row logread_row_det
    (c.blanks.ensures past chain_past {Cs = take 2 (drop 1 logread_row)} any_date (drop 4 logread_row) _ _
    {x = c.blanks.result} (c.weekday.ensures next c.and_then.ensures next end) (λ e. cc) c.in_ok-date.ensures
    (chain_fails {Cs = take 3 (drop 4 logread_row)} program (drop 8 logread_row) _ {x = c.in_ok-date.after_date}
    (c.gap.ensures next c.and_then-3.ensures next c.and_then-4.ensures next end) c.in_err-program.ensures)))

pub returns : goal.returns
returns c =
    let (vs, p) = chain_reads {Cs = take 3 (drop 4 logread_row)} program (drop 8 logread_row) _ _ _ _
    {x = c.in_ok-date.after_date} (c.gap.ensures next c.and_then-3.ensures next c.and_then-4.ensures next end)
    (λ e. cc) c.in_ok-program.ensures (c.blanks-2.ensures then rest_front _ then refl) in
    let (us, f) = chain_reads {Cs = take 2 (drop 1 logread_row)} any_date (drop 4 logread_row) _ _ _ _
    {x = c.blanks.result} (c.weekday.ensures next c.and_then.ensures next end) (λ e. cc) c.in_ok-date.ensures p in
    says_once SeverityFirst logread_row logread_sent logread_row_det (row_of logread_row (c.blanks.ensures then f)) refl
