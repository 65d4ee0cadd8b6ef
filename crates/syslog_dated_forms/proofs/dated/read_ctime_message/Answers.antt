use Rattle.syslog_dated_forms.proofs.Names.{◌past◌, ◌then◌, beginning_front, Bracketed, bsd_date, ctime_message_row}
use Rattle.syslog_dated_forms.proofs.Names.{drop, inl, no_beginning, refl, row_of, says_once, take}
use Rattle.syslog_dated_forms.specs.Dated.{ctime_message_sent}
use Rattle.syslog_dated_forms.proofs.ChainLemmas.{◌next◌, chain_fails, chain_past, chain_reads, end, undivided}
use Rattle.syslog_dated_forms.proofs.RowLemmas.{ctime_message_det}
use Rattle.syslog_dated_forms.proofs.dated.read_ctime_message.Goals as goal

pub returns-in_err-date : goal.returns-in_err-date
returns-in_err-date c = rw c.from_residual.ensures (undivided ctime_message_row ctime_message_det
    (c.blanks.ensures past chain_fails {Cs = take 2 (drop 1 ctime_message_row)} bsd_date (drop 4 ctime_message_row) _
    {x = c.blanks.result} (c.weekday.ensures next c.and_then.ensures next end) c.in_err-date.ensures))

pub returns-in_err-msg : goal.returns-in_err-msg
returns-in_err-msg c = rw c.from_residual-in_err-msg.ensures (undivided ctime_message_row ctime_message_det
    (c.blanks.ensures past chain_past {Cs = take 2 (drop 1 ctime_message_row)} bsd_date (drop 4 ctime_message_row) _ _
    {x = c.blanks.result} (c.weekday.ensures next c.and_then.ensures next end) (λ e. cc) c.in_ok-date.ensures
    (inl c.in_err-msg.ensures)))

pub returns-in_err-bracket : goal.returns-in_err-bracket
returns-in_err-bracket c = rw c.from_residual-in_err-bracket.ensures (undivided ctime_message_row ctime_message_det
    (c.blanks.ensures past chain_past {Cs = take 2 (drop 1 ctime_message_row)} bsd_date (drop 4 ctime_message_row) _ _
    {x = c.blanks.result} (c.weekday.ensures next c.and_then.ensures next end) (λ e. cc) c.in_ok-date.ensures
    (c.in_ok-msg.ensures.1 past inl (no_beginning c.in_err-bracket.ensures))))

pub returns : goal.returns
returns c =
    let (us, p) = chain_reads {Cs = take 2 (drop 1 ctime_message_row)} bsd_date (drop 4 ctime_message_row) _ _ _ _
    {x = c.blanks.result} (c.weekday.ensures next c.and_then.ensures next end) (λ e. cc) c.in_ok-date.ensures
    (c.in_ok-msg.ensures.1 then beginning_front c.in_ok-bracket.ensures.1 then refl) in
    says_once Bracketed ctime_message_row ctime_message_sent ctime_message_det
    (row_of ctime_message_row (c.blanks.ensures then p)) refl
