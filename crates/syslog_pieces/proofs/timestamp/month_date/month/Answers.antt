use Rattle.syslog_pieces.proofs.Names.{rules, month, NoFront}
use Rattle.syslog_pieces.proofs.TimestampLemmas.MonthDate.{no_month_letters, month_here, no_month_here}
use Rattle.syslog_pieces.proofs.timestamp.month_date.month.Goals as goal

pub returns-in_err-number-in-len3-up : goal.returns-in_err-number-in-len3-up
returns-in_err-number-in-len3-up c =
    let n : NoFront month c.args.bytes.now = no_month_here _ c.in-len3-up.len_at_least (search rules) in search rules

pub returns-in_ok-number-in-len3-up : goal.returns-in_ok-number-in-len3-up
returns-in_ok-number-in-len3-up c = search (rules, month_here)

pub returns-in_default : goal.returns-in_default
returns-in_default c = no_month_letters _ (search rules)
