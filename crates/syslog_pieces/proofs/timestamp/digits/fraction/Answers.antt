use Rattle.syslog_pieces.proofs.Names.{rules}
use Rattle.syslog_pieces.proofs.TimestampLemmas.Digits.{first_rest, fraction_reads, no_dot_front}
use Rattle.syslog_pieces.proofs.timestamp.digits.fraction.Goals as goal

pub returns-in-46 : goal.returns-in-46
returns-in-46 c = fraction_reads _ _ _ (first_rest _ 46 c.in-46.len_at_least (search rules)) c.decimals.ensures

pub returns-in_default : goal.returns-in_default
returns-in_default c = no_dot_front _ (search rules)
