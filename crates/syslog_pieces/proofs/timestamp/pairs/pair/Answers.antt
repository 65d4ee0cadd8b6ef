use Rattle.syslog_pieces.proofs.Names.{rules}
use Rattle.syslog_pieces.specs.Timestamp.Rfc3339.{pair}
use Rattle.syslog_pieces.proofs.TimestampLemmas.Digits.{bytes_cut, bytes_front, no_bytes_front, pair_ascii}
use Rattle.syslog_pieces.proofs.timestamp.pairs.pair.Goals as goal

pub split_at-requires : goal.split_at-requires
split_at-requires c = bytes_cut (pair c.args.limit) (λ p q r v h. h) (pair_ascii c.args.limit c.requires) _ c.utf8.text
    (rw c.as_bytes.ensures.value at c.in_ok-number.ensures)

pub returns-in_err-number : goal.returns-in_err-number
returns-in_err-number c =
    let n = no_bytes_front (pair c.args.limit) (λ p q r v h. h) (pair_ascii c.args.limit c.requires) _ c.utf8.text
    (rw c.as_bytes.ensures.value at c.in_err-number.ensures) in search rules

pub returns : goal.returns
returns c = bytes_front (pair c.args.limit) (λ p q r v h. h) (pair_ascii c.args.limit c.requires) _ c.utf8.text
    (rw c.as_bytes.ensures.value at c.in_ok-number.ensures) _ c.split_at.ensures.back
