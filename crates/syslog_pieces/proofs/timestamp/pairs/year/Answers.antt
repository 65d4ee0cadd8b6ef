use Rattle.syslog_pieces.proofs.Names.{rules}
use Rattle.syslog_pieces.specs.Timestamp.Rfc3339.{year}
use Rattle.syslog_pieces.proofs.TimestampLemmas.Digits.{bytes_cut, bytes_front, no_bytes_front, year_ascii}
use Rattle.syslog_pieces.proofs.timestamp.pairs.year.Goals as goal

pub split_at-requires : goal.split_at-requires
split_at-requires c = bytes_cut year (λ p q r v h. h) (year_ascii) _ c.utf8.text
    (rw c.as_bytes.ensures.value at c.in_ok-year.ensures)

pub returns-in_err-year : goal.returns-in_err-year
returns-in_err-year c =
    let n = no_bytes_front year (λ p q r v h. h) (year_ascii) _ c.utf8.text
    (rw c.as_bytes.ensures.value at c.in_err-year.ensures) in search rules

pub returns : goal.returns
returns c = bytes_front year (λ p q r v h. h) (year_ascii) _ c.utf8.text
    (rw c.as_bytes.ensures.value at c.in_ok-year.ensures) _ c.split_at.ensures.back
