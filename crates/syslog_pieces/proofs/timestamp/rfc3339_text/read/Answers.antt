use Rattle.syslog_pieces.proofs.Names.{arith, rules, stamp_text}
use Rattle.syslog_pieces.proofs.TimestampLemmas.Digits.{bytes_cut, bytes_front, no_bytes_front, stamp_ascii}
use Rattle.syslog_pieces.proofs.TimestampLemmas.Rfc3339.{stamp_alone, text_long}
use Rattle.syslog_pieces.proofs.timestamp.rfc3339_text.read.Goals as goal

pub returns-then-bytes-lt-LEAST : goal.returns-then-bytes-lt-LEAST
returns-then-bytes-lt-LEAST c =
    no_bytes_front stamp_text stamp_alone stamp_ascii _ c.utf8.text (λ p q v e h.
    let long = text_long (record { piece = p; whole = e; is = h }) in
    absurd (omega arith))

pub split_at-requires : goal.split_at-requires
split_at-requires c =
    bytes_cut stamp_text stamp_alone stamp_ascii _ c.utf8.text
    (rw c.as_bytes-bytes.ensures.value at c.in_ok-written.ensures)

pub returns-in_err-written : goal.returns-in_err-written
returns-in_err-written c =
    let n = no_bytes_front stamp_text stamp_alone stamp_ascii _ c.utf8.text
    (rw c.as_bytes-bytes.ensures.value at c.in_err-written.ensures) in search rules

pub returns : goal.returns
returns c =
    bytes_front stamp_text stamp_alone stamp_ascii _ c.utf8.text
    (rw c.as_bytes-bytes.ensures.value at c.in_ok-written.ensures) _ c.split_at.ensures.back
