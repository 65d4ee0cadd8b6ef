use Rattle.syslog_pieces.proofs.Names.{refl}
use Rattle.syslog_pieces.proofs.TimestampLemmas.Digits.{decimals_front, three, six, nine}
use Rattle.syslog_pieces.proofs.timestamp.digits.few_decimals.Goals as goal

pub returns-then-not-begins_with_digit : goal.returns-then-not-begins_with_digit
returns-then-not-begins_with_digit c =
    rw c.in_ok-milli.ensures.text
    (decimals_front _ (three _ c.in_ok-milli.ensures.small refl) c.if-not-begins_with_digit.ensures)

pub returns-then-not-begins_with_digit-2 : goal.returns-then-not-begins_with_digit-2
returns-then-not-begins_with_digit-2 c =
    rw (c.in_ok-milli.ensures.text, c.in_ok-micro.ensures.text) (decimals_front _ (six _ c.in_ok-milli.ensures.small _
    c.in_ok-micro.ensures.small refl) c.if-not-begins_with_digit-2.ensures)

pub returns : goal.returns
returns c =
    rw (c.in_ok-milli.ensures.text, c.in_ok-micro.ensures.text, c.in_ok-nano.ensures.text) (decimals_front _ (nine _
    c.in_ok-milli.ensures.small _ c.in_ok-micro.ensures.small _ c.in_ok-nano.ensures.small refl)
    c.if-begins_with_digit.ensures)
