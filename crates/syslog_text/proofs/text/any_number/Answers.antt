use Rattle.syslog_text.proofs.Names.{arith, rules}
use Rattle.syslog_text.proofs.TextLemmas.Runs.{no_number, split_at_end}
use Rattle.syslog_text.proofs.TextLemmas.Words.{small_cut, small_read, number_read, number_stuck}
use Rattle.syslog_text.proofs.text.any_number.Goals as goal

pub returns-then-not-begins_with_digit : goal.returns-then-not-begins_with_digit
returns-then-not-begins_with_digit c =
    no_number _ _ c.utf8.text (rw c.as_bytes.ensures.value at c.if-not-begins_with_digit.ensures)

pub split_at-requires : goal.split_at-requires
split_at-requires c = small_cut _ _ _ c.utf8.text (rw c.as_bytes-2.ensures.value at c.in-Some.ensures)

pub returns-in-Some : goal.returns-in-Some
returns-in-Some c =
    small_read _ _ _ c.utf8.text (rw c.as_bytes-2.ensures.value at c.in-Some.ensures) _ c.split_at.ensures.back

pub number_of_digits-requires : goal.number_of_digits-requires
number_of_digits-requires c =
    (split_at_end _ _ _ _ _ c.digits_end.ensures c.split_at-2.ensures.front c.split_at-2.ensures.back).each

pub returns-in_err-value : goal.returns-in_err-value
returns-in_err-value c =
    let n = number_stuck _ _ _ (split_at_end _ _ _ _ _ c.digits_end.ensures c.split_at-2.ensures.front
    c.split_at-2.ensures.back) 4294967295
    (λ some low. c.in_err-value.ensures (some, omega (arith, low))) in search rules

pub returns : goal.returns
returns c =
    let h = c.in_ok-value.ensures in
    number_read _ _ _ (split_at_end _ _ _ _ _ c.digits_end.ensures c.split_at-2.ensures.front c.split_at-2.ensures.back)
    _ 4294967295 h (omega (arith, h.0.1, h.1))
