use Rattle.syslog_pieces.proofs.Names.{inl, inr, ℕ, ◌≡◌, ◌-◌, ◌<◌, ◌≤◌, List, length, get_or, take, sym, ap, ◌∙◌, arith}
use Rattle.syslog_pieces.proofs.Names.{length-take, cases_lt, IsAsciiDigit, fraction_value, at_drop_all, get_or-take}
use Rattle.jiff_fmt.proofs.ReaderLemmas.{fraction_value-nil}
use Rattle.syslog_pieces.proofs.TimestampLemmas.Digits.{all_decimals, no_decimals, step_on, step_past}
use Rattle.syslog_pieces.proofs.timestamp.digits.many_decimals.Goals as goal

pub returns-then-len-eq0 : goal.returns-then-len-eq0
returns-then-len-eq0 c = no_decimals _ (sym c.digits_len-len.ensures.len ∙ c.if-len-eq0.true)

-- a digit of the front
small_digit : (text front : List ℕ) (len i : ℕ) → front ≡ take len text → i < length front
    → ((k : ℕ) → k < len → IsAsciiDigit (get_or text k 0)) → get_or front i 0 - 48 ≤ 9
small_digit text front len i e h digits =
    let within : i < len = omega (arith, ap length e, length-take len text) in
    rw (e, get_or-take len text i 0 within) (omega (arith, (digits i within).1))

pub digits-preserved : goal.digits-preserved
digits-preserved c =
    let (worth, bound, so_far) = c.digits.invariant in
    let ds = c.split_at.result.0.now in
    let i = c.digits.byte-index in
    let small = small_digit _ _ _ _ c.split_at.ensures.front c.digits-test.true c.digits_len-len.ensures.digits in
    let value : c.digit_value.result ≡ get_or ds i 0 - 48 = omega (arith, c.digit_value.ensures) in
    elim (cases_lt i 9) [
      | inl lt ↦ step_on ds i c.digits.nanosecond c.digit_value.result c.digits.place _ (9 - i) _
          c.digits-test.true value (rw value small) worth bound so_far (omega arith)
      | inr past ↦ step_past ds i c.digits.nanosecond c.digit_value.result c.digits.place _ (9 - i) _
          c.digits-test.true value (rw value small) worth bound so_far (omega arith) (omega arith)
    ]

pub returns : goal.returns
returns c =
    let none = at_drop_all (fraction_value (9 - c.digits.byte-index)) _ _ c.digits-test.false ∙ fraction_value-nil _ in
    let value : c.digits.nanosecond ≡ fraction_value 9 c.split_at.result.0.now =
    omega (arith, none, c.digits.invariant.2) in
    all_decimals _ _ _ _ _ c.digits_len-len.ensures.len (omega (arith, c.split_at.ensures.front_len))
    c.split_at.ensures.front
    c.split_at.ensures.back value
