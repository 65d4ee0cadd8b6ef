use Rattle.syslog_command_line.proofs.Names.{length, get_or, digits_value_short, numerals_by_value, tells_by_index}
use Rattle.syslog_command_line.proofs.Names.{IsInRange, ℕ, ◌<◌, arith, rules, refl, w32, IsYear}
use Rattle.std.{proofs.lemmas.Result.Ok-from_Ok_iff, proofs.lemmas.Str.Parse.parse_signed_digits}
use Rattle.syslog_command_line.proofs.args.read_year.Goals as goal

pub returns : goal.returns
returns c =
    let text = c.args.text.now in
    let is_year : IsYear text = search rules in
    let digits : (i : ℕ) → i < length text → IsInRange 48 57 (get_or text i 0) = λ i within. is_year.2 i 0 within in
    let by_index = numerals_by_value (λ ds. (i : ℕ) → i < length ds → IsInRange 48 57 (get_or ds i 0)) tells_by_index in
    let small = digits_value_short by_index text 4 digits (omega (arith, is_year.1)) in
    let read = Ok-from_Ok_iff c.parse.result _ _
    (parse_signed_digits by_index w32 text c.parse.result c.parse.ensures.value.0 digits)
    (omega (arith, is_year.0), omega (arith, small)) in
    rw (c.ok.ensures.value, read) (is_year, refl)
