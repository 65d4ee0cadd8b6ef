-- The words that a filter with dates is called with.
use Rattle.syslog_command_line.proofs.Names.{digits_value_short, numerals_by_value, tells_by_index, [], length, get_or}
use Rattle.syslog_command_line.proofs.Names.{IsInRange, NamesDate, end_word, ◌≡◌, List, ◌++◌, append-nil, arith, ℕ, ℤ}
use Rattle.syslog_command_line.proofs.Names.{◌<◌, ◌≤◌, ◌∷◌, pos, ap, inl, inr, sym, ◌∙◌}
use Rattle.std.proofs.Common.{◌≤ℤ◌}
use Rattle.std.{proofs.lemmas.Int.ints, proofs.lemmas.List.Elements.Contains-append_right}
use Rattle.jiff.specs.Words.{IsYear as IsCalendarYear}
use Rattle.syslog_loose.specs.Today.{HasYear}
use Rattle.syslog_loose.specs.declared.today.Today.{Today}
use Rattle.syslog_loose.specs.declared.today.Today.TheVariants.{Day, Month, Year}
use Rattle.syslog_command_line.{specs.Arguments.NamesYear, specs.declared.words.Wrong.Wrong}
use Rattle.syslog_command_line.specs.declared.words.Wrong.TheVariants.{Word, Missing, Unreadable}
use Rattle.syslog_command_line.specs.Words.{AreDateWords, IsAmong}

-- ---- ranges

year_in_range : (text : List ℕ) (year : ℤ) → NamesYear text year → (pos 0 ≤ℤ year) × (year ≤ℤ pos 9999)
year_in_range text year (is, value) =
    let digits : (i : ℕ) → i < length text → IsInRange 48 57 (get_or text i 0) = λ i within. is.2 i 0 within in
    let by_index = numerals_by_value (λ ds. (i : ℕ) → i < length ds → IsInRange 48 57 (get_or ds i 0)) tells_by_index in
    let small = digits_value_short by_index text 4 digits (omega (arith, is.1)) in
    rw value (omega (arith, ints), omega (arith, ints, small))

named_year : (text : List ℕ) (year : ℤ) → NamesYear text year → IsCalendarYear year
named_year text year named =
    let (low, high) = year_in_range text year named in (omega (arith, ints, low), high)

pub date_has_year : (words : List (List ℕ)) (today : Today) → AreDateWords words today → HasYear today
date_has_year words (Year year) (word, listed, named) = named_year word year named
date_has_year words (Month year month) (word, listed, named) = named_year named.0 year named.1
date_has_year words (Day day) dated = tt

-- ---- flags are no dates

year_digit : (word rest text : List ℕ) (year : ℤ) → NamesYear word year → text ≡ word ++ rest → 48 ≤ get_or text 0 0
year_digit [] rest text year named same = absurd (omega (arith, named.0.0))
year_digit (x ∷ word) rest text year named same =
    let digit : IsInRange 48 57 x = named.0.2 0 0 (omega (arith, named.0.0)) in rw same digit.0

first_digit : (text : List ℕ) (today : Today) → NamesDate text today → 48 ≤ get_or text 0 0
first_digit text (Year year) named = year_digit text [] text year named (sym (append-nil text))
first_digit text (Month year month) (word, named, low, high, same) = year_digit word _ text year named same
first_digit text (Day day) (word, named, same) = year_digit word _ text day.year named same

pub no_flag : (words rest : List (List ℕ)) (flag : List ℕ) (today : Today) → get_or flag 0 0 ≡ 45
    → 2 < length flag → words ≡ flag ∷ rest → AreDateWords words today → ⊥
no_flag words rest flag today dash long first (word, inl alone, named) =
    let same : flag ≡ word = ap (λ (ws : List (List ℕ)). get_or ws 0 []) (sym first ∙ alone) in
    let digit = first_digit word today named in
    omega (arith, digit, ap (λ (w : List ℕ). get_or w 0 0) same)
no_flag words rest flag today dash long first (word, inr dashed, named) =
    let same : flag ≡ end_word = ap (λ (ws : List (List ℕ)). get_or ws 0 []) (sym first ∙ dashed) in
    omega (arith, ap (λ (w : List ℕ). length w) same)

-- after `--` the words are one date
pub date_after_dash : (words rest : List (List ℕ)) (today : Today) → words ≡ end_word ∷ rest
    → ((word : List ℕ) → rest ≡ word ∷ [] → NamesDate word today → ⊥) → AreDateWords words today → ⊥
date_after_dash words rest today first none (word, inl alone, named) =
    let same : end_word ≡ word = ap (λ (ws : List (List ℕ)). get_or ws 0 []) (sym first ∙ alone) in
    let digit = first_digit word today named in
    omega (arith, digit, ap (λ (w : List ℕ). get_or w 0 0) same)
date_after_dash words rest today first none (word, inr dashed, named) =
    none word (let same : rest ≡ word ∷ [] = cc in same) named

-- ---- a wrong word

-- what is among later words is among all
pub among_later : (front rest : List (List ℕ)) (words : List (List ℕ)) (wrong : Wrong) → words ≡ front ++ rest
    → IsAmong rest wrong → IsAmong words wrong
among_later front rest words (Word word) split among = rw split (Contains-append_right front rest word.now among)
among_later front rest words Missing split among = tt
among_later front rest words Unreadable split among = absurd among
