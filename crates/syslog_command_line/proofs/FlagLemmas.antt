-- Flags, and the words that give them.
use Rattle.syslog_command_line.proofs.Names.{◌≡◌, ◌<◌, ◌∷◌, ◌++◌, ◌∙◌, ℕ, [], List, ap, arith, false}
use Rattle.syslog_command_line.proofs.Names.{get_or, length, refl, subst, sym, true}
use Rattle.std.proofs.Common.{Bool, filter, if◌then◌else◌, nat_eq}
use Rattle.std.specs.Cmp.Lexicographic.{pointwise}
use Rattle.syslog_loose.specs.declared.today.Today.{Today}
use Rattle.syslog_command_line.proofs.WordLemmas.{no_flag}
use Rattle.syslog_command_line.specs.Flags.{IsValue, flag_number, flag_word, takes_value}
use Rattle.syslog_command_line.specs.Options.{GivenFlag, given_words, value_words}
use Rattle.syslog_command_line.specs.Words.{AreDateWords}
use Rattle.syslog_command_line.specs.declared.flags.Flag.{Flag}
use Rattle.syslog_command_line.specs.declared.flags.Flag.TheVariants.{Raw, NoDialects, Latin1, Offset, Zone, Nul}
use Rattle.syslog_command_line.specs.declared.flags.Flag.TheVariants.{OctetCounted, MaxLine, Severity, Host, App, Csv}

-- ---- each flag is known by its number and by its word

abbrev all_flags : List Flag
all_flags =
    Raw ∷ NoDialects ∷ Latin1 ∷ Offset ∷ Zone ∷ Nul ∷ OctetCounted ∷ MaxLine ∷ Severity ∷ Host ∷ App ∷ Csv ∷ []

abbrev flag_at : ℕ → Flag
flag_at n = get_or all_flags n Raw

abbrev flag_with : List ℕ → Flag
flag_with word = get_or (filter (λ flag. pointwise nat_eq (flag_word flag) word) all_flags) 0 Raw

-- what is looked up of a flag: that its number and its word are its own, that its word is no date, and that its only
-- value is empty if it takes none
abbrev IsRow : Flag → Type 0
IsRow flag = (flag_at (flag_number flag) ≡ flag) × (flag_with (flag_word flag) ≡ flag) × (flag_number flag < 12)
    × (get_or (flag_word flag) 0 0 ≡ 45) × (2 < length (flag_word flag))
    × ((text : List ℕ) → takes_value flag ≡ false → IsValue flag text → text ≡ [])
    × (takes_value flag ≡ false → IsValue flag [])

row : (flag : Flag) → IsRow flag
row Offset = (refl, refl, omega arith, refl, omega arith, λ text none is. cc, λ none. cc)
row Zone = (refl, refl, omega arith, refl, omega arith, λ text none is. cc, λ none. cc)
row MaxLine = (refl, refl, omega arith, refl, omega arith, λ text none is. cc, λ none. cc)
row Severity = (refl, refl, omega arith, refl, omega arith, λ text none is. cc, λ none. cc)
row Host = (refl, refl, omega arith, refl, omega arith, λ text none is. cc, λ none. cc)
row App = (refl, refl, omega arith, refl, omega arith, λ text none is. cc, λ none. cc)
row flag = (refl, refl, omega arith, refl, omega arith, λ text none is. is, λ none. refl)

pub number_within : (flag : Flag) → flag_number flag < 12
number_within flag = (row flag).2

pub same_by_number : (flag other : Flag) → flag_number flag ≡ flag_number other → flag ≡ other
same_by_number flag other same = sym (row flag).0 ∙ ap flag_at same ∙ (row other).0

pub same_by_word : (flag other : Flag) → flag_word flag ≡ flag_word other → flag ≡ other
same_by_word flag other same = sym (row flag).1 ∙ ap flag_with same ∙ (row other).1

-- the words of a flag and more are no date
pub flag_no_date : (flag : Flag) (words rest : List (List ℕ)) (today : Today)
    → words ≡ flag_word flag ∷ rest → AreDateWords words today → ⊥
flag_no_date flag words rest today first dated =
    no_flag words rest (flag_word flag) today (row flag).3 (row flag).4 first dated

-- ---- words begin with one flag and one value

value_same : (takes : Bool) (x y : List ℕ) (rest left : List (List ℕ)) → (takes ≡ false → x ≡ [])
    → (takes ≡ false → y ≡ [])
    → (if takes then x ∷ [] else []) ++ rest ≡ (if takes then y ∷ [] else []) ++ left → (x ≡ y) × (rest ≡ left)
value_same true x y rest left no_x no_y same =
    let both : x ∷ rest ≡ y ∷ left = same in
    (ap (λ (ws : List (List ℕ)). get_or ws 0 []) both, (let after : rest ≡ left = cc in after))
value_same false x y rest left no_x no_y same = (no_x refl ∙ sym (no_y refl), same)

one_value : (flag : Flag) (x y : List ℕ) (rest left : List (List ℕ)) → IsValue flag x → IsValue flag y
    → value_words flag x ++ rest ≡ value_words flag y ++ left → (x ≡ y) × (rest ≡ left)
one_value flag x y rest left is_x is_y same = value_same (takes_value flag) x y rest left
    (λ none. (row flag).5 x none is_x) (λ none. (row flag).5 y none is_y) same

same_given : (one other : GivenFlag) → one.flag ≡ other.flag → one.value ≡ other.value → one ≡ other
same_given one other flag value =
    let first : one ≡ record { flag = other.flag; value = one.value } =
    subst (λ (f : Flag). one ≡ record { flag = f; value = one.value }) flag refl in
    subst (λ (v : List ℕ). one ≡ record { flag = other.flag; value = v }) value first

pub one_beginning : (one other : GivenFlag) (rest left : List (List ℕ)) → IsValue one.flag one.value
    → IsValue other.flag other.value → given_words one ++ rest ≡ given_words other ++ left → (one ≡ other)
    × (rest ≡ left)
one_beginning one other rest left is also same =
    let both : flag_word one.flag ∷ (value_words one.flag one.value ++ rest)
    ≡ flag_word other.flag ∷ (value_words other.flag other.value ++ left) = same in
    let word : flag_word one.flag ≡ flag_word other.flag = ap (λ (ws : List (List ℕ)). get_or ws 0 []) both in
    let flag : one.flag ≡ other.flag = same_by_word one.flag other.flag word in
    let tail : value_words one.flag one.value ++ rest ≡ value_words other.flag other.value ++ left = cc in
    let (value, after) = one_value other.flag one.value other.value rest left
    (subst (λ (f : Flag). IsValue f one.value) flag is) also
    (subst (λ (f : Flag). value_words f one.value ++ rest ≡ value_words other.flag other.value ++ left) flag tail) in
    (same_given one other flag value, after)

-- ---- the words after a flag's

pub no_value : (flag : Flag) (words : List (List ℕ)) → takes_value flag ≡ false
    → IsValue flag [] × (words ≡ value_words flag [] ++ words)
no_value flag words none = ((row flag).6 none, rw none refl)

pub first_value : (flag : Flag) (value : List ℕ) (words rest : List (List ℕ)) → takes_value flag ≡ true
    → words ≡ value ∷ rest → words ≡ value_words flag value ++ rest
first_value flag value words rest takes first = rw takes first

pub value_missing : (flag : Flag) (words : List (List ℕ)) → takes_value flag ≡ true → words ≡ []
    → (value : List ℕ) (rest : List (List ℕ)) → words ≡ value_words flag value ++ rest → ⊥
value_missing flag words takes none value rest listed =
    let both : [] ≡ value ∷ rest = rw takes at (sym none ∙ listed) in (cc)
