-- White space, blanks, numbers and words: the pieces that both headers are made of.
pub mod Bounded
pub mod CharClass
pub mod Canonical
pub mod Digits
use Rattle.std.specs.Prelude.{◌≡◌, ◌≢◌, ℕ, ◌<◌, ◌≤◌, ◌⊎◌, nat_eq, ◌||◌, ◌&&◌, not, Bool}
use Rattle.std.specs.Prelude.{[], ◌∷◌, ◌++◌, length, Option, Some, None, MatchOption}
use Rattle.std.specs.Char.{is_ascii_digit, is_not_whitespace}
use Rattle.std.specs.Str.{skip_leading_whitespace, drop_trailing_whitespace}
use Rattle.std.specs.Str.Parse.{digits_value}
use Rattle.syslog_text.specs.Pieces.Class.{Text, Class, Each, Ends}
use Rattle.syslog_text.specs.Pieces.View.{shown}
use Rattle.syslog_text.specs.declared.text.Field.{Field}
use Rattle.syslog_text.specs.declared.text.Field.TheVariants.{Missing, Dash, Name}

-- the text without the white space at its two ends; white space is Unicode's White_Space
abbrev pub trimmed : Text → Text
trimmed text = drop_trailing_whitespace (skip_leading_whitespace text)

-- a space or a tab
abbrev pub is_blank : ℕ → Bool
is_blank c = nat_eq c 32 || nat_eq c 9

abbrev pub dash : Text
dash = 45 ∷ []

abbrev pub colon : Text
colon = 58 ∷ []

-- a number: a maximal nonempty run of ASCII digits, with a value up to a limit
abbrev pub number : ℕ → Class
number limit = record {
  Value = ℕ;
  Is = λ p q n. (0 < length p) × Each is_ascii_digit p × Ends is_ascii_digit q × (n ≡ digits_value 10 p) × (n ≤ limit);
}

-- `-` is an absent name, any other text means itself
abbrev pub Names : Text → Option Text → Type 0
Names p v = MatchOption v (p ≡ dash) (λ t. (t ≡ p) × (p ≢ dash))

-- a name as it prints: `-` where it is absent
abbrev pub name_text : Option Text → Text
name_text None = dash
name_text (Some t) = t

-- a word of RFC 5424: a maximal nonempty run without white space, other than `:`
abbrev pub word : Class
word = record {
  Value = Option Text;
  Is = λ p q v. (0 < length p) × Each is_not_whitespace p × Ends is_not_whitespace q × (p ≢ colon) × Names p v;
}

abbrev pub EndsInColon : Text → Type 0
EndsInColon p = (front : Text) × (p ≡ front ++ colon)

-- A host is nonempty and without white space. It is either a whole run that does not end in a colon, or a run whose
-- last colon is left to what follows; in that case it means itself, even as `-`.
abbrev pub IsHost : Text → Text → Option Text → Type 0
IsHost p q v = (0 < length p) × Each is_not_whitespace p
    × (((EndsInColon p → ⊥) × Ends is_not_whitespace q × Names p v)
    ⊎ ((r : Text) × (q ≡ 58 ∷ r) × Ends is_not_whitespace r × (v ≡ Some p)))

abbrev pub host : Class
host = record { Value = Option Text; Is = IsHost }

-- neither white space nor a colon
abbrev pub is_tag_char : ℕ → Bool
is_tag_char c = is_not_whitespace c && not (nat_eq c 58)

-- a tag word of RFC 3164: a maximal nonempty run without white space and colons; `-` is a tag that is there and empty
abbrev pub tag_word : Class
tag_word =
    record { Value = Option Text; Is = λ p q v. (0 < length p) × Each is_tag_char p × Ends is_tag_char q × Names p v }

-- what a field is read as: it may be not there, or there and empty, or a text
abbrev pub field_seen : Field → Option (Option Text)
field_seen Missing = None
field_seen Dash = Some None
field_seen (Name name) = Some (Some (shown name))
