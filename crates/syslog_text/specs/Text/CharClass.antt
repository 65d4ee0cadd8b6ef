-- Which characters belong to a class of characters.
use Rattle.std.specs.Prelude.{ℕ, Bool, nat_eq, nat_le, ◌&&◌, ◌||◌, not}
use Rattle.std.specs.Char.{is_ascii_digit, is_not_whitespace}
use Rattle.syslog_text.specs.declared.text.CharClass.{CharClass}
use Rattle.syslog_text.specs.declared.text.CharClass.TheVariants.{Digit, Blank, Visible, Id, Name}
use Rattle.syslog_text.specs.declared.text.CharClass.TheVariants.{Unescaped, Open, Inert, Bare, Tag, Label}
use Rattle.syslog_text.specs.declared.text.CharClass.TheVariants.{Printable, SdName}
use Rattle.syslog_text.specs.Text.{is_blank, is_tag_char}

-- neither `]` nor `=`
abbrev pub is_name_char : ℕ → Bool
is_name_char c = not (nat_eq c 93) && not (nat_eq c 61)

-- no white space, and neither `]` nor `=`
abbrev pub is_id_char : ℕ → Bool
is_id_char c = is_not_whitespace c && is_name_char c

-- neither a backslash nor a quote
abbrev pub is_unescaped_char : ℕ → Bool
is_unescaped_char c = not (nat_eq c 92) && not (nat_eq c 34)

-- no backslash
abbrev pub is_bare_char : ℕ → Bool
is_bare_char c = not (nat_eq c 92)

-- neither a backslash nor a quote nor `]`
abbrev pub is_inert_char : ℕ → Bool
is_inert_char c = is_unescaped_char c && not (nat_eq c 93)

-- no `]`
abbrev pub is_open_char : ℕ → Bool
is_open_char c = not (nat_eq c 93)

-- neither white space nor a colon nor `[`: the tag of the form `tag[id]`
abbrev pub is_label_char : ℕ → Bool
is_label_char c = is_tag_char c && not (nat_eq c 91)

-- PRINTUSASCII
abbrev pub is_printable_char : ℕ → Bool
is_printable_char c = nat_le 33 c && nat_le c 126

-- PRINTUSASCII but `=`, `]` and `"`
abbrev pub is_sd_name_char : ℕ → Bool
is_sd_name_char c = is_printable_char c && not (nat_eq c 61 || (nat_eq c 93 || nat_eq c 34))

abbrev pub has : CharClass → ℕ → Bool
has Digit c = is_ascii_digit c
has Blank c = is_blank c
has Visible c = is_not_whitespace c
has Id c = is_id_char c
has Name c = is_name_char c
has Unescaped c = is_unescaped_char c
has Open c = is_open_char c
has Inert c = is_inert_char c
has Bare c = is_bare_char c
has Tag c = is_tag_char c
has Label c = is_label_char c
has Printable c = is_printable_char c
has SdName c = is_sd_name_char c
