-- Runs of characters that names and keys are made of. 33 is `!`, 34 `"`.
use Rattle.std.specs.Prelude.{ℕ, Bool, true, nat_eq, nat_lt, ◌&&◌, ◌||◌, not, List, [], ◌∷◌}
use Rattle.std.specs.Char.{is_ascii_digit}
use Rattle.syslog_sent.specs.declared.runs.Run.{Run}
use Rattle.syslog_sent.specs.declared.runs.Run.TheVariants.{Word, Plain, Unquoted, Either}
use Rattle.syslog_sent.specs.Named.{is_letter}

-- a letter, a digit, `-`, `.`, `/` or `_`
abbrev pub is_word_char : ℕ → Bool
is_word_char c = is_letter c || (is_ascii_digit c || (nat_eq c 45 || (nat_eq c 46 || (nat_eq c 47 || nat_eq c 95))))

-- a letter, a digit, `!` or `-`
abbrev pub is_plain_char : ℕ → Bool
is_plain_char c = is_letter c || (is_ascii_digit c || (nat_eq c 33 || nat_eq c 45))

-- no quote
abbrev pub is_unquoted : ℕ → Bool
is_unquoted c = not (nat_eq c 34)

-- a character of one of the two
abbrev pub is_either_char : ℕ → Bool
is_either_char c = is_letter c || (is_ascii_digit c || (nat_eq c 33 || (nat_eq c 45 || (nat_eq c 46
    || (nat_eq c 47 || nat_eq c 95)))))

abbrev pub is_of : Run → ℕ → Bool
is_of Word c = is_word_char c
is_of Plain c = is_plain_char c
is_of Unquoted c = is_unquoted c
is_of Either c = is_either_char c

-- each character is ASCII
abbrev pub are_ascii : List ℕ → Bool
are_ascii [] = true
are_ascii (c ∷ cs) = nat_lt c 128 && are_ascii cs
