-- Texts of one line.
use Rattle.syslog_loose.specs.Words.{ℕ, Bool, not, nat_eq, Text, Each}

abbrev pub is_no_feed : ℕ → Bool
is_no_feed c = not (nat_eq c 10)

-- the text has no line feed
abbrev pub IsOneLine : Text → Type 0
IsOneLine text = Each is_no_feed text
