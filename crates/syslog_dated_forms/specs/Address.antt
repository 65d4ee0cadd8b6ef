-- An address of IPv6 as the name of a host. 58 is a colon.
use Rattle.std.specs.Prelude.{◌||◌, ◌&&◌, ℕ, Bool, false, true, nat_eq, nat_le, IsTrue, [], ◌∷◌, Some}
use Rattle.std.specs.Char.{is_ascii_digit}
use Rattle.syslog_text.specs.Pieces.Class.{Text, Class}
use Rattle.syslog_text.specs.Text.{IsHost}

-- a hexadecimal digit
abbrev pub is_hex : ℕ → Bool
is_hex c = is_ascii_digit c || ((nat_le 65 c && nat_le c 70) || (nat_le 97 c && nat_le c 102))

-- such a digit or a colon
abbrev pub is_address_char : ℕ → Bool
is_address_char c = nat_eq c 58 || is_hex c

abbrev pub are_address_chars : Text → Bool
are_address_chars [] = true
are_address_chars (c ∷ cs) = is_address_char c && are_address_chars cs

abbrev pub begins_colon : Text → Bool
begins_colon [] = false
begins_colon (c ∷ cs) = nat_eq c 58

-- two colons in a row
abbrev pub has_pair : Text → Bool
has_pair [] = false
has_pair (c ∷ cs) = (nat_eq c 58 && begins_colon cs) || has_pair cs

-- It has `::`, as all but few addresses are written, so that a time of the day is none.
abbrev pub is_address : Text → Bool
is_address t = are_address_chars t && has_pair t

-- a colon after hexadecimal digits or none, with which each address begins
abbrev pub may_begin : Text → Bool
may_begin [] = false
may_begin (c ∷ cs) = nat_eq c 58 || (is_hex c && may_begin cs)

-- a host that is an address
abbrev pub address : Class
address = record { Value = Text; Is = λ p q t. IsHost p q (Some t) × IsTrue (is_address t) }
