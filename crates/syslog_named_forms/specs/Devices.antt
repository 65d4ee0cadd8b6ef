-- What devices write between the host and the message. 44 is a comma.
use Rattle.std.specs.Prelude.{◌&&◌, ◌||◌, ℕ, nat_eq, nat_le, Bool, IsTrue, false, if◌then◌else◌, List, [], ◌∷◌, ◌++◌}
use Rattle.std.specs.Prelude.{None, codes, suc}
use Rattle.std.specs.Char.{is_ascii_digit}
use Rattle.syslog_text.specs.Pieces.Class.{Text, Class, Values, Row, exactly, rest, run, some_run, texted}
use Rattle.syslog_text.specs.Pieces.Rules.{such_that}
use Rattle.syslog_text.specs.Text.{colon, is_blank}
use Rattle.syslog_sent.specs.Named.{NamedTexts, tagged}
use Rattle.syslog_named_forms.specs.Hosts.{host_row, program_said, program_tail}
use Rattle.syslog_sent.specs.Zone.{bare_word}

-- ---- address and version: `U6-Pro 788a20a1b2c3,U6-Pro-6.5.28+14491: hostapd[1234]: text`

-- a digit, or a letter up to F
abbrev pub is_hex : ℕ → Bool
is_hex c = is_ascii_digit c || ((nat_le 65 c && nat_le c 70) || (nat_le 97 c && nat_le c 102))

-- so many digits of an address were before it: twelve come in all, and then a comma
abbrev pub goes_on : ℕ → Text → Bool
goes_on n [] = false
goes_on n (c ∷ cs) = if nat_eq n 12 then nat_eq c 44 else (is_hex c && goes_on (suc n) cs)

abbrev pub opens_address : Text → Bool
opens_address t = goes_on 0 t

-- the address of an access point, a comma, and its model and version
abbrev pub point_word : Class
point_word = such_that bare_word (λ t. IsTrue (opens_address t))

-- UniFi access points from version 6 on
abbrev pub addressed_row : List Class
addressed_row = host_row ++ point_word ∷ exactly colon ∷ some_run is_blank ∷ program_tail

abbrev pub addressed_of : Values addressed_row → NamedTexts
addressed_of (h, (_, (_, (_, (_, tail))))) = program_said h tail

-- ---- the name of a management board, with its generation: `ilo7 #ILO 5: text`

abbrev pub title_row : List Class
title_row = exactly (codes "#ILO ") ∷ some_run is_ascii_digit ∷ []

abbrev pub titled_row : List Class
titled_row = host_row ++ texted (Row title_row) ∷ exactly colon ∷ run is_blank ∷ rest ∷ []

abbrev pub titled_of : Values titled_row → NamedTexts
titled_of (h, (_, (name, (_, (_, (m, _)))))) = tagged h (record { name = name; process = None }) m
