-- The zone that a sender shows after the time: an offset in digits, or a name. 46 is `.`, 58 `:`.
--
-- The names are the alphabetic abbreviations that the IANA time zone database (2024b) has for a zone today, `Z`, and
-- `DST`, which Huawei's devices show in summer (VRP, "Log format"). UTC, GMT and Z are offset 0. The others are not:
-- IST is the time of India, of Israel and of Ireland.
use Rattle.std.proofs.Common.{inl, inr}
use Rattle.std.specs.Prelude.{◌≡◌, ◌⊎◌, ◌||◌, ℕ, ℤ, pos, Bool, true, false, if◌then◌else◌, List, [], ◌∷◌, Option}
use Rattle.std.specs.Prelude.{Some, None}
use Rattle.std.specs.Prelude.{◌&&◌, codes, length, nat_eq, nat_le, nat_lt, slice_index, unwrap_or, map, chars}
use Rattle.syslog_text.specs.Pieces.Class.{Text, Class, Row, Ends, run, some_run, exactly, optional, mapped, texted}
use Rattle.syslog_text.specs.Pieces.Rules.{such_that}
use Rattle.syslog_text.specs.Pieces.View.{text_eq}
use Rattle.syslog_text.specs.Text.{is_blank, is_tag_char, colon}
use Rattle.syslog_pieces.specs.Timestamp.Rfc3339.{pair, sign, seconds_of}
use Rattle.syslog_sent.specs.Named.{◌otherwise◌}

-- ---- words

-- a maximal run without white space and colons, which means itself
abbrev pub bare_word : Class
bare_word = texted (some_run is_tag_char)

-- a piece of the class that such a word ends with
abbrev pub ended : Class → Class
ended C = record { Value = C.Value; Is = λ p q v. C.Is p q v × Ends is_tag_char q }

-- whether it is one of the texts
abbrev pub is_among : Text → List Text → Bool
is_among t [] = false
is_among t (u ∷ us) = text_eq u t || is_among t us

-- ---- an offset

-- two digits after a colon or none
abbrev pub minutes_row : List Class
minutes_row = optional (exactly colon) ∷ pair 60 ∷ []

abbrev pub minutes : Class
minutes = mapped (Row minutes_row) ℕ (λ v. v.1.0)

-- the minutes, 0 where they are left out
abbrev pub some_minutes : Class
some_minutes = mapped (optional minutes) ℕ (λ m. unwrap_or m 0)

-- `+HH:MM`, `+HHMM` or `+HH`
abbrev pub offset_row : List Class
offset_row = sign ∷ pair 24 ∷ some_minutes ∷ []

-- in seconds
abbrev pub mapped_offset : Class
mapped_offset = mapped (Row offset_row) ℤ seconds_of

abbrev pub numeric_offset : Class
numeric_offset = ended mapped_offset

-- ---- a name

abbrev pub universal_names : List Text
universal_names = map chars (codes "UTC" ∷ codes "GMT" ∷ codes "Z" ∷ [])

abbrev pub zone_words : List (List ℕ)
zone_words =
    codes "UTC" ∷ codes "GMT" ∷ codes "Z" ∷ codes "CET" ∷ codes "CEST" ∷ codes "EST" ∷ codes "EDT" ∷ codes "CST"
    ∷ codes "CDT" ∷ codes "MST" ∷ codes "MDT" ∷ codes "PST" ∷ codes "PDT" ∷ codes "AKST" ∷ codes "AKDT" ∷ codes "HST"
    ∷ codes "HDT" ∷ codes "AST" ∷ codes "ADT" ∷ codes "NST" ∷ codes "NDT" ∷ codes "WET" ∷ codes "WEST" ∷ codes "BST"
    ∷ codes "IST" ∷ codes "MET" ∷ codes "MEST" ∷ codes "EET" ∷ codes "EEST" ∷ codes "MSK" ∷ codes "SAST" ∷ codes "WAT"
    ∷ codes "CAT" ∷ codes "EAT" ∷ codes "IDT" ∷ codes "PKT" ∷ codes "WIB" ∷ codes "WITA" ∷ codes "WIT" ∷ codes "HKT"
    ∷ codes "KST" ∷ codes "JST" ∷ codes "AWST" ∷ codes "ACST" ∷ codes "ACDT" ∷ codes "AEST" ∷ codes "AEDT"
    ∷ codes "NZST" ∷ codes "NZDT" ∷ codes "ChST" ∷ codes "SST" ∷ codes "DST" ∷ []

abbrev pub zone_names : List Text
zone_names = map chars zone_words

-- at most four bytes, of which the first is a capital letter, as each of the names
abbrev pub has_shape : List ℕ → Bool
has_shape t = nat_lt 0 (length t) && (nat_le (length t)
    4 && (nat_le 65 (slice_index t 0) && nat_le (slice_index t 0) 90))

-- a capital letter
abbrev pub is_capital : ℕ → Bool
is_capital c = nat_le 65 c && nat_le c 90

abbrev pub IsZoneName : Text → Type 0
IsZoneName t = is_among t zone_names ≡ true

abbrev pub zone_name : Class
zone_name = such_that bare_word IsZoneName

-- ---- the zone

-- the offset of a name, where it is known
abbrev pub name_offset : Text → Option ℤ
name_offset name = if is_among name universal_names then Some (pos 0) else None

-- the offset that it is known to be
abbrev pub offset_of : ℤ ⊎ Text → Option ℤ
offset_of (inl seconds) = Some seconds
offset_of (inr name) = name_offset name

abbrev pub zone_mark : Class
zone_mark = mapped (numeric_offset otherwise zone_name) (Option ℤ) offset_of

-- a sign or a capital letter, with which a zone begins
abbrev pub begins_zone : ℕ → Bool
begins_zone c = nat_eq c 43 || (nat_eq c 45 || is_capital c)

-- blanks or none before it
abbrev pub zone_row : List Class
zone_row = run is_blank ∷ zone_mark ∷ []

abbrev pub zone : Class
zone = mapped (Row zone_row) (Option ℤ) (λ v. v.1.0)
