-- The lines of the port that keep their reading, by their fields alone: this project's own choice. 32 is a space,
-- 34 `"`, 37 `%`, 60 `<`, 40 `(`, 45 `-`, 47 `/`, 58 `:`, 91 `[`, 123 `{`.
use Rattle.std.specs.Prelude.{◌≡◌, ◌≢◌, ◌⊎◌, ◌∷◌, ◌&&◌, ◌||◌, ℕ, nat_eq, Bool, true, false, List, [], None, Some}
use Rattle.std.specs.Prelude.{◌<◌, IsSome, IsTrue, codes, nat_lt, not, length, slice_index}
use Rattle.std.specs.Char.{is_ascii_digit}
use Rattle.syslog_text.specs.Pieces.Class.{Ends, Text, Class, Front, Row, exactly}
use Rattle.syslog_text.specs.Pieces.View.{seen, shown, text_eq}
use Rattle.syslog_text.specs.Text.{is_tag_char}
use Rattle.syslog_elements.specs.StructuredData.Visited.{list_elements}
use Rattle.syslog_loose.specs.declared.line.Line.{Line}
use Rattle.syslog_named_forms.specs.Devices.{opens_address}
use Rattle.syslog_dialects.specs.Paired.{IsPaired}
use Rattle.syslog_sent.specs.Named.{is_letter, is_number}

-- a colon that no word follows at once, as one does in `src="10.0.0.5:51234"`, or the bracket before a process id
abbrev pub mark : Class
mark = record { Value = Unit {0}; Is = λ p q _. ((p ≡ 58 ∷ []) × Ends is_tag_char q) ⊎ (p ≡ 91 ∷ []) }

-- a space, the host, a space and the app name, and what ends a tag
abbrev pub tag_row : Text → Text → List Class
tag_row host app = exactly (32 ∷ []) ∷ exactly host ∷ exactly (32 ∷ []) ∷ exactly app ∷ mark ∷ []

-- they begin the text
abbrev pub IsTag : Text → Text → Text → Type 0
IsTag host app text = (more : Text) × Front (Row (tag_row host app)) text more (tt, (tt, (tt, (tt, (tt, tt)))))

abbrev pub is_nothing : Text → Bool
is_nothing [] = true
is_nothing (c ∷ cs) = false

-- an object of JSON, a bracket of either kind, or a quote
abbrev pub opens_brackets : Text → Bool
opens_brackets [] = false
opens_brackets (c ∷ cs) = nat_eq c 123 || (nat_eq c 91 || (nat_eq c 34 || nat_eq c 60))

-- a year, and `-` or a slash
abbrev pub opens_day : Text → Bool
opens_day (a ∷ b ∷ c ∷ d ∷ e ∷ more) = ((is_ascii_digit a && is_ascii_digit b) && (is_ascii_digit c && is_ascii_digit
    d))
    && (nat_eq e 45 || nat_eq e 47)
opens_day _ = false

-- what begins a message and the port takes for an app name: nothing, a number, a bracket, a quote, an object, a date,
-- or one of these words
abbrev pub is_odd_app : Text → Bool
is_odd_app app = is_nothing app || (is_number app || (opens_brackets app || (opens_day app
    || (text_eq app (codes "CEF") || (text_eq app (codes "LEEF") || text_eq app (codes "Severity"))))))

-- with these they begin
abbrev pub begins_oddly : ℕ → Bool
begins_oddly c = is_ascii_digit c || (nat_eq c 123 || (nat_eq c 91 || (nat_eq c 34 || (nat_eq c 60 || (nat_eq c 67
    || (nat_eq c 76 || nat_eq c 83))))))

-- the first is that of one of the words, and the second is not that of the same word
abbrev pub begin_no_word : ℕ → ℕ → Bool
begin_no_word c d = ((nat_eq c 67 || nat_eq c 76) && not (nat_eq d 69)) || (nat_eq c 83 && not (nat_eq d 101))

-- the first two bytes are there, and no odd app name begins with them
abbrev pub BeginsPlainly : List ℕ → Type 0
BeginsPlainly bytes = (1 < length bytes)
    × IsTrue (not (begins_oddly (slice_index bytes 0)) || begin_no_word (slice_index bytes 0) (slice_index bytes 1))

-- what the port takes for a host and is the level of a line of ESXi: two letters and a bracket, as in `In(182)`
abbrev pub is_level_mark : Text → Bool
is_level_mark (a ∷ b ∷ c ∷ more) = (is_letter a && is_letter b) && nat_eq c 40
is_level_mark _ = false

-- with `%` begins a mnemonic of Cisco's, or a unit of Dell's, and no host
abbrev pub opens_mnemonic : Text → Bool
opens_mnemonic [] = false
opens_mnemonic (c ∷ cs) = nat_eq c 37

-- this byte is at this place
abbrev pub has_byte : ℕ → ℕ → List ℕ → Bool
has_byte place byte bytes = nat_lt place (length bytes) && nat_eq (slice_index bytes place) byte

-- the two together are no host and no tag
abbrev pub is_odd : Text → Text → Bool
is_odd host app = is_odd_app app || (opens_address app || (opens_mnemonic host || is_level_mark host))

-- the line has a timestamp, and after it its host and its app name, as a tag, which are a host and a tag
pub record IsTagged (line : Line) : Type 0 where
  pub dated : IsSome line.timestamp
  pub host : Text
  pub app : Text
  pub is_host : seen line.hostname ≡ Some host
  pub is_app : seen line.appname ≡ Some app
  pub plain : is_odd host app ≡ false
  pub tag : IsTag host app (shown line.rest)

-- of RFC 5424 and without Check Point's element; or else with a strict element, or with a timestamp, a host and a tag
abbrev pub IsOrdinary : Line → Type 0
IsOrdinary line = (IsSome line.version × (IsPaired line → ⊥))
    ⊎ ((line.version ≡ None) × ((list_elements line.list ≢ []) ⊎ IsTagged line))
