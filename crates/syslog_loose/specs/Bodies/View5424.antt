-- What the reader of the header holds, as the meanings of its pieces, and how it appears in the text.
use Rattle.std.specs.Prelude.{◌≡◌, ◌⊎◌, ◌↔◌, ◌∷◌, ◌++◌}
use Rattle.syslog_loose.specs.Words.{ℕ, Bool, IsTrue, Option, Some, IfSome, MatchOption, Bor, List, option_map, Text}
use Rattle.syslog_loose.specs.Words.{Class, Front, NoFront, Row, some_run, is_blank, Values, seen, shown, named_process}
use Rattle.syslog_loose.specs.{Words.stamp_seen, Words.process_text, declared.line.Line.Line}
use Rattle.syslog_text.specs.Text.{name_text}
use Rattle.syslog_pieces.specs.declared.timestamp.clock.ClockStamp.{ClockStamp}
use Rattle.syslog_loose.specs.Bodies.Rows.{header_row, names_row}
use Rattle.syslog_loose.specs.Rows.{front_row, front_values, word_values, words_row}

-- blanks and such a name are at the front, before the rest; or one of the two is missing
abbrev pub ReadsSpaced : (C : Class) → (Option (Bor (List ℕ)) → C.Value) → Text
    → Option (Option (Bor (List ℕ)) × Bor (List ℕ) × Bool) → Type 0
ReadsSpaced C view text r =
    MatchOption r (NoFront (some_run is_blank) text ⊎ ((u : Text) × Front (some_run is_blank) text u tt × NoFront C u))
    (λ x. (u : Text) × Front (some_run is_blank) text u tt × Front C u (shown x.1) (view x.0))

-- whether the front is one space and the name as it prints
abbrev pub FitsSpaced : Text → Option (Option (Bor (List ℕ)) × Bor (List ℕ) × Bool) → Type 0
FitsSpaced text r = IfSome r (λ x. IsTrue x.2 ↔ (text ≡ 32 ∷ (name_text (seen x.0) ++ shown x.1)))

-- the meanings of the blanks and of the name after each
abbrev pub names_values : Line → Values names_row
names_values line = (
  tt,
  (
    seen line.hostname,
    (tt, (seen line.appname, (tt, (option_map named_process (seen line.process), (tt, (seen line.msgid, tt)))))),
  ),
)

-- the names at the front of the text, in a line of these other fields, or nothing where they are not there
abbrev pub ReadsNames5424 : Option ℕ → Option ℕ → Option ClockStamp → Bor (List ℕ) → Option (Line × Bor (List ℕ))
    → Type 0
ReadsNames5424 version priority timestamp text r = MatchOption r (NoFront (Row names_row) (shown text))
    (λ x. (x.0.version ≡ version) × (x.0.priority ≡ priority) × (x.0.timestamp ≡ timestamp) × (x.0.rest ≡ text)
    × Front (Row names_row) (shown text) (shown x.1) (names_values x.0)
    × Front (Row words_row) (shown text) (shown x.1) (word_values x.0))

-- the meanings of the pieces of a header, of this version
abbrev pub header_values : Line → ℕ → Values header_row
header_values line version = (line.priority, (version, (tt, (stamp_seen line.timestamp, names_values line))))

-- the header at the front of the text, of which the names begin the line's rest; or nothing where there is none
abbrev pub ReadsHeader : Text → Option (Line × Bor (List ℕ)) → Type 0
ReadsHeader text r = MatchOption r (NoFront (Row header_row) text) (λ x. (version : ℕ) × (x.0.version ≡ Some version)
    × Front (Row header_row) text (shown x.1) (header_values x.0 version)
    × Front (Row front_row) text (shown x.0.rest) (front_values x.0 version)
    × Front (Row words_row) (shown x.0.rest) (shown x.1) (word_values x.0))

-- host, app name, process id and message id as they print, each after a space, and more
abbrev pub names_before : Line → Text → Text
names_before line more =
    32 ∷ (name_text (seen line.hostname) ++ (32 ∷ (name_text (seen line.appname)
    ++ (32 ∷ (process_text (option_map named_process (seen line.process))
    ++ (32 ∷ (name_text (seen line.msgid) ++ more)))))))

-- The line says whether its names are in printed form before what is after them. Where they are before anything, it is
-- that.
pub record FitsNames (text : Text) (line : Line) (after : Text) : Type 0 where
  pub prints : IsTrue line.is_printed → text ≡ names_before line after
  pub only : (more : Text) → text ≡ names_before line more → IsTrue line.is_printed × (more ≡ after)
