-- What the program's three filters give each line, and what they count: this project's own choice.
use Rattle.std.specs.Prelude.{◌≡◌, ℕ, ℤ, List, Option, Some, None, length, count_by, IsUtf8, encode_utf8_all, ⊤}
use Rattle.std.specs.Io.KnownBytes.{Appends}
use Rattle.std.specs.List.{AllZip}
use Rattle.std.specs.Str.{chars}
use Rattle.syslog_loose.specs.DashChange.{ReadsDifferently}
use Rattle.syslog_loose.specs.Reading.{IsUnreadable, in_utc}
use Rattle.syslog_loose.specs.Settling.{IsFirstSettled}
use Rattle.syslog_loose.specs.declared.variant.Variant.TheVariants.{Either}
use Rattle.syslog_lines.specs.Count.{held_count}
use Rattle.syslog_lines.specs.Frames.{plain_lines}
use Rattle.syslog_lines.specs.Lines.{IsLines}
use Rattle.syslog_lines.specs.Output.{Answer, AreAnswers, Filter, Framed, Marked, Omitted, Unasked}
use Rattle.syslog_lines.specs.Output.{Written, is_answered, is_skipped, output_of}
use Rattle.syslog_lines.specs.Pump.{FiltersAll}
use Rattle.syslog_tidy.specs.declared.counts.Changed.{Changed}
use Rattle.syslog_lines.specs.declared.summary.Summary.{Summary}

-- what a line gives, by what its text gives: encoded, or nothing where that is none or the line is not UTF-8
abbrev pub of_texts : (List ℕ → Option (List ℕ) → Type 0) → List ℕ → Answer → Type 0
of_texts Answers line (Written bytes) =
    IsUtf8 line × ((text : List ℕ) × Answers (chars line) (Some text) × (bytes ≡ encode_utf8_all text))
of_texts Answers line (Framed bytes) = ⊥
of_texts Answers line (Marked bytes) = ⊥
of_texts Answers line Omitted = IsUtf8 line → Answers (chars line) None
of_texts Answers line Unasked = ⊥

-- what the text gives is its first stable round in this year, or none where no round of it is stable
abbrev pub IsTidied : ℤ → List ℕ → Option (List ℕ) → Type 0
IsTidied year text (Some answer) = IsFirstSettled Either (in_utc year) text answer
IsTidied year text None = (answer : List ℕ) → IsFirstSettled Either (in_utc year) text answer → ⊥

-- memory may be taken for a text that parses
abbrev pub tidying : ℤ → Filter
tidying year = record {
  Answers = of_texts (IsTidied year);
  Wants = λ line. IsUtf8 line × (¬ (IsUnreadable Either (in_utc year) (chars line)));
}

-- what the text gives is the text itself where it reads differently in this year under the two rules of the dash, or
-- none
abbrev pub IsChanged : ℤ → List ℕ → Option (List ℕ) → Type 0
IsChanged year text (Some answer) = ReadsDifferently Either (in_utc year) text × (answer ≡ text)
IsChanged year text None = ¬ (ReadsDifferently Either (in_utc year) text)

-- memory may be taken for a text that gives something
abbrev pub finding_changed : ℤ → Filter
finding_changed year = record {
  Answers = of_texts (IsChanged year);
  Wants = λ line. IsUtf8 line × (¬ (IsChanged year (chars line) None));
}

-- what the line gives is the line itself where `tidying` writes nothing for it, and none where it writes something
abbrev pub IsRefused : ℤ → List ℕ → Answer → Type 0
IsRefused year line (Written bytes) = (tidying year).Answers line Omitted × (bytes ≡ line)
IsRefused year line (Framed bytes) = ⊥
IsRefused year line (Marked bytes) = ⊥
IsRefused year line Omitted = (bytes : List ℕ) × (tidying year).Answers line (Written bytes)
IsRefused year line Unasked = ⊥

-- memory may be taken for any line
abbrev pub refusing : ℤ → Filter
refusing year = record { Answers = IsRefused year; Wants = λ line. ⊤ }

-- all was read and written, and the summary counts the lines and those that gave nothing
abbrev pub TidiesAll : ℤ → Option (List ℕ) → Option (List ℕ) → Option (List ℕ) → Option (List ℕ) → Summary → Type 0
TidiesAll year in_before in_after out_before out_after summary = (answers : List Answer)
    × (all : FiltersAll plain_lines (tidying year) in_before in_after out_before out_after answers)
    × (summary.lines ≡ held_count (length all.lines)) × (summary.refused ≡ held_count (count_by is_skipped answers))

-- these bytes are what is written in the year for the lines of some bytes
abbrev pub IsOutput : ℤ → List ℕ → Type 0
IsOutput year output = (bytes : List ℕ) × (lines : List (List ℕ)) × (answers : List Answer)
    × IsLines bytes lines × AreAnswers (tidying year) lines answers × (output ≡ output_of answers)

-- where the input is what was written in the same year, it was written again, and no line was refused
abbrev pub WritesAgain : ℤ → Option (List ℕ) → Option (List ℕ) → Option (List ℕ) → Summary → Type 0
WritesAgain year in_before out_before out_after summary = (output : List ℕ) → in_before ≡ Some output
    → IsOutput year output → Appends out_before out_after output × (summary.refused ≡ 0)

-- all was read and written, and the counts are those of the lines and of those that gave something
abbrev pub FindsChanged : ℤ → Option (List ℕ) → Option (List ℕ) → Option (List ℕ) → Option (List ℕ)
    → Changed → Type 0
FindsChanged year in_before in_after out_before out_after counts = (answers : List Answer)
    × (all : FiltersAll plain_lines (finding_changed year) in_before in_after out_before out_after answers)
    × (counts.lines ≡ held_count (length all.lines)) × (counts.changed ≡ held_count (count_by is_answered answers))

-- of each of these lines exactly one is written: what `tidying` gives, or the line as it came
abbrev pub SharesOut : ℤ → List (List ℕ) → List Answer → Type 0
SharesOut year lines refused =
    (settled : List Answer) → AreAnswers (tidying year) lines settled
    → AllZip (λ s r. is_answered r ≡ is_skipped s) settled refused

-- all was read and written, the lines are shared out with those that `tidying` writes, and the summary counts the lines
-- and those that were written
abbrev pub RefusesAll : ℤ → Option (List ℕ) → Option (List ℕ) → Option (List ℕ) → Option (List ℕ) → Summary → Type 0
RefusesAll year in_before in_after out_before out_after summary = (answers : List Answer)
    × (all : FiltersAll plain_lines (refusing year) in_before in_after out_before out_after answers)
    × SharesOut year all.lines answers × (summary.lines ≡ held_count (length all.lines))
    × (summary.refused ≡ held_count (count_by is_answered answers))
