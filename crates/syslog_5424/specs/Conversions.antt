-- What is written for each line: this project's own choice.
use Rattle.std.specs.Prelude.{◌≡◌, ◌⊎◌, ℕ, List, Option, IfSome, IsUtf8, encode_utf8_all}
use Rattle.std.specs.Str.{chars}
use Rattle.syslog_text.specs.Pieces.Class.{Text}
use Rattle.syslog_loose.specs.Dates.{IsDated}
use Rattle.syslog_loose.specs.Message.{MessageValue}
use Rattle.syslog_loose.specs.declared.variant.Variant.TheVariants.{Either}
use Rattle.syslog_lines.specs.Output.{Answer, AreCounts, Filter, Framed, Written, Marked, Omitted, Unasked}
use Rattle.syslog_lines.specs.Frames.{frame_of}
use Rattle.syslog_lines.specs.Pump.{FiltersAll}
use Rattle.syslog_lines.specs.declared.framing.Frames.{Frames}
use Rattle.syslog_lines.specs.declared.summary.LineCounts.{LineCounts}
use Rattle.syslog_dialects.specs.SentReading.{IsReadSent, IsUnsent}
use Rattle.syslog_sent.specs.declared.dialect.Dialect.{Dialect}
use Rattle.syslog_strict.specs.{Call.NoSyslogMsg, Grammar.IsSyslogMsg}
use Rattle.syslog_strict_sent.specs.Converted.{IsSentText}
use Rattle.syslog_choice.specs.Chosen.{IsChosen}
use Rattle.syslog_utf8.specs.Decoded.{AreTakenFor}
use Rattle.syslog_5424.specs.declared.filter.Conversions.{Conversions}

-- the text that is written for a text: itself, where it is in the grammar, and otherwise the conversion of the message
-- as which it is read, in a dialect or in none
abbrev pub IsWritten : Conversions → Text → Text → Type 0
IsWritten filter input text = (IsSyslogMsg input × (text ≡ input))
    ⊎ (NoSyslogMsg input × IsDated filter.dates Either input
    (λ dating. IsSentText filter.dates dating filter.dialects Either input text))

-- the text is neither in the grammar nor a message
abbrev pub IsRefused : Conversions → Text → Type 0
IsRefused filter input = NoSyslogMsg input × IsDated filter.dates Either input
    (λ dating. IsUnsent filter.dates dating filter.dialects Either input)

-- where messages are chosen, the text is read as one of them
abbrev pub IsAskedFor : Conversions → Text → Type 0
IsAskedFor filter input = IfSome filter.choice (λ choice. IsDated filter.dates Either input
    (λ dating. (dialect : Option Dialect) × (m : MessageValue)
    × IsReadSent filter.dates dating filter.dialects Either input dialect m × IsChosen choice m))

-- what the filter gives for a text: the frame of what is written for it, encoded, or nothing if it is refused or not
-- asked for
abbrev pub IsConversion : Conversions → List ℕ → Answer → Type 0
IsConversion filter line (Framed frame) = IsAskedFor filter (chars line)
    × (text : Text) × IsSyslogMsg text × IsWritten filter (chars line) text
    × (frame ≡ frame_of filter.framing (encode_utf8_all text))
IsConversion filter line (Written bytes) = ⊥
IsConversion filter line (Marked bytes) = ⊥
IsConversion filter line Omitted = IsRefused filter (chars line)
IsConversion filter line Unasked = (¬ (IsRefused filter (chars line))) × (¬ (IsAskedFor filter (chars line)))

-- what the filter gives for a line: that for the text that the line is decoded to, which is another one if the line is
-- not UTF-8
abbrev pub IsLineConversion : Conversions → List ℕ → Answer → Type 0
IsLineConversion filter line answer =
    (text : List ℕ) × AreTakenFor filter.latin1 line text × IsConversion filter text answer

-- memory may be wanted for a line that is not refused, or is not UTF-8
abbrev pub conversions : Conversions → Filter
conversions filter = record {
  Answers = IsLineConversion filter;
  Wants = λ line. IsUtf8 line → ¬ (IsRefused filter (chars line));
}

-- all was read, what each line gives was written, and the lines were counted
abbrev pub ConvertsAll : Frames → Conversions → Option (List ℕ) → Option (List ℕ) → Option (List ℕ) → Option (List ℕ)
    → LineCounts → Type 0
ConvertsAll frames filter in_before in_after out_before out_after counts = (answers : List Answer)
    × (all : FiltersAll frames (conversions filter) in_before in_after out_before out_after answers)
    × AreCounts frames filter.latin1 all.lines answers counts
