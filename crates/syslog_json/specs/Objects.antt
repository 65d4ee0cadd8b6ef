-- What is written for each line: this project's own choice.
use Rattle.std.specs.Prelude.{◌≡◌, ◌⊎◌, ⊤, ℕ, Bool, true, false, not, List, [], ◌∷◌, ◌++◌, Option, Some, None}
use Rattle.std.specs.Prelude.{IfSome, IsSomeAnd, IsUtf8, MatchOption, take}
use Rattle.std.specs.Io.KnownBytes.{Appends}
use Rattle.std.specs.Str.{chars}
use Rattle.syslog_text.specs.Pieces.Class.{Text}
use Rattle.syslog_elements.specs.StructuredData.Visited.{list_elements}
use Rattle.syslog_loose.specs.Dates.{IsDated}
use Rattle.syslog_loose.specs.Line.{line_value}
use Rattle.syslog_loose.specs.Message.{MessageValue}
use Rattle.syslog_loose.specs.Unparsed.{IsLeftUnparsed}
use Rattle.syslog_loose.specs.declared.variant.Variant.TheVariants.{Either}
use Rattle.syslog_dialects.specs.SentReading.{IsReadSent, IsUnsent, LeavesSent}
use Rattle.syslog_sent.specs.Dialect.{dialect_text}
use Rattle.syslog_sent.specs.declared.dialect.Dialect.{Dialect}
use Rattle.syslog_dialects.specs.declared.visit.SentLine.{SentLine}
use Rattle.json.specs.Json.{Json}
use Rattle.serde_json.specs.Data.{Data}
use Rattle.serde_json.specs.Read.{of_json, read}
use Rattle.syslog_lines.specs.Output.{Answer, AreCounts, Filter, Framed, Written, Marked, Omitted, Unasked}
use Rattle.syslog_lines.specs.Pump.{EndsEarly, FiltersAll}
use Rattle.syslog_lines.specs.declared.framing.Frames.{Frames}
use Rattle.syslog_lines.specs.declared.summary.LineCounts.{LineCounts}
use Rattle.syslog_lines.specs.declared.summary.RunFault.{RunFault}
use Rattle.syslog_lines.specs.declared.summary.RunFault.TheVariants.{Write}
use Rattle.syslog_object.specs.Object.{beside_line, message_json, refused_json}
use Rattle.syslog_object.specs.Written.{IsTextOf}
use Rattle.syslog_object.specs.Writer.{HasWritten}
use Rattle.syslog_object.specs.declared.writer.ObjectWriter.{ObjectWriter}
use Rattle.syslog_choice.specs.Chosen.{IsChosen}
use Rattle.syslog_csv.specs.Records.{record_text}
use Rattle.syslog_csv.specs.Rows.{IsRowOf, columns}
use Rattle.syslog_utf8.specs.Decoded.{decoded}
use Rattle.syslog_json.specs.Marked.{marked_if}
use Rattle.syslog_json.specs.declared.objects.Objects.{Objects}

-- the line as it came, where it is asked for
abbrev pub raw_text : Bool → Text → Option Text
raw_text true text = Some text
raw_text false text = None

-- the line is read as this message, in this dialect or in none
abbrev pub IsMessage : Objects → List ℕ → Option Dialect → MessageValue → Type 0
IsMessage filter line dialect m = IsDated filter.dates Either (chars line)
    (λ dating. IsReadSent filter.dates dating filter.dialects Either (chars line) dialect m)

-- it is read as a message of which this holds
abbrev pub HasMessage : Objects → List ℕ → (MessageValue → Type 0) → Type 0
HasMessage filter line Holds = (dialect : Option Dialect) × (m : MessageValue) × IsMessage filter line dialect m
    × Holds m

-- it is no message
abbrev pub HasNoMessage : Objects → List ℕ → Type 0
HasNoMessage filter line = IsDated filter.dates Either (chars line)
    (λ dating. IsUnsent filter.dates dating filter.dialects Either (chars line))

-- the value of the message as which the line is read, with its dialect and what it leaves unparsed of structured data
abbrev pub IsReadJson : Objects → List ℕ → Json → Type 0
IsReadJson filter line value = IsUtf8 line × ((dialect : Option Dialect) × (m : MessageValue) × (unparsed : Text)
    × IsMessage filter line dialect m × LeavesSent dialect Either (chars line) unparsed
    × (value ≡ message_json m (beside_line (dialect_text dialect) unparsed (raw_text filter.raw (chars line)))))

-- the value of a line that is no message
abbrev pub IsRefusedJson : Objects → List ℕ → Json → Type 0
IsRefusedJson filter line value = IsUtf8 line × HasNoMessage filter line × (value ≡ refused_json line)

-- the value is such, and there is no other
abbrev pub IsOnly : (Json → Type 0) → Json → Type 0
IsOnly Is value = Is value × ((other : Json) → Is other → other ≡ value)

-- the bytes are the text of the value, and serde_json reads them as its own form of the value
pub record IsReadAs (value : Json) (bytes : List ℕ) : Type 0 where
  pub text : IsTextOf value bytes
  pub own : Data
  pub made : of_json value ≡ Some own
  pub read_back : read bytes ≡ Some own

-- the bytes are what is written of the value: a row of CSV where that is asked for, and its JSON otherwise
abbrev pub IsOutputOf : Bool → Json → List ℕ → Type 0
IsOutputOf true value bytes = IsRowOf value bytes
IsOutputOf false value bytes = IsReadAs value bytes

-- what the filter writes for a text: that of its only value, which may be marked; one that is no message counts as
-- skipped
abbrev pub IsValueText : (Json → List ℕ → Type 0) → Objects → Bool → List ℕ → Answer → Type 0
IsValueText IsText filter is_marked line (Written bytes) = (value : Json) × IsOnly (IsReadJson filter line) value
    × IsText (marked_if is_marked value) bytes
IsValueText IsText filter is_marked line (Marked bytes) = (value : Json) × IsOnly (IsRefusedJson filter line) value
    × IsText (marked_if is_marked value) bytes
IsValueText IsText filter is_marked line (Framed bytes) = ⊥
IsValueText IsText filter is_marked line Omitted = ⊥
IsValueText IsText filter is_marked line Unasked = ⊥

-- where messages are chosen, the line is one of them
abbrev pub IsAskedFor : Objects → List ℕ → Type 0
IsAskedFor filter line = IfSome filter.choice (λ choice. HasMessage filter line (IsChosen choice))

-- where messages are chosen, the line is another message, or none, which counts as skipped
abbrev pub IsLeftOut : Objects → List ℕ → Answer → Type 0
IsLeftOut filter line (Written bytes) = ⊥
IsLeftOut filter line (Marked bytes) = ⊥
IsLeftOut filter line (Framed bytes) = ⊥
IsLeftOut filter line Omitted = IsSomeAnd filter.choice (λ _. HasNoMessage filter line)
IsLeftOut filter line Unasked = IsSomeAnd filter.choice (λ choice. HasMessage filter line (λ m. ¬ (IsChosen choice m)))

-- what the filter gives for a text
abbrev pub IsTextAnswer : (Json → List ℕ → Type 0) → Objects → Bool → List ℕ → Answer → Type 0
IsTextAnswer IsText filter is_marked line answer =
    (IsAskedFor filter line × IsValueText IsText filter is_marked line answer) ⊎ IsLeftOut filter line answer

-- What the filter gives for a line. One that is not UTF-8 is decoded, and its value is marked, unless it was decoded as
-- ISO 8859-1.
abbrev pub IsLineAnswer : (Json → List ℕ → Type 0) → Objects → List ℕ → Answer → Type 0
IsLineAnswer IsText filter line answer = (IsUtf8 line × IsTextAnswer IsText filter false line answer)
    ⊎ ((¬ (IsUtf8 line)) × IsTextAnswer IsText filter (not filter.latin1) (decoded filter.latin1 line) answer)

-- memory may be wanted for any line
abbrev pub objects : Objects → Filter
objects filter = record { Answers = IsLineAnswer (IsOutputOf filter.csv) filter; Wants = λ line. ⊤ }

-- what is written before the first line: the header, where rows of CSV are asked for
abbrev pub head_text : Bool → List ℕ
head_text true = record_text columns ++ (13 ∷ 10 ∷ [])
head_text false = []

-- all was read, the header and the text of each line's value were written, and the lines were counted
abbrev pub WritesObjects : Frames → Objects → Option (List ℕ) → Option (List ℕ) → Option (List ℕ) → Option (List ℕ)
    → LineCounts → Type 0
WritesObjects frames filter in_before in_after out_before out_after counts = (begun : Option (List ℕ))
    × Appends out_before begun (head_text filter.csv) × ((answers : List Answer)
    × (all : FiltersAll frames (objects filter) in_before in_after begun out_after answers)
    × AreCounts frames filter.latin1 all.lines answers counts)

-- what was written ends early: nothing was read and the header was cut, or lines were read after it
abbrev pub StopsEarly : Frames → Objects → Option (List ℕ) → Option (List ℕ) → Option (List ℕ) → Option (List ℕ)
    → RunFault → Type 0
StopsEarly frames filter in_before in_after out_before out_after fault =
    ((fault ≡ Write) × (in_after ≡ in_before) × ((size : ℕ)
    × Appends out_before out_after (take size (head_text filter.csv))))
    ⊎ ((begun : Option (List ℕ)) × Appends out_before begun (head_text filter.csv)
    × EndsEarly frames (objects filter) in_before in_after begun out_after fault)

-- the line as which the text is read was returned, the writer was given its elements, and the line leaves what the text
-- does; or the text is no message
abbrev pub IsLineRead : Objects → Text → Option SentLine → ObjectWriter → Type 0
IsLineRead filter text result writer = MatchOption result
    (IsDated filter.dates Either text (λ dating. IsUnsent filter.dates dating filter.dialects Either text))
    (λ it. IsDated filter.dates Either text
    (λ dating. IsReadSent filter.dates dating filter.dialects Either text it.dialect (line_value it.line))
    × HasWritten writer (list_elements it.line.list)
    × ((unparsed : Text) → IsLeftUnparsed it.line unparsed → LeavesSent it.dialect Either text unparsed))

-- what the filter gives for an object that was written, as the line counts
abbrev pub answer_of : Bool → List ℕ → Answer
answer_of true bytes = Written bytes
answer_of false bytes = Marked bytes

-- the bytes are the row of the line's message
abbrev pub IsMessageRow : Objects → List ℕ → SentLine → List ℕ → Type 0
IsMessageRow filter line it bytes = (unparsed : Text) × IsLeftUnparsed it.line unparsed
    × IsRowOf (message_json (line_value it.line)
    (beside_line (dialect_text it.dialect) unparsed (raw_text filter.raw (chars line)))) bytes

-- what the filter gives for a line that is not written, by what the line counts as
abbrev pub unwritten : Bool → Answer
unwritten true = Unasked
unwritten false = Omitted
