-- A line has one value.
use Rattle.syslog_json.proofs.Names.{List, Option, Some, refl, subst, chars, Json, line_value}
use Rattle.syslog_json.proofs.Names.{◌≡◌, [], ℕ, ap, inl, inr, sym, ◌∙◌, Text}
use Rattle.std.proofs.Common.{◌++◌, ◌∷◌, ℤ, Bool, true, false, not, None}
use Rattle.jiff.{specs.Types.TimeZone, specs.Words.plain_zone}
use Rattle.syslog_loose.specs.declared.line.Line.{Line}
use Rattle.syslog_loose.specs.Reading.{IncompleteDate, InYear, IsUnreadable}
use Rattle.syslog_loose.{proofs.ReckoningLemmas.one_dating, specs.Today.IsYearIn, specs.Reckoning.dating_in}
use Rattle.syslog_loose.{specs.Clauses.KnowsForm, specs.Visit.IsLineOf, specs.Visit.Made}
use Rattle.syslog_pieces.specs.Timestamp.Zone.{Dating}
use Rattle.syslog_dialects.proofs.SentReadingLemmas.{leaves_once, of_one, own_given, read_once}
use Rattle.syslog_dialects.specs.SentReading.{GivesOwn, HasElementsOf, IsReadSent, IsSentAnswer, LeavesSent}
use Rattle.syslog_sent.specs.declared.dialect.Dialect.{Dialect}
use Rattle.syslog_loose.specs.Unparsed.{IsLeftUnparsed}
use Rattle.syslog_dialects.specs.declared.visit.SentLine.{SentLine}
use Rattle.std.specs.Prelude.{IsSome}
use Rattle.syslog_loose.specs.declared.variant.Variant.TheVariants.{Either}
use Rattle.syslog_elements.specs.StructuredData.Visited.{list_elements}
use Rattle.syslog_lines.specs.Output.{answer_bytes, is_answered}
use Rattle.syslog_object.{specs.Writer.HasWritten, specs.declared.writer.ObjectWriter.ObjectWriter}
use Rattle.std.proofs.Common.{◌-◌, arith, append_assoc, length, take}
use Rattle.std.proofs.lemmas.List.{length-append, take-append-le}
use Rattle.std.specs.Prelude.{IsUtf8}
use Rattle.syslog_utf8.specs.Decoded.{decoded}
use Rattle.syslog_lines.specs.Output.{Answer, Framed, Written, Marked, Omitted, Unasked}
use Rattle.syslog_json.proofs.MarkLemmas.{IsPlain, marked_read}
use Rattle.syslog_json.proofs.RowLemmas.{marked_row}
use Rattle.syslog_json.specs.Marked.{HasMember, mark_text, marked, marked_line, marked_output, marked_text}
use Rattle.syslog_json.specs.Objects.{IsLineAnswer, IsLineRead, IsOnly, IsReadJson, IsRefusedJson}
use Rattle.syslog_json.specs.Objects.{IsOutputOf, IsValueText, answer_of}
use Rattle.syslog_json.specs.declared.objects.Objects.{Objects}
use Rattle.syslog_loose.proofs.ReadingLemmas as reading

read_twice : (filter : Objects) (line : List ℕ) (value other : Json) → IsReadJson filter line value
    → IsReadJson filter line other → other ≡ value
read_twice filter line value other (utf8, (d, m, u, read, leaves, is)) (also, (e, n, w, more, left, same)) =
    let (dating, this, that) =
    one_dating {Holds = λ it. IsReadSent filter.dates it filter.dialects Either (chars line) d m}
    {More = λ it. IsReadSent filter.dates it filter.dialects Either (chars line) e n}
    filter.dates Either (chars line) read more in
    let once = read_once filter.dates dating filter.dialects Either (chars line) d e m n this that in
    let whole = leaves_once d Either (chars line) u w leaves
    (subst (λ (k : Option Dialect). LeavesSent k Either (chars line) w) once.0 left) in
    same ∙ rw (once.0, once.1, whole) refl ∙ sym is

pub only_read : (filter : Objects) (line : List ℕ) (value : Json) → IsReadJson filter line value
    → IsOnly (IsReadJson filter line) value
only_read filter line value is = (is, λ other also. read_twice filter line value other is also)

other_refused : (filter : Objects) (line : List ℕ) (value other : Json) → IsRefusedJson filter line value
    → IsRefusedJson filter line other → other ≡ value
other_refused filter line value other (u, none, e) (v, never, f) = f ∙ sym e

pub only_refused : (filter : Objects) (line : List ℕ) (value : Json) → IsRefusedJson filter line value
    → IsOnly (IsRefusedJson filter line) value
only_refused filter line value is = (is, λ other also. other_refused filter line value other is also)

-- ---- what the port's line and the writer are

-- what is made of the port's line, as a visitor of this type returns it itself
abbrev pub IsMade : Type 0 → TimeZone → Text → ObjectWriter → Option Line → ObjectWriter → Option ℤ → Type 0
IsMade V zone text old found new year =
    (v : V) × (w : V) × Made (λ (before : V) (line made : Line) (after : V). (made ≡ line)
    × KnowsForm line)
    (λ (first it : ObjectWriter) es. HasWritten it es) Either (dating_in zone year) text v old found w new

line_made : {V : Type 0} (zone : TimeZone) (text : Text) (old new : ObjectWriter) (made : Line) (year : Option ℤ)
    → IsMade V zone text old (Some made) new year → IsLineOf Either (dating_in zone year) text made
line_made zone text old new made year (v, w, (line, of, same, given)) =
    subst (IsLineOf Either (dating_in zone year) text) (sym same.0) of

module _ {V : Type 0} {post : IncompleteDate → ℤ → Type 0} (filter : Objects) (text : Text) (old new : ObjectWriter)
  where
    pub made_form : (made : Line) → InYear post Either text
        (IsMade V (plain_zone filter.dates.zone) text old (Some made) new) → KnowsForm made
    made_form made h = let (v, w, (line, of, same, given)) = h.holds h.answered (λ date asks. refl) in
        subst KnowsForm (sym same.0) same.1

    -- the line that was made of the port's was returned, and the writer was given its elements
    pub line_read : (made : Line) → InYear post Either text
        (IsMade V (plain_zone filter.dates.zone) text old (Some made) new)
        → ((date : IncompleteDate) (y : ℤ) → post date y → IsYearIn filter.dates.today date y) → HasWritten old []
        → (it : SentLine) (last : ObjectWriter) → ((dating : Dating) → IsLineOf Either dating text made
        → IsReadSent filter.dates dating filter.dialects Either text it.dialect (line_value it.line))
        → HasElementsOf it (list_elements made.list) → GivesOwn (λ (first w : ObjectWriter) es. HasWritten w es) new it
        last
        → ((dating : Dating) (u : Text) → IsLineOf Either dating text made
        → IsLeftUnparsed it.line u → LeavesSent it.dialect Either text u) → IsLineRead filter text (Some it) last
    line_read made h tells empty it last reads elements own leaves = (
      reading.in_year_told (reading.in_year_map (λ year is.
          reads (dating_in (plain_zone filter.dates.zone) year)
          (line_made (plain_zone filter.dates.zone) text old new made year is)) h) tells,
      let (v, w, (line, of, same, given)) = h.holds h.answered (λ date asks. refl) in
          own_given (λ (first w : ObjectWriter) es. HasWritten w es) it (list_elements made.list) new last elements own
          old (subst (HasWritten new) (ap (λ (l : Line). list_elements l.list) (sym same.0)) (given old [] empty)),
      λ u left. leaves (dating_in (plain_zone filter.dates.zone) h.answered) u
          (line_made (plain_zone filter.dates.zone) text old new made h.answered
          (h.holds h.answered (λ date asks. refl))) left,
    )

    -- or no line, where the text is no message
    pub line_refused : (made : Line) → InYear post Either text
        (IsMade V (plain_zone filter.dates.zone) text old (Some made) new)
        → ((date : IncompleteDate) (y : ℤ) → post date y → IsYearIn filter.dates.today date y)
        → ((dating : Dating) → IsLineOf Either dating text made
        → IsSentAnswer filter.dates dating filter.dialects Either text None) → IsLineRead filter text None new
    line_refused made h tells reads =
        reading.in_year_told (reading.in_year_map (λ year is. reads (dating_in (plain_zone filter.dates.zone) year)
        (line_made (plain_zone filter.dates.zone) text old new made year is)) h) tells

    none_written : InYear post Either text (IsMade V (plain_zone filter.dates.zone) text old None new)
        → HasWritten old [] → HasWritten new []
    none_written h empty = let (v, w, none) = h.holds h.answered (λ date asks. refl) in none.2 old [] empty

    -- or one that the port does not read
    pub line_unread : InYear post Either text (IsMade V (plain_zone filter.dates.zone) text old None new)
        → ((date : IncompleteDate) (y : ℤ) → post date y → IsYearIn filter.dates.today date y) → HasWritten old []
        → ((dating : Dating) → IsUnreadable Either dating text
        → IsSentAnswer filter.dates dating filter.dialects Either text None) → IsLineRead filter text None new
    line_unread h tells empty reads =
        reading.in_year_told (reading.in_year_map (λ year is. reads (dating_in (plain_zone filter.dates.zone) year)
        is.2.0) h) tells

    pub line_sent : InYear post Either text (IsMade V (plain_zone filter.dates.zone) text old None new)
        → ((date : IncompleteDate) (y : ℤ) → post date y → IsYearIn filter.dates.today date y) → HasWritten old []
        → (it : SentLine) (last : ObjectWriter) → ((dating : Dating) → IsUnreadable Either dating text
        → IsSentAnswer filter.dates dating filter.dialects Either text (Some it))
        → IsSome it.dialect → GivesOwn (λ (first w : ObjectWriter) es. HasWritten w es) new it last
        → ((u : Text) → IsLeftUnparsed it.line u → LeavesSent it.dialect Either text u)
        → IsLineRead filter text (Some it) last
    line_sent h tells empty it last reads in_one own leaves = (
      reading.in_year_told (reading.in_year_map (λ year is. reads (dating_in (plain_zone filter.dates.zone) year)
          is.2.0) h) tells,
      own_given (λ (first w : ObjectWriter) es. HasWritten w es) it [] new last (of_one it in_one) own old
          (none_written h empty),
      leaves,
    )

-- the bytes that are written for a line, and what the line counts as
pub answered : (is_message : Bool) (bytes : List ℕ) → (answer_bytes (answer_of is_message bytes) ≡ bytes ++ 10 ∷ [])
    × (is_message ≡ is_answered (answer_of is_message bytes))
answered true bytes = (refl, refl)
answered false bytes = (refl, refl)

-- ---- the object of a line that is not UTF-8

message_plain : (filter : Objects) (line : List ℕ) (value : Json) → IsReadJson filter line value → IsPlain value
message_plain filter line value (utf8, (d, m, u, read, leaves, is)) = inl (m, _, is)

refused_plain : (filter : Objects) (line : List ℕ) (value : Json) → IsRefusedJson filter line value → IsPlain value
refused_plain filter line value (utf8, none, is) = inr (line, is)

plain_member : (value : Json) → IsPlain value → HasMember value
plain_member value (inl (m, beside, is)) = (_, _, _, is)
plain_member value (inr (line, is)) = (_, _, _, is)

-- what is written of a value that is marked
module _ (IsText : Json → List ℕ → Type 0) (mark : List ℕ → List ℕ)
    (marks : (value : Json) (bytes : List ℕ) → IsPlain value → IsText value bytes → IsText (marked value) (mark bytes))
  where
    pub text_marked : (filter : Objects) (is_message : Bool) (line bytes : List ℕ)
        → IsValueText IsText filter false line (answer_of is_message bytes)
        → IsValueText IsText filter true line (answer_of is_message (mark bytes))
    text_marked filter true line bytes (value, only, is) =
        (value, only, marks value bytes (message_plain filter line value only.0) is)
    text_marked filter false line bytes (value, only, is) =
        (value, only, marks value bytes (refused_plain filter line value only.0) is)

output_marked : (csv : Bool) (value : Json) (bytes : List ℕ) → IsPlain value → IsOutputOf csv value bytes
    → IsOutputOf csv (marked value) (marked_text csv bytes)
output_marked false value bytes plain read = marked_read value bytes (plain_member value plain) read
output_marked true value bytes plain row = marked_row value bytes plain row

-- its text is marked where bytes were replaced
abbrev pub marked_text_if : Bool → Bool → List ℕ → List ℕ
marked_text_if csv false bytes = bytes
marked_text_if csv true bytes = marked_text csv bytes

object_marked : (filter : Objects) (is_marked is_message : Bool) (line bytes : List ℕ)
    → IsValueText (IsOutputOf filter.csv) filter false line (answer_of is_message bytes)
    → IsValueText (IsOutputOf filter.csv) filter is_marked line
    (answer_of is_message (marked_text_if filter.csv is_marked bytes))
object_marked filter false is_message line bytes object = object
object_marked filter true is_message line bytes object =
    text_marked (IsOutputOf filter.csv) (marked_text filter.csv) (output_marked filter.csv) filter is_message line bytes
    object

abbrev pub marked_output_if : Bool → Bool → List ℕ → List ℕ
marked_output_if csv false bytes = bytes
marked_output_if csv true bytes = marked_output csv bytes

line_of_marked : (csv : Bool) (bytes : List ℕ) → marked_text csv bytes ++ 10 ∷ [] ≡ marked_line csv (bytes ++ 10 ∷ [])
line_of_marked csv bytes =
    let size : length (bytes ++ 10 ∷ []) - 2 ≡ length bytes - 1 = omega (arith, length-append bytes (10 ∷ [])) in
    let front : take (length (bytes ++ 10 ∷ []) - 2) (bytes ++ 10 ∷ []) ≡ take (length bytes - 1) bytes =
    rw size (take-append-le (length bytes - 1) bytes (10 ∷ []) (omega arith)) in
    append_assoc (take (length bytes - 1) bytes) (mark_text csv) (10 ∷ [])
    ∙ ap (λ (l : List ℕ). l ++ (mark_text csv ++ 10 ∷ [])) (sym front)

is_written : (csv : Bool) (bytes : List ℕ) → marked_line csv (bytes ++ 10 ∷ []) ≡ marked_output csv (bytes ++ 10 ∷ [])
is_written csv [] = refl
is_written csv (byte ∷ bytes) = refl

same_line : (csv is_marked : Bool) (bytes : List ℕ)
    → marked_text_if csv is_marked bytes ++ 10 ∷ [] ≡ marked_output_if csv is_marked (bytes ++ 10 ∷ [])
same_line csv false bytes = refl
same_line csv true bytes = line_of_marked csv bytes ∙ is_written csv bytes

none_written_of : (csv is_marked : Bool) → [] ≡ marked_output_if csv is_marked []
none_written_of csv false = refl
none_written_of csv true = refl

-- what a line gives that is not UTF-8, by what the text gives that it is taken for
pub invalid_answer : (filter : Objects) (line taken : List ℕ) (answer : Answer) → ¬ (IsUtf8 line)
    → taken ≡ decoded filter.latin1 line → IsUtf8 taken → IsLineAnswer (IsOutputOf filter.csv) filter taken answer
    → (other : Answer) × IsLineAnswer (IsOutputOf filter.csv) filter line other
    × (answer_bytes other ≡ marked_output_if filter.csv (not filter.latin1) (answer_bytes answer))
    × (is_answered other ≡ is_answered answer)
invalid_answer filter line taken (Written bytes) invalid is utf8 (inl (valid, inl (asked, object))) = (
  Written (marked_text_if filter.csv (not filter.latin1) bytes),
  inr (
    invalid,
    inl (
      rw is at asked,
      object_marked filter (not filter.latin1) true (decoded filter.latin1 line) bytes (rw is at object),
    ),
  ),
  same_line filter.csv (not filter.latin1) bytes,
  refl,
)
invalid_answer filter line taken (Marked bytes) invalid is utf8 (inl (valid, inl (asked, object))) = (
  Marked (marked_text_if filter.csv (not filter.latin1) bytes),
  inr (
    invalid,
    inl (
      rw is at asked,
      object_marked filter (not filter.latin1) false (decoded filter.latin1 line) bytes (rw is at object),
    ),
  ),
  same_line filter.csv (not filter.latin1) bytes,
  refl,
)
invalid_answer filter line taken Omitted invalid is utf8 (inl (valid, inr left)) =
    (Omitted, inr (invalid, inr (rw is at left)), none_written_of filter.csv (not filter.latin1), refl)
invalid_answer filter line taken Unasked invalid is utf8 (inl (valid, inr left)) =
    (Unasked, inr (invalid, inr (rw is at left)), none_written_of filter.csv (not filter.latin1), refl)
invalid_answer filter line taken Omitted invalid is utf8 (inl (valid, inl (asked, object))) = absurd object
invalid_answer filter line taken Unasked invalid is utf8 (inl (valid, inl (asked, object))) = absurd object
invalid_answer filter line taken (Framed bytes) invalid is utf8 (inl (valid, inl (asked, object))) = absurd object
invalid_answer filter line taken (Framed bytes) invalid is utf8 (inl (valid, inr left)) = absurd left
invalid_answer filter line taken (Written bytes) invalid is utf8 (inl (valid, inr left)) = absurd left
invalid_answer filter line taken (Marked bytes) invalid is utf8 (inl (valid, inr left)) = absurd left
invalid_answer filter line taken answer invalid is utf8 (inr (other, object)) = absurd (other utf8)

pub marked_unless : (csv is_latin1 : Bool) (object old : List ℕ)
    → (is_latin1 ≡ false → object ≡ marked_output csv old)
    → (is_latin1 ≡ true → object ≡ old) → object ≡ marked_output_if csv (not is_latin1) old
marked_unless csv true object old replaced whole = whole refl
marked_unless csv false object old replaced whole = replaced refl
