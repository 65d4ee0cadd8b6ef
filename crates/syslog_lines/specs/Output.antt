-- What a filter gives for lines, and the bytes that it writes: this project's own choice.
use Rattle.std.specs.Prelude.{◌≡◌, ◌+◌, ◌<◌, ◌≤◌, ◌⊎◌, ℕ, Bool, true, false, not, if◌then◌else◌, List, [], ◌∷◌, ◌++◌}
use Rattle.std.specs.Prelude.{Option, Some, None, count_by, length}
use Rattle.std.specs.List.{AllZip, flat_map}
use Rattle.std.specs.Str.{is_utf8}
use Rattle.syslog_lines.specs.declared.summary.LineCounts.{LineCounts}
use Rattle.syslog_lines.specs.declared.summary.Tally.{Tally}
use Rattle.syslog_lines.specs.Count.{held_count}
use Rattle.syslog_lines.specs.Frames.{is_too_long, line_of}
use Rattle.syslog_lines.specs.declared.framing.Frames.{Frames}

-- what a line gives: bytes that are written for it, also for a line that counts as skipped (`Marked`); a whole frame;
-- nothing, for a line that counts as skipped; or nothing since nobody asked for the line
pub data Answer : Type 0 where
  Written : List ℕ → Answer
  Framed : List ℕ → Answer
  Marked : List ℕ → Answer
  Omitted : Answer
  Unasked : Answer

abbrev pub is_answered : Answer → Bool
is_answered (Written bytes) = true
is_answered (Framed bytes) = true
is_answered (Marked bytes) = false
is_answered Omitted = false
is_answered Unasked = true

abbrev pub is_skipped : Answer → Bool
is_skipped answer = not (is_answered answer)

-- what a filter does: what it gives for a line, and for which lines it may take memory
pub record Filter : Type 1 where
  pub Answers : List ℕ → Answer → Type 0
  pub Wants : List ℕ → Type 0

-- what a filter does that is given the line of each message
abbrev pub stripping : Bool → Filter → Filter
stripping strips filter = record {
  Answers = λ message answer. filter.Answers (line_of strips message) answer;
  Wants = λ message. filter.Wants (line_of strips message);
}

-- what one does that is given no line that is too long, where nothing is written for these
abbrev pub limited : Option ℕ → Filter → Filter
limited None filter = filter
limited (Some longest) filter = record {
  Answers = λ line answer. ((length line ≤ longest) × filter.Answers line answer)
      ⊎ ((longest < length line) × (answer ≡ Omitted));
  Wants = λ line. (length line ≤ longest) × filter.Wants line;
}

-- what is done with the messages of these frames
abbrev pub taken : Frames → Filter → Filter
taken frames filter = stripping frames.strips (limited frames.longest filter)

-- what each line gives, in order
abbrev pub AreAnswers : Filter → List (List ℕ) → List Answer → Type 0
AreAnswers filter lines answers = AllZip filter.Answers lines answers

-- what is written for a line: its bytes and a line feed, its frame, or nothing
abbrev pub answer_bytes : Answer → List ℕ
answer_bytes (Written bytes) = bytes ++ 10 ∷ []
answer_bytes (Framed bytes) = bytes
answer_bytes (Marked bytes) = bytes ++ 10 ∷ []
answer_bytes Omitted = []
answer_bytes Unasked = []

-- what is written for all of them
abbrev pub output_of : List Answer → List ℕ
output_of answers = flat_map answer_bytes answers

-- whether the line of a message was looked at and is not UTF-8
abbrev pub is_invalid : Frames → List ℕ → Bool
is_invalid frames message = if is_too_long frames message then false else not (is_utf8 (line_of frames.strips message))

-- what the lines that are not UTF-8 gave, among these
abbrev pub invalid_answers : Frames → List (List ℕ) → List Answer → List Answer
invalid_answers frames [] answers = []
invalid_answers frames (message ∷ messages) [] = []
invalid_answers frames (message ∷ messages) (answer ∷ answers) = if is_invalid frames message
    then answer ∷ invalid_answers frames messages answers else invalid_answers frames messages answers

-- the tally counts these lines by what they gave
pub record HasCounted (frames : Frames) (tally : Tally) (lines : List (List ℕ)) (answers : List Answer) : Type 0 where
  pub answered : tally.answered ≡ held_count (count_by is_answered answers)
  pub skipped : tally.skipped ≡ held_count (count_by is_skipped answers)
  pub answered_invalid : tally.answered_invalid ≡ held_count
      (count_by is_answered (invalid_answers frames lines answers))
  pub skipped_invalid : tally.skipped_invalid ≡ held_count (count_by is_skipped (invalid_answers frames lines answers))
  pub too_long : tally.too_long ≡ held_count (count_by (is_too_long frames) lines)

-- these are the counts of lines and of what they gave; lines that were read as ISO 8859-1 have nothing replaced
pub record AreCounts (frames : Frames) (is_latin1 : Bool) (all : List (List ℕ)) (answers : List Answer)
    (counts : LineCounts) : Type 0 where
  pub lines : counts.lines ≡ held_count (length all)
  pub refused : counts.refused ≡ held_count (count_by is_skipped answers)
  pub refused_invalid : counts.refused_invalid ≡ held_count (count_by is_skipped (invalid_answers frames all answers))
  pub too_long : counts.too_long ≡ held_count (count_by (is_too_long frames) all)
  pub replaced : counts.replaced
      ≡ (if is_latin1 then 0 else held_count (count_by is_answered (invalid_answers frames all answers)))

-- a count grew by those that pass this test
abbrev pub Grows : {X : Type 0} → (X → Bool) → List X → ℕ → ℕ → Type 0
Grows keep answers was is = (n : ℕ) → was ≡ held_count n → is ≡ held_count (n + count_by keep answers)

-- the tally grew by these lines and what they gave
pub record Counts (frames : Frames) (was is : Tally) (lines : List (List ℕ)) (answers : List Answer) : Type 0 where
  pub answered : Grows is_answered answers was.answered is.answered
  pub skipped : Grows is_skipped answers was.skipped is.skipped
  pub answered_invalid : Grows is_answered (invalid_answers frames lines answers) was.answered_invalid
      is.answered_invalid
  pub skipped_invalid : Grows is_skipped (invalid_answers frames lines answers) was.skipped_invalid is.skipped_invalid
  pub too_long : Grows (is_too_long frames) lines was.too_long is.too_long

-- what a line gives was added, and this says whether it counts as answered
abbrev pub AddsAnswer : Filter → List ℕ → List ℕ → List ℕ → Bool → Type 0
AddsAnswer filter line old new answered = (answer : Answer) × filter.Answers line answer
    × (new ≡ old ++ answer_bytes answer) × (answered ≡ is_answered answer)
