-- What a filter reads and writes, and how it ends: this project's own choice.
use Rattle.std.specs.Prelude.{◌≡◌, ◌+◌, ◌≤◌, ℕ, Bool, true, false, List, [], ◌⊎◌, Option, Result, Ok, Err, length}
use Rattle.std.specs.Io.KnownBytes.{Appends, Consumes, IsAtEnd}
use Rattle.syslog_lines.specs.Count.{held_count}
use Rattle.syslog_lines.specs.Frames.{HasAllFrames, HasFrames}
use Rattle.syslog_lines.specs.Output.{Answer, AreAnswers, Filter, HasCounted, output_of, taken}
use Rattle.syslog_lines.specs.Size.{block_size}
use Rattle.syslog_lines.specs.Write.{Wrote, WroteBefore, WroteCut}
use Rattle.syslog_lines.specs.declared.framing.Frames.{Frames}
use Rattle.syslog_lines.specs.declared.summary.Tally.{Tally}
use Rattle.syslog_lines.specs.declared.summary.RunFault.{RunFault}
use Rattle.syslog_lines.specs.declared.summary.RunFault.TheVariants.{Read, Write, Memory}

-- what was read of the input has these messages in whole frames, and a prefix of one more
pub record ReadFrames (frames : Frames) (in_before in_after : Option (List ℕ)) (lines : List (List ℕ)) : Type 0 where
  pub read : List ℕ
  pub consumed : Consumes in_before in_after read
  pub cut : List ℕ
  pub framed : HasFrames frames read lines cut

-- all of the input was read, and these are its messages
pub record ReadAll (frames : Frames) (in_before in_after : Option (List ℕ)) (lines : List (List ℕ)) : Type 0 where
  pub read : List ℕ
  pub consumed : Consumes in_before in_after read
  pub at_end : IsAtEnd in_after
  pub framed : HasAllFrames frames read lines

-- the messages that can be answered after what was read: those of whole frames, and at the end all
abbrev pub CanAnswer : Frames → Option (List ℕ) → Option (List ℕ) → List (List ℕ) → Type 0
CanAnswer frames in_before in_after lines =
    ReadFrames frames in_before in_after lines ⊎ ReadAll frames in_before in_after lines

-- all was read, this is what its messages give, and their output was written
pub record FiltersAll (frames : Frames) (filter : Filter) (in_before in_after out_before out_after : Option (List ℕ))
    (answers : List Answer) : Type 0 where
  pub lines : List (List ℕ)
  pub all : ReadAll frames in_before in_after lines
  pub answered : AreAnswers (taken frames filter) lines answers
  pub written : Appends out_before out_after (output_of answers)

-- all was read, this is what its messages give, and their output was written; the tally counts it, and so the lines
abbrev pub PumpsAll : Frames → Filter → Option (List ℕ) → Option (List ℕ) → Option (List ℕ) → Option (List ℕ) → Tally
    → Type 0
PumpsAll frames filter in_before in_after out_before out_after tally = (answers : List Answer)
    × (all : FiltersAll frames filter in_before in_after out_before out_after answers)
    × HasCounted frames tally all.lines answers
    × (held_count (tally.answered + tally.skipped) ≡ held_count (length all.lines))

-- the output of all whole frames of what was read was written
abbrev pub LosesNothing : Frames → Filter → Option (List ℕ) → Option (List ℕ) → Option (List ℕ) → Option (List ℕ)
    → Type 0
LosesNothing frames filter in_before in_after out_before out_after = (lines : List (List ℕ))
    × ReadFrames frames in_before in_after lines × Wrote (taken frames filter) lines out_before out_after

-- the output of all whole frames of what was read was written, and space was needed for the next block: nothing was
-- read yet, or the frame that was cut takes a whole block
abbrev pub WantsRoom : Frames → Filter → Option (List ℕ) → Option (List ℕ) → Option (List ℕ) → Option (List ℕ) → Type 0
WantsRoom frames filter in_before in_after out_before out_after =
    (lines : List (List ℕ)) × (seen : ReadFrames frames in_before in_after lines)
    × ((seen.read ≡ []) ⊎ (block_size ≤ length seen.cut)) × Wrote (taken frames filter) lines out_before out_after

-- What was read and written if a filter ends early. A failed read loses no whole frame, nor does a failed allocation
-- for the next block. A failed allocation for a line loses no line before it. After a failed write the last line may be
-- cut.
abbrev pub EndsEarly : Frames → Filter → Option (List ℕ) → Option (List ℕ) → Option (List ℕ) → Option (List ℕ)
    → RunFault
    → Type 0
EndsEarly frames filter in_before in_after out_before out_after Read =
    LosesNothing frames filter in_before in_after out_before out_after
EndsEarly frames filter in_before in_after out_before out_after Write = (lines : List (List ℕ))
    × CanAnswer frames in_before in_after lines × WroteCut (taken frames filter) lines out_before out_after
EndsEarly frames filter in_before in_after out_before out_after Memory =
    WantsRoom frames filter in_before in_after out_before out_after
    ⊎ ((lines : List (List ℕ)) × CanAnswer frames in_before in_after lines
    × WroteBefore (taken frames filter) lines out_before out_after)

-- which of the reader and the writer failed, by how the filter ended
abbrev pub FailedAs : {X : Type 0} → Result X RunFault → Bool → Bool → Type 0
FailedAs (Ok counts) reader writer = (reader ≡ false) × (writer ≡ false)
FailedAs (Err Read) reader writer = (reader ≡ true) × (writer ≡ false)
FailedAs (Err Write) reader writer = (reader ≡ false) × (writer ≡ true)
FailedAs (Err Memory) reader writer = (reader ≡ false) × (writer ≡ false)
