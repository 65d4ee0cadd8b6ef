-- What is written for some lines.
use Rattle.std.specs.Prelude.{◌≡◌, ℕ, List, ◌∷◌, ◌++◌, Option, Some, Result, MatchResult, take}
use Rattle.std.specs.Io.KnownBytes.{Appends}
use Rattle.syslog_lines.specs.Frames.{AreFrames}
use Rattle.syslog_lines.specs.Output.{Answer, AreAnswers, Counts, Filter, output_of}
use Rattle.syslog_lines.specs.declared.summary.Tally.{Tally}
use Rattle.syslog_lines.specs.declared.framing.Frames.{Frames}

-- the output of the lines was written
pub record Wrote (filter : Filter) (lines : List (List ℕ)) (out_before out_after : Option (List ℕ)) : Type 0 where
  pub answers : List Answer
  pub answered : AreAnswers filter lines answers
  pub written : Appends out_before out_after (output_of answers)

-- the output of the lines before one for which the filter may allocate was written
pub record WroteBefore (filter : Filter) (lines : List (List ℕ)) (out_before out_after : Option (List ℕ)) : Type 0 where
  pub before : List (List ℕ)
  pub line : List ℕ
  pub after : List (List ℕ)
  pub listed : lines ≡ before ++ line ∷ after
  pub wanted : filter.Wants line
  pub wrote : Wrote filter before out_before out_after

-- a prefix of the output of the lines was written, which may end within a line's
pub record WroteCut (filter : Filter) (lines : List (List ℕ)) (out_before out_after : Option (List ℕ)) : Type 0 where
  pub before : List (List ℕ)
  pub after : List (List ℕ)
  pub listed : lines ≡ before ++ after
  pub answers : List Answer
  pub answered : AreAnswers filter before answers
  pub size : ℕ
  pub written : Appends out_before out_after (take size (output_of answers))

-- the output of the lines was written, and the lines counted
pub record Answered (frames : Frames) (filter : Filter) (lines : List (List ℕ))
    (out_before out_after : Option (List ℕ)) (was is : Tally)
    : Type 0 where
  pub wrote : Wrote filter lines out_before out_after
  pub counted : Counts frames was is lines wrote.answers

-- the output of the messages was added, and they were counted; or an allocation failed, and the output of those before
-- one that may need one was added
abbrev pub Adds : {X E : Type 0} → Frames → Filter → List (List ℕ) → List ℕ → List ℕ → Tally → Tally → Result X E
    → Type 0
Adds frames filter messages old new was is result = MatchResult result
    (λ done. Answered frames filter messages (Some old) (Some new) was is)
    (λ refused. WroteBefore filter messages (Some old) (Some new))

-- the output of whole frames that the bytes begin with was written, and these bytes follow
abbrev pub AddsWhole : Frames → Filter → List ℕ → List ℕ → Option (List ℕ) → Option (List ℕ) → Tally → Tally → Type 0
AddsWhole frames filter bytes rest out_before out_after was is = (messages : List (List ℕ))
    × AreFrames frames.framing bytes messages rest × Answered frames filter messages out_before out_after was is

-- of whole frames that the bytes begin with, the output was added, and these bytes follow; or an allocation failed, and
-- the output of those before one that may need one was added
abbrev pub AddsFrames : {X E : Type 0} → Frames → Filter → List ℕ → (X → List ℕ) → List ℕ → List ℕ → Tally → Tally
    → Result X E → Type 0
AddsFrames frames filter bytes rest old new was is result = MatchResult result
    (λ done. AddsWhole frames filter bytes (rest done) (Some old) (Some new) was is)
    (λ refused. (messages : List (List ℕ)) × (after : List ℕ) × AreFrames frames.framing bytes messages after
    × WroteBefore filter messages (Some old) (Some new))
