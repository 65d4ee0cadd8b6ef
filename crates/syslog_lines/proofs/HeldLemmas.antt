-- What the bytes give that are read, from a place on.
use Rattle.syslog_lines.proofs.Names.{◌≡◌, ◌<◌, ℕ, List, [], ◌∷◌, ◌++◌, Option, length, take, drop, Tally, Some}
use Rattle.syslog_lines.proofs.Names.{refl, append_assoc, append-nil, Filter}
use Rattle.syslog_lines.proofs.Names.{Adds, AddsWhole, Answered, WroteBefore, Result, take-append-drop}
use Rattle.syslog_lines.proofs.AnswerLemmas.{Answered-after, Answered-long, Answered-none, Answered-skips}
use Rattle.syslog_lines.proofs.AnswerLemmas.{WroteBefore-after, WroteBefore-more}
use Rattle.syslog_lines.proofs.FrameLemmas.{AreFrames-append, AreFrames-more, some_frames}
use Rattle.syslog_lines.proofs.PlaceLemmas.{HasRead-held, Opened-frames, all_cut, all_none_left, read_begun, read_long}
use Rattle.syslog_lines.proofs.PlaceLemmas.{read_opened}
use Rattle.std.proofs.lemmas.Result.{IfOk-from_err, MatchResult-from_err}
use Rattle.std.proofs.Common.{IsErr}
use Rattle.syslog_lines.specs.Frames.{AreFrames, HasAllFrames, IsCutFrame}
use Rattle.syslog_lines.specs.Output.{taken}
use Rattle.syslog_lines.specs.Place.{CountsLong, Goes, HasRead, HasReadUpTo, IsAt, IsHeld, Opened, Skips}
use Rattle.syslog_lines.specs.declared.framing.Frames.{Frames}
use Rattle.syslog_lines.specs.declared.place.Place.{Place}
use Rattle.syslog_lines.specs.declared.place.Place.TheVariants.{Long}

-- ---- whole frames, one by one

-- of whole frames that the bytes begin with, the output was added of those before one that wants memory
abbrev pub StopsWithin : Frames → Filter → List ℕ → Option (List ℕ) → Option (List ℕ) → Type 0
StopsWithin frames filter bytes old new = (messages : List (List ℕ)) × (after : List ℕ)
    × AreFrames frames.framing bytes messages after × WroteBefore filter messages old new

pub whole_start : (frames : Frames) (filter : Filter) (bytes : List ℕ) (old : Option (List ℕ)) (tally : Tally)
    → AddsWhole frames filter bytes bytes old old tally tally
whole_start frames filter bytes old tally = ([], refl, Answered-none frames filter old tally)

module _ {frames : Frames} {filter : Filter} {bytes mid : List ℕ} {old then_out : Option (List ℕ)} {was then : Tally}
    (so_far : AddsWhole frames filter bytes mid old then_out was then) (message rest : List ℕ)
    (one : AreFrames frames.framing mid (message ∷ []) rest) (new : Option (List ℕ)) where
  pub whole_more : (is : Tally) → Answered frames filter (message ∷ []) then_out new then is
      → AddsWhole frames filter bytes rest old new was is
  whole_more is answered = (
    so_far.0 ++ message ∷ [],
    AreFrames-append frames.framing bytes so_far.0 (message ∷ []) mid rest so_far.1 one,
    Answered-after so_far.2 answered,
  )

  pub stops_here : WroteBefore filter (message ∷ []) then_out new → StopsWithin frames filter bytes old new
  stops_here before = (
    so_far.0 ++ message ∷ [],
    rest,
    AreFrames-append frames.framing bytes so_far.0 (message ∷ []) mid rest so_far.1 one,
    WroteBefore-after so_far.2.wrote before,
  )

-- frames of what the bytes begin with are frames of the bytes
module _ (frames : Frames) (filter : Filter) (bytes : List ℕ) (past : ℕ) (old new : Option (List ℕ)) where
  pub whole_front : (was is : Tally) → AddsWhole frames filter (take past bytes) [] old new was is
      → AddsWhole frames filter bytes (drop past bytes) old new was is
  whole_front was is (messages, framed, answered) = (
    messages,
    rw (take-append-drop past bytes) at
        (AreFrames-more frames.framing (take past bytes) messages [] (drop past bytes) framed),
    answered,
  )

  pub stops_front : StopsWithin frames filter (take past bytes) old new → StopsWithin frames filter bytes old new
  stops_front (messages, after, framed, before) = (
    messages,
    after ++ drop past bytes,
    rw (take-append-drop past bytes) at
        (AreFrames-more frames.framing (take past bytes) messages after (drop past bytes) framed),
    before,
  )

-- ---- from a place on

pub read_up_to : (frames : Frames) (place : Place) (input : List ℕ) (messages : List (List ℕ)) (bytes : List ℕ)
    → IsHeld frames.framing place bytes → IsAt frames place input messages bytes
    → HasRead frames input messages × IsAt frames place input messages bytes
read_up_to frames place input messages bytes held at =
    let (cut, read, long) = HasRead-held frames place input messages bytes at held in ((cut, read), at)

-- no frame ended in the bytes
pub held_only : (frames : Frames) (filter : Filter) (place next : Place) (bytes rest : List ℕ) (old : Option (List ℕ))
    (was is : Tally) → is ≡ was → IsHeld frames.framing next rest
    → ((input : List ℕ) (messages : List (List ℕ)) → IsAt frames place input messages bytes
    → IsAt frames next input messages rest)
    → Goes frames place bytes
    (λ input messages. HasRead frames input messages × IsAt frames next input messages rest)
    (λ more. Answered frames (taken frames filter) more old old was is)
held_only frames filter place next bytes rest old was is same held goes = λ input messages here. (
  [],
  read_up_to frames next input (messages ++ []) rest held (rw (append-nil messages) (goes input messages here)),
  rw same (Answered-none frames (taken frames filter) old was),
)

module _ (frames : Frames) (filter : Filter) (place next : Place) (bytes start : List ℕ) (was then : Tally)
    (entered : Goes frames place bytes (λ input messages. Opened frames input messages start) (Skips frames was then))
    (old new : List ℕ) where
  pub held_goes : (rest left : List ℕ) (is : Tally)
      → AddsWhole frames (taken frames filter) start rest (Some old) (Some new) then is
      → IsHeld frames.framing next left
      → ((input : List ℕ) (messages : List (List ℕ)) → Opened frames input messages rest
      → IsAt frames next input messages left)
      → Goes frames place bytes
      (λ input messages. HasRead frames input messages × IsAt frames next input messages left)
      (λ more. Answered frames (taken frames filter) more (Some old) (Some new) was is)
  held_goes rest left is (done, framed, answered) held leaves = λ input messages at.
      let (skipped, opened, skips) = entered input messages at in
      let whole = rw append_assoc at
      (Opened-frames frames input (messages ++ skipped) done start rest opened framed) in (
        skipped ++ done,
        read_up_to frames next input (messages ++ (skipped ++ done)) left held
            (leaves input (messages ++ (skipped ++ done)) whole),
        Answered-after (Answered-skips frames filter (Some old) was then skipped skips) answered,
      )

  pub held_stops : {E : Type 0} (is : Tally) (r : Result ℕ E) → IsErr r
      → StopsWithin frames (taken frames filter) start (Some old) (Some new)
      → Goes frames place bytes (HasReadUpTo frames next bytes r)
      (λ more. Adds frames (taken frames filter) more old new was is r)
  held_stops is r failed (done, after, framed, before) = λ input messages at.
      let (skipped, opened, skips) = entered input messages at in
      let (others, cut, all, unended) = some_frames frames.framing after in
      let whole = rw append_assoc at (Opened-frames frames input (messages ++ skipped) (done ++ others) start cut opened
      (AreFrames-append frames.framing start done others after cut framed all)) in
      let first = Answered-skips frames filter (Some old) was then skipped skips in (
        skipped ++ (done ++ others),
        (
          (cut, read_opened frames input (messages ++ (skipped ++ (done ++ others))) cut whole unended),
          IfOk-from_err r (λ past. IsAt frames next input (messages ++ (skipped ++ (done ++ others))) (drop past bytes))
              failed,
        ),
        MatchResult-from_err r _ _ failed (λ e. WroteBefore-after first.wrote (WroteBefore-more before others)),
      )

-- ---- the end of the input

-- a message that is too long ends
pub last_long : (frames : Frames) (filter : Filter) (place : Place) (missing : Option ℕ) (bytes : List ℕ)
    (old : Option (List ℕ)) (was is : Tally) → place ≡ Long missing → IsHeld frames.framing place bytes
    → CountsLong was is → Goes frames place bytes (HasAllFrames frames)
    (λ more. Answered frames (taken frames filter) more old old was is)
last_long frames filter place missing bytes old was is long held counted = rw long (λ input messages at.
    let (front, part, read, unended, above, some) = read_long frames missing input messages bytes
    (rw long at held) at in (
      part ∷ [],
      all_cut frames input messages front part read some unended,
      Answered-long frames filter part old was is (rw append-nil at (above [])) counted,
    ))

module _ (frames : Frames) (place : Place) (bytes : List ℕ)
    (begins : (missing : Option ℕ) → place ≡ Long missing → ⊥) (held : IsHeld frames.framing place bytes) where
  pub last_none : (filter : Filter) (old : Option (List ℕ)) (tally : Tally) → bytes ≡ []
      → Goes frames place bytes (HasAllFrames frames)
      (λ more. Answered frames (taken frames filter) more old old tally tally)
  last_none filter old tally empty = λ input messages at. (
    [],
    all_none_left frames input messages
        (rw empty at (read_begun frames place input messages bytes begins held at)),
    Answered-none frames (taken frames filter) old tally,
  )

  pub last_cut : (message : List ℕ) (Does : List (List ℕ) → Type 0) → 0 < length bytes
      → IsCutFrame frames.framing message bytes → Does (message ∷ [])
      → Goes frames place bytes (HasAllFrames frames) Does
  last_cut message Does some cut does = λ input messages at. (
    message ∷ [],
    all_cut frames input messages bytes message (read_begun frames place input messages bytes begins held at) some cut,
    does,
  )
