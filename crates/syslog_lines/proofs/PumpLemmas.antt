-- How a filter is pumped over its input, block by block.
use Rattle.syslog_lines.proofs
use proofs.Names.{append-nil, RunFault, Option, subst, Memory, Filter, Answered, ◌≡◌, ℕ, Bool, List, [], ◌++◌, inl, inr}
use proofs.Names.{◌∷◌, ◌≤◌, Adds, Err, Ok, Result, Some, Wrote, WroteBefore, WroteCut, drop, length, sym, take}
use proofs.Names.{refl, arith, Keeps, Tally, Write, true, false}
use Rattle.std.proofs.lemmas.Result.{IfOk-at_ok, MatchResult-at_ok}
use Rattle.std.specs.Io.KnownBytes.{Appends, Consumes, IsAtEnd}
use Rattle.std.proofs.KnownBytes.{Consumes-kept, Consumes-nil, Consumes-trans, Keeps-refl}
use Rattle.syslog_lines.{specs.Block.StopsReading, specs.declared.summary.RunFault.TheVariants.Read}
use proofs.{CountLemmas.IsFresh, CountLemmas.counted_from_zero, CountLemmas.lines_counted}
use proofs.FrameLemmas.{IsOpen-nil}
use proofs.PlaceLemmas.{HasRead-held, IsAt-read}
use Rattle.syslog_lines.specs.Frames.{HasAllFrames, HasBody, mark}
use Rattle.syslog_lines.specs.Output.{taken}
use Rattle.syslog_lines.specs.Place.{Goes, HasReadUpTo, IsAt, IsHeld, StartsAt}
use Rattle.syslog_lines.specs.Pump.{CanAnswer, EndsEarly, ReadAll, ReadFrames, PumpsAll}
use Rattle.syslog_lines.specs.declared.framing.Frames.{Frames}
use Rattle.syslog_lines.specs.declared.place.Place.{Place}
use Rattle.syslog_lines.specs.declared.place.Place.TheVariants.{Head, Frame, Long}
use proofs.AnswerLemmas.{Answered-after, Answered-none, Wrote-none, WroteBefore-after, WroteCut-after}

-- what was read so far was answered up to a place, its output written, and these bytes are held
pub record PumpedSoFar (frames : Frames) (filter : Filter) (in_before in_after out_before out_after : Option (List ℕ))
    (fresh : Tally) (place : Place) (held : List ℕ) (tally : Tally) : Type 0 where
  pub read : List ℕ
  pub consumed : Consumes in_before in_after read
  pub lines : List (List ℕ)
  pub at : IsAt frames place read lines held
  pub shut : IsHeld frames.framing place held
  pub answered : Answered frames (taken frames filter) lines out_before out_after fresh tally

start_at : (frames : Frames) (place : Place) → StartsAt frames place → IsAt frames place [] [] []
start_at frames Head on = (on, refl, refl)
start_at frames Frame off = record { body = []; settled = λ more. rw off refl; framed = refl }
start_at frames (Long missing) none = absurd none

start_held : (frames : Frames) (place : Place) → StartsAt frames place → IsHeld frames.framing place []
start_held frames Head on = (mark, omega arith, refl)
start_held frames Frame off = IsOpen-nil frames.framing
start_held frames (Long missing) none = absurd none

pub PumpedSoFar-start : (frames : Frames) (filter : Filter) (input output : Option (List ℕ)) (fresh : Tally)
    (place : Place) (held : List ℕ) → StartsAt frames place → held ≡ []
    → PumpedSoFar frames filter input input output output fresh place held fresh
PumpedSoFar-start frames filter input output fresh place held start empty = rw empty (record {
  read = [];
  consumed = Consumes-nil input;
  lines = [];
  at = start_at frames place start;
  shut = start_held frames place start;
  answered = Answered-none frames (taken frames filter) output fresh;
})

-- nothing was read
nothing_framed : (strips : Bool) → HasBody strips [] []
nothing_framed false = refl
nothing_framed true = inr (refl, λ rest is. cc)

abbrev nothing_read : (frames : Frames) (input : Option (List ℕ)) → ReadFrames frames input input []
nothing_read frames input = record {
  read = [];
  consumed = Consumes-nil input;
  cut = [];
  framed = record {
    body = [];
    opened = nothing_framed frames.strips;
    framed = refl;
    unended = IsOpen-nil frames.framing;
  };
}

-- no block was had, so nothing was read
pub EndsEarly-unbegun : (frames : Frames) (filter : Filter) (input output : Option (List ℕ))
    → EndsEarly frames filter input input output output Memory
EndsEarly-unbegun frames filter input output =
    inl ([], nothing_read frames input, inl refl, Wrote-none (taken frames filter) output output (Keeps-refl output))

-- ---- what was collected, and is then written

module _ {filter : Filter} {all : List ℕ} {old new : Option (List ℕ)} (written : Appends old new all) where
  Wrote-collected : {lines : List (List ℕ)} → Wrote filter lines (Some []) (Some all) → Wrote filter lines old new
  Wrote-collected wrote = record {
    answers = wrote.answers;
    answered = wrote.answered;
    written = subst (Appends old new) wrote.written written;
  }

  Answered-collected : {frames : Frames} {lines : List (List ℕ)} {was is : Tally}
      → Answered frames filter lines (Some []) (Some all) was is → Answered frames filter lines old new was is
  unfolding Wrote-collected
  Answered-collected answered = record { wrote = Wrote-collected answered.wrote; counted = answered.counted }

  WroteBefore-collected : {lines : List (List ℕ)} → WroteBefore filter lines (Some []) (Some all)
      → WroteBefore filter lines old new
  WroteBefore-collected first = record {
    before = first.before;
    line = first.line;
    after = first.after;
    listed = first.listed;
    wanted = first.wanted;
    wrote = Wrote-collected first.wrote;
  }

-- a beginning of it was written, whether or not memory was refused
module _ (frames : Frames) (filter : Filter) (lines : List (List ℕ)) (all : List ℕ) (old new : Option (List ℕ))
    (part : (size : ℕ) × Appends old new (take size all)) where
  begun : (before after : List (List ℕ)) → lines ≡ before ++ after → Wrote filter before (Some []) (Some all)
      → WroteCut filter lines old new
  begun before after listed wrote = record {
    before = before;
    after = after;
    listed = listed;
    answers = wrote.answers;
    answered = wrote.answered;
    size = part.0;
    written = subst (λ (l : List ℕ). Appends old new (take part.0 l)) wrote.written part.1;
  }

  WroteCut-collected : (was is : Tally) {X E : Type 0} (r : Result X E) → Adds frames filter lines [] all was is r
      → WroteCut filter lines old new
  WroteCut-collected was is (Ok x) adds = begun lines [] (sym (append-nil lines)) adds.wrote
  WroteCut-collected was is (Err e) adds = begun adds.before (adds.line ∷ adds.after) adds.listed adds.wrote

-- what was read has more messages than were answered, and this was collected for them
pub record Reached (frames : Frames) (filter : Filter) (in_before in_after out_before out_mid : Option (List ℕ))
    {X E : Type 0} (r : Result X E) (all : List ℕ) (was is : Tally) : Type 0 where
  pub lines : List (List ℕ)
  pub more : List (List ℕ)
  pub wrote : Wrote (taken frames filter) lines out_before out_mid
  pub can : CanAnswer frames in_before in_after (lines ++ more)
  pub adds : Adds frames (taken frames filter) more [] all was is r

module _ {frames : Frames} {filter : Filter} {in_before in_after out_before out_mid : Option (List ℕ)} {X E : Type 0}
    {r : Result X E} {all : List ℕ} {was is : Tally}
    (reached : Reached frames filter in_before in_after out_before out_mid r all was is) (out_after : Option (List ℕ))
  where
    -- a write failed
    pub EndsEarly-cut : (size : ℕ) × Appends out_mid out_after (take size all)
        → EndsEarly frames filter in_before in_after out_before out_after Write
    EndsEarly-cut part = (
      reached.lines ++ reached.more,
      reached.can,
      WroteCut-after reached.wrote
          (WroteCut-collected frames (taken frames filter) reached.more all out_mid out_after part was is r
          reached.adds),
    )

    -- memory was refused for a line
    pub EndsEarly-refused : (e : E) → r ≡ Err e → Appends out_mid out_after all
        → EndsEarly frames filter in_before in_after out_before out_after Memory
    EndsEarly-refused e failed written = inr (
      reached.lines ++ reached.more,
      reached.can,
      WroteBefore-after reached.wrote (WroteBefore-collected written (rw failed at reached.adds)),
    )

module _ {frames : Frames} {filter : Filter} {in_before in_mid out_before out_mid : Option (List ℕ)} {fresh was : Tally}
    {place : Place} {held : List ℕ}
    (so_far : PumpedSoFar frames filter in_before in_mid out_before out_mid fresh place held was)
    (in_after : Option (List ℕ)) where
  -- the next block was not read
  pub EndsEarly-stopped : (failed : Bool) (fault : RunFault) → Keeps in_mid in_after → StopsReading held fault failed
      → EndsEarly frames filter in_before in_after out_before out_mid fault
  EndsEarly-stopped failed fault same stopped =
      let (cut, framed, long) = HasRead-held frames place so_far.read so_far.lines held so_far.at so_far.shut in
      ends fault stopped (record {
        read = so_far.read;
        consumed = Consumes-kept in_before in_mid in_after so_far.read so_far.consumed same;
        cut = cut;
        framed = framed;
      }) long
    where
      ends : (fault : RunFault) → StopsReading held fault failed
          → (seen : ReadFrames frames in_before in_after so_far.lines) → length held ≤ length seen.cut
          → EndsEarly frames filter in_before in_after out_before out_mid fault
      ends Read stopped seen long = (so_far.lines, seen, so_far.answered.wrote)
      ends Write stopped seen long = absurd stopped
      ends Memory stopped seen long = inl
          (so_far.lines, seen, inr (omega (arith, stopped.1, long)), so_far.answered.wrote)

  -- one block more
  module _ (bytes : List ℕ) (filled : (piece : List ℕ) × Consumes in_mid in_after piece × (bytes ≡ held ++ piece))
      (next : Place) (all : List ℕ) (is : Tally) {E : Type 0} (r : Result ℕ E)
      (goes : Goes frames place bytes (HasReadUpTo frames next bytes r)
      (λ more. Adds frames (taken frames filter) more [] all was is r)) where
    consumed_more : Consumes in_before in_after (so_far.read ++ filled.0)
    consumed_more =
        Consumes-trans in_before in_mid in_after so_far.read filled.0 so_far.consumed filled.1

    at_more : IsAt frames place (so_far.read ++ filled.0) so_far.lines bytes
    at_more = rw filled.2 (IsAt-read frames place so_far.read so_far.lines held filled.0 so_far.at)

    pub Reached-more : Reached frames filter in_before in_after out_before out_mid r all was is
    Reached-more =
        let (more, ((cut, framed), up_to), adds) = goes (so_far.read ++ filled.0) so_far.lines at_more in record {
          lines = so_far.lines;
          more = more;
          wrote = so_far.answered.wrote;
          can = inl record { read = so_far.read ++ filled.0; consumed = consumed_more; cut = cut; framed = framed };
          adds = adds;
        }

    pub PumpedSoFar-more : (past : ℕ) → r ≡ Ok past → IsHeld frames.framing next (drop past bytes)
        → (out_after : Option (List ℕ)) → Appends out_mid out_after all
        → PumpedSoFar frames filter in_before in_after out_before out_after fresh next (drop past bytes) is
    PumpedSoFar-more past done shut out_after written =
        let (more, (read, up_to), adds) = goes (so_far.read ++ filled.0) so_far.lines at_more in record {
          read = so_far.read ++ filled.0;
          consumed = consumed_more;
          lines = so_far.lines ++ more;
          at = IfOk-at_ok _ done up_to;
          shut = shut;
          answered = Answered-after so_far.answered (Answered-collected written (MatchResult-at_ok _ _ past done adds));
        }

  -- the end of the input
  module _ (bytes : List ℕ) (ended : Consumes in_mid in_after [] × IsAtEnd in_after × (bytes ≡ held)) where
    module _ (all : List ℕ) (is : Tally) {X E : Type 0} (r : Result X E)
        (goes : Goes frames place bytes (HasAllFrames frames)
        (λ more. Adds frames (taken frames filter) more [] all was is r)) where
      all_read : (messages : List (List ℕ)) → HasAllFrames frames so_far.read messages
          → ReadAll frames in_before in_after messages
      all_read messages framed = record {
        read = so_far.read;
        consumed = rw append-nil at
            (Consumes-trans in_before in_mid in_after so_far.read [] so_far.consumed ended.0);
        at_end = ended.1;
        framed = framed;
      }

      pub Reached-last : Reached frames filter in_before in_after out_before out_mid r all was is
      Reached-last =
          let (more, framed, adds) = goes so_far.read so_far.lines (rw ended.2 so_far.at) in record {
            lines = so_far.lines;
            more = more;
            wrote = so_far.answered.wrote;
            can = inr (all_read (so_far.lines ++ more) framed);
            adds = adds;
          }

      pub PumpsAll-last : (x : X) → r ≡ Ok x → (out_after : Option (List ℕ)) → Appends out_mid out_after all
          → IsFresh fresh → PumpsAll frames filter in_before in_after out_before out_after is
      PumpsAll-last x done out_after written zero =
          let (more, framed, adds) = goes so_far.read so_far.lines (rw ended.2 so_far.at) in
          let whole = Answered-after so_far.answered (Answered-collected written (MatchResult-at_ok _ _ x done adds)) in
          let counted = counted_from_zero frames fresh is (so_far.lines ++ more) whole.wrote.answers zero
          whole.counted in (
            whole.wrote.answers,
            record {
              lines = so_far.lines ++ more;
              all = all_read (so_far.lines ++ more) framed;
              answered = whole.wrote.answered;
              written = whole.wrote.written;
            },
            counted,
            lines_counted frames (taken frames filter) is (so_far.lines ++ more) whole.wrote.answers
                whole.wrote.answered counted,
          )
