-- What several lines in a row give, to whatever it is written.
use Rattle.syslog_lines.proofs.Names.{append_assoc, append-nil, Appends-kept, Appends-trans, WroteBefore}
use Rattle.syslog_lines.proofs.Names.{◌≡◌, output_of, Answered, WroteCut}
use Rattle.syslog_lines.proofs.Names.{length, false, Option, Result, subst, arith, Keeps, Tally, Filter, Wrote}
use Rattle.syslog_lines.proofs.Names.{◌+◌, ◌<◌, List, ◌∷◌, ◌++◌, take, Bool, true, eqb, Some, Err, sym, refl}
use Rattle.syslog_lines.proofs.Names.{ℕ, [], Ok, inl, inr}
use Rattle.std.proofs.Common.{OnErr, IfErr, IsErrAnd, None}
use Rattle.std.{proofs.lemmas.Bool.Decides.nat_tests, proofs.lemmas.List.Concat.flat_map-append, specs.List.AllZip}
use Rattle.std.{proofs.KnownBytes.Appends-nil, proofs.Math.Seq.take-append-add}
use Rattle.std.proofs.KnownBytes.{Keeps-refl}
use Rattle.syslog_lines.specs.Frames.{is_above, is_too_long, line_of}
use Rattle.syslog_lines.specs.Output.{AddsAnswer, Answer, Counts, Omitted, answer_bytes, limited, taken}
use Rattle.syslog_lines.specs.Place.{CountsLong, Skips}
use Rattle.syslog_lines.specs.declared.framing.Frames.{Frames}
use Rattle.syslog_lines.proofs.CountLemmas.{Counts-append, Counts-long, Counts-none}

-- ---- some lines, and then those that follow

AllZip-append : {X Y : Type 0} (R : X → Y → Type 0) (xs more : List X) (ys others : List Y) → AllZip R xs ys
    → AllZip R more others → AllZip R (xs ++ more) (ys ++ others)
AllZip-append R [] more [] others first second = second
AllZip-append R (x ∷ xs) more (y ∷ ys) others first second = (first.0, AllZip-append R xs more ys others first.1 second)
AllZip-append R xs more ys others first second = absurd first

pub Wrote-none : (filter : Filter) (old new : Option (List ℕ)) → Keeps old new → Wrote filter [] old new
Wrote-none filter old new same =
    record { answers = []; answered = tt; written = Appends-kept old old new [] (Appends-nil old) same }

module _ {filter : Filter} {old mid new : Option (List ℕ)} {lines : List (List ℕ)} (first : Wrote filter lines old mid)
  where
    pub Wrote-after : {more : List (List ℕ)} → Wrote filter more mid new → Wrote filter (lines ++ more) old new
    Wrote-after {more = more} next = record {
      answers = first.answers ++ next.answers;
      answered = AllZip-append filter.Answers lines more first.answers next.answers first.answered next.answered;
      written = rw (flat_map-append answer_bytes first.answers next.answers)
          (Appends-trans old mid new (output_of first.answers) (output_of next.answers) first.written next.written);
    }

    pub WroteBefore-after : {part : List (List ℕ)} → WroteBefore filter part mid new
        → WroteBefore filter (lines ++ part) old new
    WroteBefore-after next = record {
      before = lines ++ next.before;
      line = next.line;
      after = next.after;
      listed = simp (next.listed, append_assoc);
      wanted = next.wanted;
      wrote = Wrote-after next.wrote;
    }

    pub WroteCut-after : {part : List (List ℕ)} → WroteCut filter part mid new → WroteCut filter (lines ++ part) old new
    WroteCut-after next = record {
      before = lines ++ next.before;
      after = next.after;
      listed = simp (next.listed, append_assoc);
      answers = first.answers ++ next.answers;
      answered = AllZip-append filter.Answers lines next.before first.answers next.answers first.answered next.answered;
      size = length (output_of first.answers) + next.size;
      written = rw (
        flat_map-append answer_bytes first.answers next.answers,
        take-append-add (output_of first.answers) (output_of next.answers) next.size,
      )
          (Appends-trans old mid new (output_of first.answers)
          (take next.size (output_of next.answers)) first.written next.written);
    }

pub WroteBefore-more : {filter : Filter} {old new : Option (List ℕ)} {lines : List (List ℕ)}
    → WroteBefore filter lines old new → (more : List (List ℕ)) → WroteBefore filter (lines ++ more) old new
WroteBefore-more first more = record {
  before = first.before;
  line = first.line;
  after = first.after ++ more;
  listed = rw first.listed (append_assoc first.before (first.line ∷ first.after) more);
  wanted = first.wanted;
  wrote = first.wrote;
}

pub Answered-after : {frames : Frames} {filter : Filter} {old mid new : Option (List ℕ)} {lines more : List (List ℕ)}
    {was then is : Tally} → Answered frames filter lines old mid was then
    → Answered frames filter more mid new then is → Answered frames filter (lines ++ more) old new was is
unfolding Wrote-after
Answered-after {frames = frames} {filter = filter} {lines = lines} {more = more} {was = was} {then = then} {is = is}
    first next = record {
      wrote = Wrote-after first.wrote next.wrote;
      counted = Counts-append frames filter.Answers was then is lines more first.wrote.answers next.wrote.answers
          first.wrote.answered first.counted next.counted;
    }

-- no line, and nothing written
pub Answered-none : (frames : Frames) (filter : Filter) (old : Option (List ℕ)) (tally : Tally)
    → Answered frames filter [] old old tally tally
unfolding Wrote-none
Answered-none frames filter old tally =
    record { wrote = Wrote-none filter old old (Keeps-refl old); counted = Counts-none frames tally }

-- ---- a filter that is given no line that is too long

limited-answers : (longest : Option ℕ) (filter : Filter) (line : List ℕ) (answer : Answer)
    → is_above longest (length line) ≡ false → filter.Answers line answer → (limited longest filter).Answers line answer
limited-answers None filter line answer short given = given
limited-answers (Some most) filter line answer short given = inl (grind (arith, nat_tests), given)

limited-wants : (longest : Option ℕ) (filter : Filter) (line : List ℕ) → is_above longest (length line) ≡ false
    → filter.Wants line → (limited longest filter).Wants line
limited-wants None filter line short given = given
limited-wants (Some most) filter line short given = (grind (arith, nat_tests), given)

limited-long : (longest : Option ℕ) (filter : Filter) (line : List ℕ) → is_above longest (length line) ≡ true
    → (limited longest filter).Answers line Omitted
limited-long None filter line long = cc
limited-long (Some most) filter line long = inr (grind (arith, nat_tests), refl)

module _ (frames : Frames) (filter : Filter) (message : List ℕ) where
  -- what the filter gives for a line was added, and the line counted
  pub Answered-one : (old new : List ℕ) (was is : Tally) (answered : Bool) → is_too_long frames message ≡ false
      → (adds : AddsAnswer filter (line_of frames.strips message) old new answered)
      → Counts frames was is (message ∷ []) (adds.0 ∷ [])
      → Answered frames (taken frames filter) (message ∷ []) (Some old) (Some new) was is
  Answered-one old new was is answered short adds counted = record {
    wrote = record {
      answers = adds.0 ∷ [];
      answered =
          (limited-answers frames.longest filter (line_of frames.strips message) adds.0 short adds.1, tt);
      written = rw append-nil adds.2;
    };
    counted = counted;
  }

  -- or nothing, since memory was refused
  pub WroteBefore-one : (old new : List ℕ) → is_too_long frames message ≡ false
      → filter.Wants (line_of frames.strips message) → new ≡ old
      → WroteBefore (taken frames filter) (message ∷ []) (Some old) (Some new)
  WroteBefore-one old new short wanted same = record {
    before = [];
    line = message;
    after = [];
    listed = refl;
    wanted = limited-wants frames.longest filter (line_of frames.strips message) short wanted;
    wrote = Wrote-none (taken frames filter) (Some old) (Some new) same;
  }

  -- a message that is too long was counted
  pub Answered-long : (old : Option (List ℕ)) (was is : Tally) → is_too_long frames message ≡ true
      → CountsLong was is → Answered frames (taken frames filter) (message ∷ []) old old was is
  Answered-long old was is long counted = record {
    wrote = record {
      answers = Omitted ∷ [];
      answered = (limited-long frames.longest filter (line_of frames.strips message) long, tt);
      written = Appends-nil old;
    };
    counted = Counts-long frames was is message long counted;
  }

-- so far no message, or one that is too long
pub Answered-skips : (frames : Frames) (filter : Filter) (old : Option (List ℕ)) (was is : Tally)
    (messages : List (List ℕ)) → Skips frames was is messages
    → Answered frames (taken frames filter) messages old old was is
Answered-skips frames filter old was is messages (inl (none, same)) =
    rw (none, same) (Answered-none frames (taken frames filter) old was)
Answered-skips frames filter old was is messages (inr (message, one, long, counted)) =
    rw one (Answered-long frames filter message old was is long counted)

-- ---- tests, and errors that were passed on by `?`

pub some_left : (rest : List ℕ) (empty : Bool) → empty ≡ eqb (length rest) 0 → empty ≡ false → 0 < length rest
some_left rest empty is not_empty = grind (arith, nat_tests)

pub OnErr-any : {X E : Type 0} (r : Result X E) (P : Type 0) → P → OnErr r P
OnErr-any (Ok x) P p = tt
OnErr-any (Err e) P p = p

pub IfErr-passed : {X E : Type 0} (r : Result X E) (e : E) (P : E → Type 0) → IsErrAnd r (λ y. y ≡ e) → P e → IfErr r P
IfErr-passed (Ok x) e P is p = tt
IfErr-passed (Err y) e P is p = subst P (sym is) p
