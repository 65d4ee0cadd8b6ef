-- Counts of lines.
use Rattle.syslog_lines.proofs.Names.{[], length, count_by, held_count, Filter, HasCounted, is_answered, is_skipped}
use Rattle.syslog_lines.proofs.Names.{◌≡◌, ℕ, ◌+◌, List, ◌∷◌, ◌++◌, Bool, true, false, refl, cond, arith, Tally, ap}
use Rattle.syslog_lines.proofs.Names.{◌∙◌, inl, inr}
use Rattle.std.proofs.lemmas.Bool.{cases_Bool, false_from_ne_true}
use Rattle.std.proofs.lemmas.List.Filters.{length-filter_both}
use Rattle.std.proofs.lemmas.List.Sums.{length-filter}
use Rattle.std.{proofs.lemmas.List.Sums.sum_by-append, proofs.lemmas.Slice.Zip.AllZip-long, specs.Prelude.not}
use Rattle.std.proofs.lemmas.Str.{is_utf8-from_IsUtf8, IsUtf8-from_is_utf8}
use Rattle.std.specs.{List.AllZip, Prelude.IsUtf8, Prelude.if◌then◌else◌, Str.is_utf8}
use Rattle.syslog_lines.specs.Frames.{is_too_long, line_of}
use Rattle.syslog_lines.specs.Output.{Answer, AreAnswers, AreCounts, Counts, Grows, Omitted, invalid_answers}
use Rattle.syslog_lines.specs.Output.{is_invalid}
use Rattle.syslog_lines.specs.Place.{CountsLong}
use Rattle.syslog_lines.specs.declared.framing.Frames.{Frames}
use Rattle.syslog_lines.specs.declared.summary.LineCounts.{LineCounts}

count-append : {X : Type 0} (keep : X → Bool) (xs ys : List X)
    → count_by keep (xs ++ ys) ≡ count_by keep xs + count_by keep ys
count-append {X = X} keep xs ys = sum_by-append (λ (x : X). cond (keep x) 1 0) xs ys

Grows-append : {X : Type 0} (keep : X → Bool) (first second : List X) (was mid is : ℕ) → Grows keep first was mid
    → Grows keep second mid is → Grows keep (first ++ second) was is
Grows-append keep first second was mid is grown more = λ n before.
    omega (arith, more (n + count_by keep first) (grown n before), count-append keep first second)

-- ---- lines that are not UTF-8

invalid-append : (frames : Frames) (R : List ℕ → Answer → Type 0) (lines more : List (List ℕ))
    (first second : List Answer) → AllZip R lines first
    → invalid_answers frames (lines ++ more) (first ++ second)
    ≡ invalid_answers frames lines first ++ invalid_answers frames more second
invalid-append frames R [] more [] second each = refl
invalid-append frames R (line ∷ lines) more (answer ∷ first) second each =
    let rest = invalid-append frames R lines more first second each.1 in
    elim (cases_Bool (is_invalid frames line)) [
      | inl invalid ↦ rw invalid (ap (λ (l : List Answer). answer ∷ l) rest)
      | inr valid ↦ rw valid rest
    ]
invalid-append frames R lines more first second each = absurd each

-- ---- all counts

-- nothing was counted
pub Counts-none : (frames : Frames) (tally : Tally) → Counts frames tally tally [] []
Counts-none frames tally = record {
  answered = λ n before. omega (arith, before);
  skipped = λ n before. omega (arith, before);
  answered_invalid = λ n before. omega (arith, before);
  skipped_invalid = λ n before. omega (arith, before);
  too_long = λ n before. omega (arith, before);
}

skipped_one : (answered : Bool) → ◌≡◌ {A = ℕ} (cond answered 0 1) (cond (not answered) 1 0)
skipped_one true = refl
skipped_one false = refl

-- One line more was counted, by what it gave.
module _ (frames : Frames) (was is : Tally) (line : List ℕ) (short : is_too_long frames line ≡ false) (answer : Answer)
    (answered : Bool) (same : answered ≡ is_answered answer)
    (more : is.answered ≡ held_count (was.answered + cond answered 1 0))
    (less : is.skipped ≡ held_count (was.skipped + cond answered 0 1)) (kept_long : is.too_long ≡ was.too_long) where
  pub Counts-valid : IsUtf8 (line_of frames.strips line) → is.answered_invalid ≡ was.answered_invalid
      → is.skipped_invalid ≡ was.skipped_invalid → Counts frames was is (line ∷ []) (answer ∷ [])
  Counts-valid valid kept left =
      let taken : is_utf8 (line_of frames.strips line) ≡ true = is_utf8-from_IsUtf8 _ valid in record {
        answered = λ n before. rw (← same) (omega (arith, before, more));
        skipped = λ n before. rw (← same) (omega (arith, before, less, skipped_one answered));
        answered_invalid = λ n before. rw (short, taken) (omega (arith, before, kept));
        skipped_invalid = λ n before. rw (short, taken) (omega (arith, before, left));
        too_long = λ n before. rw short (omega (arith, before, kept_long));
      }

  pub Counts-invalid : ¬ (IsUtf8 (line_of frames.strips line))
      → is.answered_invalid ≡ held_count (was.answered_invalid + cond answered 1 0)
      → is.skipped_invalid ≡ held_count (was.skipped_invalid + cond answered 0 1)
      → Counts frames was is (line ∷ []) (answer ∷ [])
  Counts-invalid invalid first second =
      let refused : is_utf8 (line_of frames.strips line) ≡ false =
      false_from_ne_true _ (λ valid. invalid (IsUtf8-from_is_utf8 _ valid)) in record {
        answered = λ n before. rw (← same) (omega (arith, before, more));
        skipped = λ n before. rw (← same) (omega (arith, before, less, skipped_one answered));
        answered_invalid = λ n before. rw (short, refused, ← same) (omega (arith, before, first));
        skipped_invalid =
            λ n before. rw (short, refused, ← same) (omega (arith, before, second, skipped_one answered));
        too_long = λ n before. rw short (omega (arith, before, kept_long));
      }

-- one that is too long
pub Counts-long : (frames : Frames) (was is : Tally) (line : List ℕ) → is_too_long frames line ≡ true
    → CountsLong was is → Counts frames was is (line ∷ []) (Omitted ∷ [])
Counts-long frames was is line long counted = record {
  answered = λ n before. omega (arith, before, counted.answered);
  skipped = λ n before. omega (arith, before, counted.skipped);
  answered_invalid = λ n before. rw long (omega (arith, before, counted.answered_invalid));
  skipped_invalid = λ n before. rw long (omega (arith, before, counted.skipped_invalid));
  too_long = λ n before. rw long (omega (arith, before, counted.too_long));
}

pub Counts-append : (frames : Frames) (R : List ℕ → Answer → Type 0) (was mid is : Tally) (lines more : List (List ℕ))
    (first second : List Answer) → AllZip R lines first → Counts frames was mid lines first
    → Counts frames mid is more second → Counts frames was is (lines ++ more) (first ++ second)
Counts-append frames R was mid is lines more first second each counted next =
    let one : List Answer = invalid_answers frames lines first in
    let two : List Answer = invalid_answers frames more second in record {
      answered = Grows-append is_answered first second _ _ _ counted.answered next.answered;
      skipped = Grows-append is_skipped first second _ _ _ counted.skipped next.skipped;
      answered_invalid = rw (invalid-append frames R lines more first second each)
          (Grows-append is_answered one two _ _ _ counted.answered_invalid next.answered_invalid);
      skipped_invalid = rw (invalid-append frames R lines more first second each)
          (Grows-append is_skipped one two _ _ _ counted.skipped_invalid next.skipped_invalid);
      too_long = Grows-append (is_too_long frames) lines more _ _ _ counted.too_long next.too_long;
    }

-- a tally of no lines
pub record IsFresh (tally : Tally) : Type 0 where
  pub answered : tally.answered ≡ 0
  pub skipped : tally.skipped ≡ 0
  pub answered_invalid : tally.answered_invalid ≡ 0
  pub skipped_invalid : tally.skipped_invalid ≡ 0
  pub too_long : tally.too_long ≡ 0

-- what was counted from the start
pub counted_from_zero : (frames : Frames) (was is : Tally) (lines : List (List ℕ)) (answers : List Answer) → IsFresh was
    → Counts frames was is lines answers → HasCounted frames is lines answers
counted_from_zero frames was is lines answers fresh counts = record {
  answered = omega (arith, counts.answered 0 (omega (arith, fresh.answered)));
  skipped = omega (arith, counts.skipped 0 (omega (arith, fresh.skipped)));
  answered_invalid = omega (arith, counts.answered_invalid 0 (omega (arith, fresh.answered_invalid)));
  skipped_invalid = omega (arith, counts.skipped_invalid 0 (omega (arith, fresh.skipped_invalid)));
  too_long = omega (arith, counts.too_long 0 (omega (arith, fresh.too_long)));
}

-- each line counts as answered or as skipped, so the tally's lines are those of the input
pub lines_counted : (frames : Frames) (filter : Filter) (tally : Tally) (lines : List (List ℕ)) (answers : List Answer)
    → AreAnswers filter lines answers → HasCounted frames tally lines answers
    → held_count (tally.answered + tally.skipped) ≡ held_count (length lines)
lines_counted frames filter tally lines answers answered counted =
    omega (
      arith,
      AllZip-long filter.Answers lines answers answered,
      length-filter_both is_answered is_skipped (λ answer. refl) answers,
      length-filter is_answered answers,
      length-filter is_skipped answers,
      counted.answered,
      counted.skipped,
    )

-- the counts of a tally are those of its lines
pub AreCounts-kept : (frames : Frames) (is_latin1 : Bool) (tally : Tally) (lines : List (List ℕ))
    (answers : List Answer)
    (counts : LineCounts) → HasCounted frames tally lines answers
    → held_count (tally.answered + tally.skipped) ≡ held_count (length lines)
    → counts.lines ≡ held_count (tally.answered + tally.skipped) → counts.refused ≡ tally.skipped
    → counts.refused_invalid ≡ tally.skipped_invalid → counts.too_long ≡ tally.too_long
    → counts.replaced ≡ (if is_latin1 then 0 else tally.answered_invalid)
    → AreCounts frames is_latin1 lines answers counts
AreCounts-kept frames is_latin1 tally lines answers counts counted all told refused invalid long replaced = record {
  lines = told ∙ all;
  refused = refused ∙ counted.skipped;
  refused_invalid = invalid ∙ counted.skipped_invalid;
  too_long = long ∙ counted.too_long;
  replaced = replaced ∙ ap (λ (n : ℕ). if is_latin1 then 0 else n) counted.answered_invalid;
}
