-- What the filters give.
use Rattle.syslog_tidy.proofs.Names.{[], IsRound, IsFirstSettled, tidying, AreAnswers, Omitted, Written, is_skipped}
use Rattle.syslog_tidy.proofs.Names.{◌≡◌, ℕ, zero, suc, List, ◌∷◌, refl, subst, chars, IsRead, in_utc, Either, Answer}
use Rattle.syslog_tidy.proofs.Names.{ℤ}
use Rattle.std.proofs.Common.{Some, None, Result, Ok, Err, MatchResult}
use Rattle.std.{specs.Global.Global, specs.Prelude.String, specs.Prelude.string_bytes}
use Rattle.syslog_loose.{proofs.ReadingLemmas.invalid_or_memory, specs.Reading.IsUnreadable}
use Rattle.syslog_loose.{specs.Settling.Settles, specs.Settling.answer_in, specs.declared.fault.ParseFault.ParseFault}
use Rattle.syslog_loose.specs.declared.fault.ParseFault.TheVariants.{Invalid, Memory}
use Rattle.syslog_tidy.specs.Filters.{IsTidied, SharesOut, refusing}
use Rattle.syslog_lines.specs.Output.{is_answered}

-- exactly one of two filters writes something for a line
one_written : (year : ℤ) (line : List ℕ) (settled refused : Answer) → (tidying year).Answers line settled
    → (refusing year).Answers line refused → is_answered refused ≡ is_skipped settled
one_written year line (Written bytes) (Written other) (valid, (text, given, same)) (none, whole) =
    absurd (none valid text given)
one_written year line (Written bytes) Omitted s r = refl
one_written year line Omitted (Written other) s r = refl
one_written year line Omitted Omitted none (bytes, (valid, (text, given, same))) = absurd (none valid text given)
one_written year line settled refused s r = absurd (assumption (s, r))

pub shared_out : (year : ℤ) (lines : List (List ℕ)) (refused : List Answer) → AreAnswers (refusing year) lines refused
    → SharesOut year lines refused
shared_out year [] [] r [] s = tt
shared_out year (line ∷ lines) (a ∷ refused) r (x ∷ settled) s =
    (one_written year line x a s.0 r.0, shared_out year lines refused r.1 settled s.1)
shared_out year lines refused r settled s = absurd (assumption (r, s))

-- a text that has a round parses
has_message : (year : ℤ) (text u : List ℕ) (n : ℕ) → IsRound Either (in_utc year) text (suc n) u
    → IsUnreadable Either (in_utc year) text → ⊥
has_message year text u zero (before, same, next) none =
    none next.message (subst (λ (t : List ℕ). IsRead Either (in_utc year) t next.message) same next.read)
has_message year text u (suc n) (before, round, next) none = has_message year text before n round none

pub settled_is_readable : (year : ℤ) (text u : List ℕ) → IsFirstSettled Either (in_utc year) text u
    → IsUnreadable Either (in_utc year) text → ⊥
settled_is_readable year text u h = has_message year text u h.before h.round

-- what `settle_into` says of the text that it leaves and of its two faults
module _ {X : Type 0} (year : ℤ) (text : List ℕ) (into : String Global) where
  pub settles_as : (r : Result X ParseFault) → Settles Either (in_utc year) text (answer_in r into)
      → MatchResult r (λ x. IsTidied year text (Some (chars (string_bytes into))))
      (λ fault. fault ≡ Invalid → IsTidied year text None)
  settles_as (Ok x) h = h.first
  settles_as (Err Invalid) h = λ is. h.1
  settles_as (Err Memory) h = λ is. absurd (invalid_or_memory is)

  pub unreadable_is_invalid : (r : Result X ParseFault) → Settles Either (in_utc year) text (answer_in r into)
      → IsUnreadable Either (in_utc year) text → r ≡ Err Invalid
  unreadable_is_invalid (Ok x) h none =
      absurd (settled_is_readable year text (chars (string_bytes into)) h.first none)
  unreadable_is_invalid (Err Invalid) h none = refl
  unreadable_is_invalid (Err Memory) h none = absurd (h none)
