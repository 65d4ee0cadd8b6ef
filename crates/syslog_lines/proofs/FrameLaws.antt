-- The frame that is written for a message, as it is read.
use Rattle.syslog_lines.proofs.Names.{◌≡◌, ◌≢◌, ◌+◌, ◌<◌, ◌≤◌, ℕ, List, [], ◌∷◌, ◌++◌, length, slice_index}
use Rattle.syslog_lines.proofs.Names.{inl, inr, refl, sym, ◌∙◌, arith, All-append, All-nil}
use Rattle.std.proofs.Common.{◌^◌, ◌/◌, ◌%◌, decimal, length-append}
use Rattle.std.proofs.lemmas.Fmt.{decimal_by_steps, length-decimal-le}
use Rattle.std.proofs.lemmas.List.{get_or_append_left}
use Rattle.std.proofs.lemmas.List.Elements.{All-cons}
use Rattle.std.specs.List.{All, AllByRecursion, flat_map}
use Rattle.syslog_lines.proofs.DigitLemmas.{number_after-push}
use Rattle.syslog_lines.specs.Frames.{AreFrames, CanBeFramed, IsCount, IsDigit, IsFrame, frame_of, number_after}
use Rattle.syslog_lines.specs.declared.framing.Framing.{Framing}
use Rattle.syslog_lines.specs.declared.framing.Framing.TheVariants.{LineFeeds, Nuls, OctetCounts}

-- what is so of a number's digits: they write it, and none leads with 0 but that of 0
record Writes (n : ℕ) (digits : List ℕ) : Type 0 where
  some : 0 < length digits
  each : All IsDigit digits
  value : n ≡ number_after 0 digits
  first : 0 < n → slice_index digits 0 ≢ 48

one_digit : (n : ℕ) → n < 10 → Writes n ((48 + n) ∷ [])
one_digit n few = record {
  some = omega arith;
  each = All-cons IsDigit (48 + n) [] (omega arith, omega arith) (All-nil IsDigit);
  value = omega arith;
  first = λ some same. omega (arith, some, same);
}

one_more : (n : ℕ) (digits : List ℕ) → 10 ≤ n → Writes (n / 10) digits → Writes n (digits ++ (48 + n % 10) ∷ [])
one_more n digits many is = record {
  some = omega (arith, length-append digits ((48 + n % 10) ∷ []));
  each = All-append IsDigit digits ((48 + n % 10) ∷ []) is.each
      (All-cons IsDigit (48 + n % 10) [] (omega arith, omega arith) (All-nil IsDigit));
  value = omega (arith, number_after-push 0 digits (48 + n % 10), is.value);
  first = λ some same. is.first (omega arith)
      (sym (get_or_append_left digits ((48 + n % 10) ∷ []) 0 0 is.some) ∙ same);
}

decimal_writes : (n : ℕ) → n < 2 ^ 64 → Writes n (decimal n)
decimal_writes = decimal_by_steps Writes one_digit one_more

counted : (n : ℕ) → 0 < n → n ≤ 999999999 → IsCount (decimal n) n
counted n some few =
    let writes = decimal_writes n (omega arith) in
    record {
      some = writes.some;
      few = length-decimal-le 9 n (omega arith) (omega arith) (omega arith);
      first = writes.first some;
      each = writes.each;
      value = writes.value;
    }

pub framed : (framing : Framing) (message : List ℕ) → CanBeFramed framing message
    → IsFrame framing message (frame_of framing message)
framed LineFeeds message free = inr ((λ octets rest (on, digits, count, same). cc), free, refl)
framed Nuls message free = inr ((λ octets rest (on, digits, count, same). cc), free, refl)
framed OctetCounts message (some, few) =
    inl (refl, decimal (length message), counted (length message) some few, refl)

pub all_framed : (framing : Framing) (messages : List (List ℕ)) → AllByRecursion (CanBeFramed framing) messages
    → AreFrames framing (flat_map (frame_of framing) messages) messages []
all_framed framing [] can = refl
all_framed framing (message ∷ messages) can = (
  frame_of framing message,
  flat_map (frame_of framing) messages,
  framed framing message can.0,
  refl,
  all_framed framing messages can.1,
)
