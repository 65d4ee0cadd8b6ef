-- A field between quotes, written up to one of its quotes after the other.
use Rattle.std.proofs.Common.{◌≡◌, ◌==◌, ◌+◌, ◌<◌, ◌≤◌, ◌++◌, ◌∷◌, [], ℕ, zero, suc, List, Bool, true, false, length}
use Rattle.std.proofs.Common.{take}
use Rattle.std.proofs.Common.{drop, refl, sym, ap, ◌∙◌, add-one, arith}
use Rattle.std.specs.Prelude.{slice_index}
use Rattle.std.proofs.lemmas.Bool.{eqb-true}
use Rattle.std.proofs.lemmas.List.{length-drop}
use Rattle.syslog_csv.specs.Records.{doubled}

doubled_quote : (byte : ℕ) (bytes : List ℕ) → (byte == 34) ≡ true → doubled (byte ∷ bytes) ≡ 34 ∷ 34 ∷ doubled bytes
doubled_quote byte bytes is = rw is refl

doubled_other : (byte : ℕ) (bytes : List ℕ) → (byte == 34) ≡ false → doubled (byte ∷ bytes) ≡ byte ∷ doubled bytes
doubled_other byte bytes is = rw is refl

not_true : (x : Bool) → (x ≡ true → ⊥) → x ≡ false
not_true true never = absurd (never refl)
not_true false never = refl

-- up to its first quote, which is written twice
pub doubled_at : (rest : List ℕ) (at : ℕ) → at < length rest
    → ((k : ℕ) → k < at → (slice_index rest k == 34) ≡ true → ⊥)
    → (slice_index rest at == 34) ≡ true → doubled rest ≡ take (suc at) rest ++ (34 ∷ doubled (drop (suc at) rest))
doubled_at [] at within before here = absurd (omega arith)
doubled_at (byte ∷ rest) zero within before here =
    let is : byte ≡ 34 = eqb-true byte 34 here in
    doubled_quote byte rest here ∙ ap (λ (b : ℕ). b ∷ 34 ∷ doubled rest) (sym is)
doubled_at (byte ∷ rest) (suc at) within before here =
    doubled_other byte rest (not_true (byte == 34) (before 0 (omega arith)))
    ∙ ap (λ (l : List ℕ). byte ∷ l)
    (doubled_at rest at (omega arith) (λ k below. before (suc k) (omega arith)) here)

-- a field without a quote
pub doubled_none : (rest : List ℕ) → ((k : ℕ) → k < length rest → (slice_index rest k == 34) ≡ true → ⊥)
    → doubled rest ≡ rest
doubled_none [] none = refl
doubled_none (byte ∷ rest) none =
    doubled_other byte rest (not_true (byte == 34) (none 0 (omega arith)))
    ∙ ap (λ (l : List ℕ). byte ∷ l) (doubled_none rest (λ k below. none (suc k) (omega arith)))

-- up to its first quote, by what was found
pub quote_found : (text front rest : List ℕ) (at : ℕ) → at < length text
    → ((k : ℕ) → 0 ≤ k → k < at → (slice_index text k == 34) ≡ true → ⊥) → (slice_index text at == 34) ≡ true
    → front ≡ take (at + 1) text → rest ≡ drop (at + 1) text
    → (doubled text ≡ front ++ (34 ∷ doubled rest)) × (length rest < length text)
quote_found text front rest at within before here first second = (
  doubled_at text at within (λ k below. before k (omega arith) below) here
      ∙ rw (first, second, add-one) refl,
  rw (second, length-drop) (omega arith),
)
