-- The digits that bytes begin with, and the count that they may be.
use Rattle.syslog_lines.proofs.Names.{◌≡◌, ◌≢◌, ◌+◌, ◌-◌, ◌<◌, ◌≤◌, ℕ, List, [], ◌∷◌, ◌++◌, length, take, drop}
use Rattle.syslog_lines.proofs.Names.{slice_index, inl, inr, refl, sym, ◌∙◌, ap, subst, arith, cases_eq, All-nil}
use Rattle.syslog_lines.proofs.Names.{take-append-drop}
use Rattle.std.proofs.Common.{length-append, length-take, ◌⊎◌, suc, zero, ◌*◌, ◌^◌, add-one}
use Rattle.std.proofs.Math.Seq.{get_or-append_seam}
use Rattle.std.proofs.lemmas.Bool.{cases_lt}
use Rattle.std.proofs.Math.Nat.{pow-suc}
use Rattle.std.proofs.lemmas.List.{get_or-take, get_or_append_left, drop_more}
use Rattle.std.proofs.lemmas.List.Elements.{All-cons, All-get_or, All-head, All-tail}
use Rattle.std.specs.List.{All}
use Rattle.syslog_lines.specs.Frames.{AreDigits, IsCount, IsCounted, IsDigit, IsOpen, IsUncounted, number_after}
use Rattle.syslog_lines.specs.declared.framing.Framing.{Framing}
use Rattle.syslog_lines.specs.declared.framing.Framing.TheVariants.{LineFeeds, Nuls, OctetCounts}

pub le_or_lt : (a b : ℕ) → (a ≤ b) ⊎ (b < a)
le_or_lt a b = elim (cases_lt b a) [ inl low ↦ inr low | inr high ↦ inl high ]

pub number_after-push : (before : ℕ) (digits : List ℕ) (digit : ℕ)
    → number_after before (digits ++ digit ∷ []) ≡ number_after before digits * 10 + (digit - 48)
number_after-push before [] digit = refl
number_after-push before (first ∷ digits) digit = number_after-push (before * 10 + (first - 48)) digits digit

pub larger_number : (octets size digit : ℕ) → IsDigit digit → octets < 10 ^ size
    → octets * 10 + (digit - 48) < 10 ^ (size + 1)
larger_number octets size digit is small = rw (add-one, pow-suc 10 size) (omega (arith, is.0, is.1, small))

digit_or_not : (byte : ℕ) → IsDigit byte ⊎ (¬ (IsDigit byte))
digit_or_not byte = elim (le_or_lt 48 byte) [
  | inl low ↦ elim (le_or_lt byte 57) [
    | inl high ↦ inl (low, high)
    | inr high ↦ inr (λ is. omega (arith, is.1, high))
  ]
  | inr low ↦ inr (λ is. omega (arith, is.0, low))
]

-- so many digits, and no more up to a limit
digits_within : (limit : ℕ) (bytes : List ℕ) → (size : ℕ) × (size ≤ limit) × (size ≤ length bytes)
    × All IsDigit (take size bytes) × (size < limit → size < length bytes → ¬ (IsDigit (slice_index bytes size)))
digits_within zero bytes = (0, omega arith, omega arith, All-nil IsDigit, λ low. absurd (omega arith))
digits_within (suc limit) [] = (0, omega arith, omega arith, All-nil IsDigit, λ low within. absurd (omega arith))
digits_within (suc limit) (byte ∷ bytes) = elim (digit_or_not byte) [
  | inl is ↦
      let (size, few, within, each, last) = digits_within limit bytes in (
        suc size,
        omega arith,
        omega arith,
        All-cons IsDigit byte (take size bytes) is each,
        λ low inside. last (omega arith) (omega arith),
      )
  | inr other ↦ (0, omega arith, omega arith, All-nil IsDigit, λ low within. other)
]

-- the digits of a count are all that there are
module _ (bytes : List ℕ) (size number : ℕ) (are : AreDigits bytes size number) (digits : List ℕ) (octets : ℕ)
    (rest : List ℕ)
    (count : IsCount digits octets) (same : bytes ≡ digits ++ 32 ∷ rest) where
  space : slice_index bytes (length digits) ≡ 32
  space = rw same (get_or-append_seam digits 32 rest 0)

  long : length digits < length bytes
  long = omega (arith, ap length same, length-append digits (32 ∷ rest))

  pub digits_same : length digits ≡ size
  digits_same = elim (le_or_lt size (length digits)) [
    | inl high ↦ elim (le_or_lt (length digits) size) [
      | inl low ↦ omega arith
      | inr more ↦ absurd (are.last (omega (arith, count.few)) (omega (arith, long))
          (subst IsDigit (sym (ap (λ (l : List ℕ). slice_index l size) same
          ∙ get_or_append_left digits (32 ∷ rest) 0 size more))
          (All-get_or IsDigit digits size 0 more count.each)))
    ]
    | inr less ↦ absurd (
        let digit = All-get_or IsDigit (take size bytes) (length digits) 0
        (omega (arith, length-take size bytes, are.within)) are.each in
        omega (arith, subst IsDigit (get_or-take size bytes (length digits) 0 less ∙ space) digit))
  ]

  pub count_ends : slice_index bytes size ≡ 32
  count_ends = subst (λ (n : ℕ). slice_index bytes n ≡ 32) digits_same space

  pub count_within : size < length bytes
  count_within = omega (arith, digits_same, long)

  pub count_some : 0 < size
  count_some = omega (arith, digits_same, count.some)

  pub count_first : slice_index bytes 0 ≢ 48
  count_first = rw (same, get_or_append_left digits (32 ∷ rest) 0 0 count.some) count.first

-- digits with a space after them are a count
pub count_is : (bytes : List ℕ) (size number : ℕ) → AreDigits bytes size number → 0 < size → slice_index bytes 0 ≢ 48
    → size < length bytes → slice_index bytes size ≡ 32 → IsCounted OctetCounts bytes number (drop (size + 1) bytes)
count_is bytes size number are some first within space = (
  refl,
  take size bytes,
  record {
    some = omega (arith, length-take size bytes);
    few = omega (arith, length-take size bytes, are.few);
    first = rw (get_or-take size bytes 0 0 some) first;
    each = are.each;
    value = are.value;
  },
  sym (take-append-drop size bytes) ∙ ap (λ (l : List ℕ). take size bytes ++ l)
      (rw space at (drop_more bytes size 0 within)),
)

pub count_or_not : (framing : Framing) (bytes : List ℕ)
    → ((octets : ℕ) × (rest : List ℕ) × IsCounted framing bytes octets rest) ⊎ IsUncounted framing bytes
count_or_not LineFeeds bytes = inr (λ octets rest (on, digits, count, same). cc)
count_or_not Nuls bytes = inr (λ octets rest (on, digits, count, same). cc)
count_or_not OctetCounts bytes =
    let (size, few, within, each, last) = digits_within 9 bytes in
    let are : AreDigits bytes size (number_after 0 (take size bytes)) =
    record { few = few; within = within; each = each; value = refl; last = last } in
    elim (le_or_lt (length bytes) size) [
      | inl short ↦ inr (λ octets rest (on, digits, count, same).
          omega (arith, count_within bytes size _ are digits octets rest count same))
      | inr inside ↦ elim (cases_eq (slice_index bytes size) 32) [
        | inl space ↦ elim (cases_eq size 0) [
          | inl none ↦ inr (λ octets rest (on, digits, count, same).
              omega (arith, count_some bytes size _ are digits octets rest count same))
          | inr some ↦ elim (cases_eq (slice_index bytes 0) 48) [
            | inl zero_first ↦ inr (λ octets rest (on, digits, count, same).
                count_first bytes size _ are digits octets rest count same zero_first)
            | inr first ↦ inl (_, _, count_is bytes size _ are (omega arith) first inside space)
          ]
        ]
        | inr other ↦ inr (λ octets rest (on, digits, count, same).
            other (count_ends bytes size _ are digits octets rest count same))
      ]
    ]

-- the count and what follows it are the only ones
same_seam : (digits others rest more : List ℕ) → All IsDigit digits → All IsDigit others
    → digits ++ 32 ∷ rest ≡ others ++ 32 ∷ more → (digits ≡ others) × (rest ≡ more)
same_seam [] [] rest more each all same = (refl, cc)
same_seam [] (other ∷ others) rest more each all same =
    let space : other ≡ 32 = cc in absurd (omega (arith, space, All-head IsDigit other others all))
same_seam (digit ∷ digits) [] rest more each all same =
    let space : digit ≡ 32 = cc in absurd (omega (arith, space, All-head IsDigit digit digits each))
same_seam (digit ∷ digits) (other ∷ others) rest more each all same =
    let (front, after) = same_seam digits others rest more (All-tail IsDigit digit digits each)
    (All-tail IsDigit other others all) (cc) in (cc, after)

pub few_octets : (framing : Framing) (bytes : List ℕ) (octets : ℕ) (rest : List ℕ) → IsCounted framing bytes octets rest
    → IsOpen framing bytes → length rest < octets
few_octets framing bytes octets rest is (message, inr (none, free, same)) = absurd (none octets rest is)
few_octets framing bytes octets rest (on, digits, count, same)
    (message, inl (other, few, (counts_too, others, counts, equal))) =
    let (one, rests) = same_seam digits others rest message count.each counts.each (sym same ∙ equal) in
    let all : octets ≡ other = count.value ∙ ap (number_after 0) one ∙ sym counts.value in
    omega (arith, ap length rests, few, all)
