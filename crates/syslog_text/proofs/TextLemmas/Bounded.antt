-- Numbers between two bounds.
use Rattle.syslog_text.proofs.Names.{◌≡◌, ◌<◌, ℕ, [], ◌∷◌, ◌++◌, length, arith, is_ascii_digit, Text, Ends}
use Rattle.syslog_text.proofs.Names.{IsDeterministic, ◌≤◌, ap, inl, inr, cases_lt, decimal, heads}
use Rattle.syslog_text.proofs.TextLemmas.Words.{number_back, number_det, one_digit, three_digits, two_digits}
use Rattle.syslog_text.specs.Text.Bounded.{LeadsWithZero, numeral}

pub numeral_det : (least most : ℕ) → IsDeterministic (numeral least most)
numeral_det least most p q p' q' n n' e h h' = number_det most p q p' q' n n' e h.0 h'.0

-- digits before no digit lead with a zero where the text does
pub digits_lead : (p q t : Text) → t ≡ p ++ q → 0 < length p → Ends is_ascii_digit q → LeadsWithZero t → LeadsWithZero p
digits_lead [] q t e some ends lead = absurd (omega arith)
digits_lead (a ∷ []) [] t e some ends (c, more, f, digit) = cc
digits_lead (a ∷ []) (b ∷ q) t e some ends (c, more, f, digit) = cc
digits_lead (a ∷ b ∷ p) q t e some ends (c, more, f, digit) = (b, p, cc, cc)

leads_never : (n : ℕ) → n < 1_000 → LeadsWithZero (decimal n) → ⊥
leads_never n small (c, more, e, digit) = elim (cases_lt n 10) [
  | inl few ↦ (let h = rw (one_digit n few) at e in let k = ap length h in omega arith)
  | inr many ↦ elim (cases_lt n 100) [
    | inl few ↦ (let h = heads _ _ _ _ (rw (two_digits n many few) at e) in omega arith)
    | inr more ↦ (let h = heads _ _ _ _ (rw (three_digits n more small) at e) in omega arith)
  ]
]

-- a number of up to three digits is read back before what begins with no digit
pub numeral_back : (n least most : ℕ) (q : Text) → least ≤ n → n ≤ most → most < 1_000 → Ends is_ascii_digit q
    → (numeral least most).Is (decimal n) q n
numeral_back n least most q from to small ends =
    (number_back n most q to (omega arith) ends, from, leads_never n (omega arith))
