-- Numbers and names as process ids, and what is read back of them.
use Rattle.syslog_pieces.proofs.Names.{decimal-digits_value, without_leading_sign, signed_digits_value, IsDeterministic}
use Rattle.syslog_pieces.proofs.Names.{IsCanonicalProcess, length-le-encodes, is_not_whitespace, IsBoundedProcess, List}
use Rattle.syslog_pieces.proofs.Names.{encode_utf8_all, IsCanonicalWord, signed_decimal, is_ascii_digit, chars-IsAscii}
use Rattle.syslog_pieces.proofs.Names.{if◌then◌else◌, digits_value, ParsesSigned, IsAscii-cons, process_word, IsNumeral}
use Rattle.syslog_pieces.proofs.Names.{NamesProcess, process_text, common_steps, IsAscii-nil, FitsSigned, ℕ, subst, ◌≤◌}
use Rattle.syslog_pieces.proofs.Names.{IsI32Text, and_parts, LeadsBare, and_from, list_all, cases_eq, cases_lt, IsAscii}
use Rattle.syslog_pieces.proofs.Names.{ltb-true, NoFront, decimal, get_or, Result, IsUtf8, ne_eqb, length, ProcId, Some}
use Rattle.syslog_pieces.proofs.Names.{negsuc, lt-ltb, Option, IfSome, IsTrue, arith, chars, Front, neg_ℤ, false, None}
use Rattle.syslog_pieces.proofs.Names.{refl, Text, Each, word, Name, true, Bool, ◌&&◌, Ends, ◌≡◌, pos, ◌<◌, ◌⊎◌, inl, ℤ}
use Rattle.syslog_pieces.proofs.Names.{inr, w32, ◌∷◌, Err, sym, ◌∙◌, PID, suc, not, ◌↔◌, [], Ok, ap}
use Rattle.syslog_pieces.proofs.Names.{◌≢◌, ◌^◌, zero, decimal_digit, nat_tests}
use Rattle.std.proofs.lemmas.Fmt.{decimal_is_IsNumeral, first_decimal}
use Rattle.std.proofs.lemmas.Str.Parse.{IsNumeralModel, numerals_by_value}
use Rattle.syslog_text.specs.Bodies.Looks.{BeginsNegative}
use Rattle.syslog_pieces.specs.ProcId.{procid_text, has_32_bits, is_signed_text, named_process, IsNoI32Text, IsBareWord}
use Rattle.syslog_pieces.specs.ProcId.{process_texts}
use Rattle.syslog_text.proofs.PieceLemmas.Lists.{Quotes, part_same}
use Rattle.syslog_text.proofs.TextLemmas.Runs.{digits_ascii, ascii_ahead, ascii_chars}
use Rattle.syslog_text.proofs.TextLemmas.Words.{own, word_det, false_is, last_is, decimal_digits, digits_visible}
use Rattle.syslog_text.proofs.TextLemmas.Words.{word_back, word_canonical}

-- ---- a text writes one number

-- digits have no sign
plain : (t : Text) → IsNumeral 10 t
    → (without_leading_sign t ≡ t) × (signed_digits_value 10 t ≡ pos (digits_value 10 t))
plain [] h = (refl, refl)
plain (c ∷ d) h =
    let digit : is_ascii_digit c ≡ true = (own.from (c ∷ d) h.1).0 in
    rw (ne_eqb c 45 (λ e. let f = rw e at digit in cc), ne_eqb c 43 (λ e. let f = rw e at digit in cc)) (refl, refl)

-- such a text is digits, or digits after a sign
signed_parts : (t : Text) → IsNumeral 10 (without_leading_sign t)
    → IsNumeral 10 t ⊎ ((c : ℕ) × (d : Text) × (t ≡ c ∷ d) × ((c ≡ 43) ⊎ (c ≡ 45)) × IsNumeral 10 d)
signed_parts [] h = inl h
signed_parts (c ∷ d) h = elim (cases_eq c 45) [
  | inl minus ↦ inr (c, d, refl, inr minus, rw minus at h)
  | inr no_minus ↦ elim (cases_eq c 43) [
    | inl plus ↦ inr (c, d, refl, inl plus, rw plus at h)
    | inr no_plus ↦ inl (rw (ne_eqb c 45 no_minus, ne_eqb c 43 no_plus) at h)
  ]
]

pub process_same : (t : Text) (i j : ProcId Text) → NamesProcess t i → NamesProcess t j → i ≡ j
process_same t (PID m) (PID n) h k = ap (λ (z : ℤ). PID z) (h.0.1 ∙ sym k.0.1)
process_same t (PID m) (Name u) h k = absurd (k.0 m h)
process_same t (Name s) (PID n) h k = absurd (h.0 n k)
process_same t (Name s) (Name u) h k = ap (λ (z : Text). Name z) (h.1 ∙ sym k.1)

pub process_word_det : IsDeterministic process_word
process_word_det p q p' q' None None e h h' = let r = word_det p q p' q' None None e h h' in (r.0, refl)
process_word_det p q p' q' None (Some j) e h (t, w, k) = let r = (word_det p q p' q' None (Some t) e h w).1 in cc
process_word_det p q p' q' (Some i) None e (s, w, h) k = let r = (word_det p q p' q' (Some s) None e w k).1 in cc
process_word_det p q p' q' (Some i) (Some j) e (s, w, h) (t, x, k) =
    let r = word_det p q p' q' (Some s) (Some t) e w x in
    let same : s ≡ t = let f = r.1 in cc in
    (r.0, ap Some (process_same t i j (rw same at h) k))

-- ---- what `parse` reads
writes_ascii : (t : Text) → IsNumeral 10 (without_leading_sign t) → IsAscii t
writes_ascii t h = elim (signed_parts t h) [
  | inl d ↦ digits_ascii t (own.from t d.1)
  | inr (c, d, e, s, k) ↦ rw e (IsAscii-cons c d (grind arith) (digits_ascii d (own.from d k.1)))
]

module _ (bs : List ℕ) (u : IsUtf8 bs) where
  -- what a result of `parse` says of the text
  pub number_read : {E : Type 0} (r : Result ℤ E) (n : ℤ) → r ≡ Ok n → ParsesSigned w32 10 bs r → IsI32Text (chars bs) n
  number_read r n e h =
      let ((there, fits), value) = rw e at h in
      rw (chars-IsAscii bs (writes_ascii bs there), value) ((there, refl), fits)

  pub no_number_read : {E : Type 0} (r : Result ℤ E) (x : E) → r ≡ Err x → ParsesSigned w32 10 bs r → (n : ℤ)
      → IsI32Text (chars bs) n → ⊥
  no_number_read r x e h n w =
      let k = rw (ascii_chars bs u (writes_ascii (chars bs) w.0.0)) at w.0 in (rw e at h) (k.0, rw k.1 at w.1)

-- ---- a word as a process id
pub no_process : {t : Text} → NoFront word t → NoFront process_word t
no_process n p q None e h = n p q None e h
no_process n p q (Some i) e (t, w, h) = n p q (Some t) e w

pub process_front : {t q name : Text} (i : ProcId Text) → Front word t q (Some name) → NamesProcess name i
    → Front process_word t q (Some i)
process_front {name = name} i f h = record { piece = f.piece; whole = f.whole; is = (name, f.is, h) }

pub absent_front : {t q : Text} → Front word t q None → Front process_word t q None
absent_front f = record { piece = f.piece; whole = f.whole; is = f.is }

-- ---- process ids in printed form
-- an ASCII character before another one, in bytes
two_bytes : (k d : ℕ) (more : Text) (bs : List ℕ) → k < 128 → IsUtf8 bs → chars bs ≡ k ∷ d ∷ more
    → (1 < length bs) × (get_or bs 0 0 ≡ k)
two_bytes k d more bs low u e =
    let split : bs ≡ k ∷ encode_utf8_all (d ∷ more) =
    ascii_ahead (k ∷ []) (d ∷ more) bs u (IsAscii-cons k [] low IsAscii-nil) e in
    rw split (omega (arith, length-le-encodes (d ∷ more)), refl)

-- a text leads with no mark where its bytes do
bare_lead : (bs t : Text) → IsUtf8 bs → LeadsBare bs → chars bs ≡ t → LeadsBare t
bare_lead bs [] u h e l = absurd (omega arith)
bare_lead bs (c ∷ []) u h e l = absurd (omega arith)
bare_lead bs (c ∷ d ∷ p) u h e l = (
  λ z. (let (long, first) = two_bytes 43 d p bs (omega arith) u (rw z at e) in (h long).0 first),
  λ z. (let (long, first) = two_bytes 45 d p bs (omega arith) u (rw z at e) in (h long).1 first),
  λ z. (let (long, first) = two_bytes 48 d p bs (omega arith) u (rw z at e) in (h long).2 first),
)

-- a process id that such a text names prints as the text
lead_prints : (t : Text) (i : ProcId Text) → 0 < length t → LeadsBare t → NamesProcess t i → procid_text i ≡ t
lead_prints t (Name s) l bare n = n.1
lead_prints t (PID m) l bare ((there, value), fits) = elim (signed_parts t there) [
  | inl d ↦
      let e = value ∙ (plain t d).1 in
      let small = rw e at fits in
      rw e (decimal-digits_value own t (own.from t d.1) l (λ z. lead z) (omega arith))
  | inr (c, d, e, inl plus, k) ↦ absurd (((rw e at bare) (omega (arith, k.0))).0 plus)
  | inr (c, d, e, inr minus, k) ↦ absurd (((rw e at bare) (omega (arith, k.0))).1 minus)
]
  where
    lead : get_or t 0 0 ≡ 48 → length t ≡ 1
    lead z = elim (cases_lt 1 (length t)) [ inl more ↦ absurd ((bare more).2 z) | inr few ↦ omega (arith, few, l) ]

-- ---- the process id that a text names, computed
all_own : IsNumeralModel (λ ds. list_all is_ascii_digit ds ≡ true) (digits_value 10)
all_own = numerals_by_value (λ ds. list_all is_ascii_digit ds ≡ true) (grind (arith, common_steps))

fits_of_bits : (z : ℤ) → has_32_bits z ≡ true → FitsSigned w32 z
fits_of_bits (pos n) h = omega (arith, ltb-true n 2_147_483_648 h)
fits_of_bits (negsuc n) h = omega (arith, ltb-true n 2_147_483_648 h)

bits_of_fits : (z : ℤ) → FitsSigned w32 z → has_32_bits z ≡ true
bits_of_fits (pos n) h = lt-ltb n 2_147_483_648 (omega arith)
bits_of_fits (negsuc n) h = lt-ltb n 2_147_483_648 (omega arith)

no_number : (t : Text) → (is_signed_text t && has_32_bits (signed_digits_value 10 t)) ≡ false → (n : ℤ)
    → IsI32Text t n → ⊥
no_number t h n is =
    let ((there, value), fits) = is in
    let signed = and_from _ _ (lt-ltb _ _ there.0) (all_own.from _ there.1) in
    let f = rw (and_from _ _ signed (bits_of_fits _ (rw value at fits))) at h in cc

named_as : (t : Text) (test : Bool) → test ≡ (is_signed_text t && has_32_bits (signed_digits_value 10 t))
    → NamesProcess t (if test then PID (signed_digits_value 10 t) else Name t)
named_as t true h =
    let (signed, bits) = and_parts _ _ (sym h) in
    let (some, all) = and_parts _ _ signed in
    (((ltb-true _ _ some, all_own.to _ all), refl), fits_of_bits _ bits)
named_as t false h = (no_number t (sym h), refl)

pub named_names : (t : Text) → NamesProcess t (named_process t)
named_names t = named_as t _ refl

-- ---- texts that are printed as what they name

-- whatever such a text names
pub bare_prints : (t : Text) (i : ProcId Text) → IsBareWord t → NamesProcess t i → procid_text i ≡ t
bare_prints t i bare h = ap procid_text (process_same t i (named_process t) h (named_names t)) ∙ bare

lead_bare : (t : Text) → LeadsBare t → IsBareWord t
lead_bare [] h = refl
lead_bare (c ∷ t) h = lead_prints (c ∷ t) (named_process (c ∷ t)) (omega arith) h (named_names (c ∷ t))

-- one whose bytes lead with no mark
pub bytes_bare : (bs : List ℕ) → IsUtf8 bs → LeadsBare bs → IsBareWord (chars bs)
bytes_bare bs u h = lead_bare (chars bs) (bare_lead bs (chars bs) u h refl)

-- a name
pub name_bare : (t s : Text) → NamesProcess t (Name s) → IsBareWord t
name_bare t s h = ap procid_text (process_same t (named_process t) (Name s) (named_names t) h) ∙ h.1

-- the first digit of a number of several is no zero
first_digit : (n : ℕ) → n < 2 ^ 64 → (decimal n ≡ 48 ∷ []) ⊎ (48 < get_or (decimal n) 0 0)
first_digit zero h = inl (decimal_digit 0 (omega arith))
first_digit (suc n) h = inr (first_decimal (suc n) (omega arith) h)

no_mark : (a k : ℕ) → 48 < a → k ≤ 48 → a ≢ k
no_mark a k l m e = omega (arith, l, m, e)

digit_below : (c : ℕ) → is_ascii_digit c ≡ true → c < 58
digit_below c h = grind (arith, nat_tests)

digit_first : (t : Text) → 0 < length t → Each is_ascii_digit t → get_or t 0 0 < 58
digit_first [] l h = absurd (omega arith)
digit_first (c ∷ t) l h = digit_below c h.0

-- what the printed text of a number begins with
number_begins : (m : ℤ) → FitsSigned w32 m → LeadsBare (signed_decimal m) ⊎ BeginsNegative (signed_decimal m)
number_begins (pos n) h = inl (elim (first_digit n (omega (arith, h))) [
  | inl one ↦ λ long. absurd (let k = ap length one in omega (arith, k, long))
  | inr more ↦ λ long.
      (no_mark _ 43 more (omega arith), no_mark _ 45 more (omega arith), no_mark _ 48 more (omega arith))
])
number_begins (negsuc n) h =
    let (long, digits) = decimal_digits (suc n) (omega (arith, h)) in
    inr (
      omega (arith, long),
      refl,
      first_decimal (suc n) (omega arith) (omega (arith, h)),
      digit_first (decimal (suc n)) long digits,
    )

-- a number that is written with a minus before no zero prints so
negative_low : (n : ℕ) → FitsSigned w32 (neg_ℤ (pos n)) → n < 2 ^ 64
negative_low zero h = omega arith
negative_low (suc n) h = omega (arith, h)

negative_text : (n : ℕ) (q : Text) → decimal n ≡ q → 48 < get_or q 0 0 → signed_decimal (neg_ℤ (pos n)) ≡ 45 ∷ q
negative_text zero q e low =
    let k = subst (λ (x : Text). 48 < get_or x 0 0) (sym e ∙ decimal_digit 0 (omega arith)) low in
    absurd (omega (arith, k))
negative_text (suc n) q e low = ap (λ (x : Text). 45 ∷ x) e

negative_written : (q : Text) (m : ℤ) → IsI32Text (45 ∷ q) m → 48 < get_or q 0 0 → signed_decimal m ≡ 45 ∷ q
negative_written q m ((there, value), fits) low =
    let n = digits_value 10 q in
    let small : n < 2 ^ 64 = negative_low n (subst (λ (z : ℤ). FitsSigned w32 z) value fits) in
    let same : decimal n ≡ q =
    decimal-digits_value own q (own.from q there.1) there.0 (λ z. absurd (omega (arith, z, low))) small in
    ap signed_decimal value ∙ negative_text n q same low

negative_prints : (t : Text) (m : ℤ) → IsI32Text t m → BeginsNegative t → signed_decimal m ≡ t
negative_prints [] m is (long, minus, low, high) = absurd (omega (arith, long))
negative_prints (c ∷ q) m is (long, minus, low, high) =
    subst (λ (x : ℕ). signed_decimal m ≡ x ∷ q) (sym minus)
    (negative_written q m (subst (λ (x : ℕ). IsI32Text (x ∷ q) m) minus is) low)

-- the text of a number, by its bytes
pub number_bare : (bs : List ℕ) → IsUtf8 bs → (m : ℤ) → IsI32Text (chars bs) m
    → IsBareWord (chars bs) ↔ (LeadsBare bs ⊎ BeginsNegative bs)
number_bare bs u m is =
    let t = chars bs in
    let same : t ≡ bs = ascii_chars bs u (writes_ascii t is.0.0) in
    let named = ap procid_text (process_same t (named_process t) (PID m) (named_names t) is) in (
      (λ bare. subst (λ (x : Text). LeadsBare x ⊎ BeginsNegative x) (sym named ∙ bare ∙ same) (number_begins m is.1)),
      (λ begins. elim begins [
        | inl lead ↦ bytes_bare bs u lead
        | inr minus ↦ named ∙ negative_prints t m is (subst BeginsNegative (sym same) minus)
      ]),
    )

-- ---- the text of a number

digits_no_mark : (t : Text) (c : ℕ) → Each is_ascii_digit t → is_ascii_digit c ≡ false → t ≡ c ∷ [] → ⊥
digits_no_mark t c h n e = let a = (rw e at h).0 in cc

-- it writes the number
pub signed_writes : (n : ℤ) → FitsSigned w32 n → IsI32Text (signed_decimal n) n
signed_writes (pos n) h =
    let (digits, value) = decimal_is_IsNumeral n (omega (arith, h)) in
    let s = plain (decimal n) digits in ((rw s.0 digits, sym (s.1 ∙ ap pos value)), h)
signed_writes (negsuc n) h =
    let (digits, value) = decimal_is_IsNumeral (suc n) (omega (arith, h)) in
    ((digits, ap (λ (k : ℕ). neg_ℤ (pos k)) (sym value)), h)

-- and is a canonical word
pub signed_canonical : (n : ℤ) → FitsSigned w32 n → IsCanonicalWord (signed_decimal n)
signed_canonical (pos n) h =
    let (long, digits) = decimal_digits n (omega (arith, h)) in (
      (long, digits_visible (decimal n) digits),
      digits_no_mark (decimal n) 45 digits refl,
      digits_no_mark (decimal n) 58 digits refl,
    )
signed_canonical (negsuc n) h =
    let (long, digits) = decimal_digits (suc n) (omega (arith, h)) in (
      (omega arith, (refl, digits_visible (decimal (suc n)) digits)),
      (λ e. let k = ap length e in omega arith),
      (λ e. let k = ap length e in omega arith),
    )

-- ---- process ids

-- a canonical process id, or none, is read back before the end or white space
pub process_back : (v : Option (ProcId Text)) (q : Text) → IfSome v IsCanonicalProcess → IfSome v IsBoundedProcess
    → Ends is_not_whitespace q → process_word.Is (process_text v) q v
process_back None q h b e = word_back None q tt e
process_back (Some (PID n)) q h b e =
    (signed_decimal n, word_back (Some (signed_decimal n)) q (signed_canonical n b) e, signed_writes n b)
process_back (Some (Name t)) q (canonical, no_number) b e = (t, word_back (Some t) q canonical e, (no_number, refl))

-- what is read as a process id is canonical
pub process_canonical : (p q : Text) (v : Option (ProcId Text)) → process_word.Is p q v → IfSome v IsCanonicalProcess
process_canonical p q None h = tt
process_canonical p q (Some (PID n)) h = tt
process_canonical p q (Some (Name t)) (u, w, (no_number, same)) = rw same (word_canonical p q (Some u) w, no_number)

-- what the law of process ids rests on
pub ruleset processes = (process_back, process_canonical)

-- and its number has 32 bits
pub process_bounded : (p q : Text) (v : Option (ProcId Text)) → process_word.Is p q v → IfSome v IsBoundedProcess
process_bounded p q None h = tt
process_bounded p q (Some (PID n)) (u, w, i) = i.1
process_bounded p q (Some (Name t)) h = tt

-- ---- what the test of a process name returns

-- the text is one of no number where the test of one fails
pub no_number_told : (t : Text) (b : Bool) → IsTrue b ↔ (IsNoI32Text t → ⊥) → IsTrue (not b) ↔ IsNoI32Text t
no_number_told t true e = false_is (λ n. e.0 refl n)
no_number_told t false e = ((λ h n i. (let u : false ≡ true = e.1 (λ z. z n i) in cc)), (λ n. refl))

pub name_told : (bytes text : List ℕ) (process : ProcId Text) (w number : Bool) → bytes ≡ text
    → process ≡ Name (chars text) → IsTrue w ↔ IsCanonicalWord (chars bytes) → w ≡ true
    → IsTrue number ↔ (IsNoI32Text (chars bytes) → ⊥) → IsTrue (not number) ↔ IsCanonicalProcess process
name_told bytes text process w number e p canonical is number_told =
    rw (p, ← e) (last_is (not number) (canonical.0 is) (no_number_told (chars bytes) number number_told))

-- ---- the text that a process id means is a part of its piece
pub process_quotes : Quotes process_word process_texts
process_quotes p q None h = tt
process_quotes p q (Some (PID n)) h = tt
process_quotes p q (Some (Name t)) (u, w, k) = (part_same p t (k.1 ∙ w.4.0), tt)
