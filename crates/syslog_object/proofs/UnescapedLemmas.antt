-- Escapes are removed from bytes as from characters.
use Rattle.std.proofs.Common.{◌≡◌, ◌≢◌, ◌<◌, ◌∙◌, ◌∷◌, ◌++◌, ℕ, suc, Bool, true, false, nat_eq, List, [], if◌then◌else◌}
use Rattle.std.proofs.Common.{length, get_or, inl, inr, refl, sym, ap, ap₂, arith, append-nil}
use Rattle.std.proofs.lemmas.Bool.{cases_lt, ne_eqb}
use Rattle.std.proofs.lemmas.Str.{encode_ascii, inside_one, encodes-append, length-le-encodes}
use Rattle.std.specs.List.{flat_map, AllByRecursion}
use lib.Utf8.{encode, encodes}
use Rattle.syslog_text.specs.Pieces.Class.{Text}
use Rattle.syslog_elements.specs.StructuredData.Escapes.{TextUnit, pair, single, unit_text, unit_meaning, pair_meaning}
use Rattle.syslog_elements.specs.StructuredData.Escapes.{IsUnit, IsUnescaped, is_escaped, lone_backslash}
use Rattle.syslog_object.specs.Object.{unescaped, after_backslash}

-- no byte is a backslash
abbrev pub NoBackslash : List ℕ → Type 0
NoBackslash xs = (k : ℕ) → k < length xs → get_or xs k 0 ≢ 92

-- bytes that are no backslash stay
pub stay : (xs rest : List ℕ) → NoBackslash xs → unescaped (xs ++ rest) ≡ xs ++ unescaped rest
stay [] rest h = refl
stay (x ∷ xs) rest h =
    rw (ne_eqb x 92 (h 0 (omega arith))) (ap (λ (l : List ℕ). x ∷ l)
    (stay xs rest (λ k below. h (suc k) (omega arith))))

-- a byte of a character is none that another character is
other_bytes : (c d : ℕ) → c ≢ d → d < 128 → (k : ℕ) → k < length (encode c) → get_or (encode c) k 0 ≢ d
other_bytes c d other low k below is =
    other (inside_one c [] (encode c) k (sym (append-nil (encode c))) below (omega (arith, is, low)) ∙ is)

-- a pair of a backslash and a byte past ASCII is itself
pair_stays : (x : ℕ) → x ≢ 110 → x ≢ 92 → x ≢ 34 → x ≢ 93 → pair_meaning x ≡ 92 ∷ x ∷ []
pair_stays x n slash quote bracket = rw (ne_eqb x 110 n, ne_eqb x 92 slash, ne_eqb x 34 quote, ne_eqb x 93 bracket) refl

-- and so is one of a backslash and a character past ASCII
high_pair : (xs rest : List ℕ) → 0 < length xs → ((d : ℕ) → d < 128 → (k : ℕ) → k < length xs → get_or xs k 0 ≢ d)
    → after_backslash (xs ++ rest) ≡ 92 ∷ (xs ++ unescaped rest)
high_pair [] rest some h = absurd (omega arith)
high_pair (x ∷ xs) rest some h =
    let is : (d : ℕ) → d < 128 → x ≢ d = λ d low. h d low 0 (omega arith) in
    rw (pair_stays x (is 110 (omega arith)) (is 92 (omega arith)) (is 34 (omega arith)) (is 93 (omega arith)))
    (ap (λ (l : List ℕ). 92 ∷ x ∷ l) (stay xs rest (λ k below. h 92 (omega arith) (suc k) (omega arith))))

-- what a pair of ASCII means is ASCII
encodes_one : (c : ℕ) → c < 128 → encodes (c ∷ []) ≡ c ∷ []
encodes_one c low = append-nil (encode c) ∙ encode_ascii c low

encodes_low : (c : ℕ) (t : Text) → c < 128 → encodes (c ∷ t) ≡ c ∷ encodes t
encodes_low c t low = ap (λ (l : List ℕ). l ++ encodes t) (encode_ascii c low)

encodes_two : (c d : ℕ) → c < 128 → d < 128 → encodes (c ∷ d ∷ []) ≡ c ∷ d ∷ []
encodes_two c d low small = encodes_low c (d ∷ []) low ∙ ap (λ (l : List ℕ). c ∷ l) (encodes_one d small)

meaning_ascii : (c : ℕ) → c < 128 → encodes (pair_meaning c) ≡ pair_meaning c
meaning_ascii c low = by (nat_eq c 110) (is_escaped c)
  where
    by : (feed mark : Bool) → encodes (if feed then 10 ∷ [] else (if mark then c ∷ [] else 92 ∷ c ∷ []))
        ≡ (if feed then 10 ∷ [] else (if mark then c ∷ [] else 92 ∷ c ∷ []))
    by true mark = encodes_one 10 (omega arith)
    by false true = encodes_one c low
    by false false = encodes_two 92 c (omega arith) low

-- ---- a unit, and then the rest
abbrev Agrees : Text → Text → Type 0
Agrees t u = unescaped (encodes t) ≡ encodes u

pair_agrees : (c : ℕ) (t u : Text) → Agrees t u → Agrees (92 ∷ c ∷ t) (pair_meaning c ++ u)
pair_agrees c t u h =
    let start = ap unescaped (encodes_low 92 (c ∷ t) (omega arith)) in
    elim (cases_lt c 128) [
      | inl low ↦
          start ∙ ap after_backslash (encodes_low c t low)
          ∙ ap₂ (λ (a b : List ℕ). a ++ b) (sym (meaning_ascii c low)) h ∙ sym (encodes-append (pair_meaning c) u)
      | inr high ↦
          let is : (d : ℕ) → d < 128 → c ≢ d = λ d low e. omega arith in
          let stays = pair_stays c (is 110 (omega arith)) (is 92 (omega arith)) (is 34 (omega arith))
          (is 93 (omega arith)) in
          start
          ∙ high_pair (encode c) (encodes t) (omega (
            arith,
            length-le-encodes (c ∷ []),
            ap length (append-nil (encode c)),
          )) (λ d low. other_bytes c d (is d low) low)
          ∙ ap (λ (l : List ℕ). 92 ∷ (encode c ++ l)) h
          ∙ sym (ap (λ (x : Text). encodes (x ++ u)) stays ∙ encodes_low 92 (c ∷ u) (omega arith))
    ]

single_agrees : (c : ℕ) (t u : Text) → c ≢ 92 → Agrees t u → Agrees (c ∷ t) (c ∷ u)
single_agrees c t u other h =
    stay (encode c) (encodes t) (other_bytes c 92 other (omega arith)) ∙ ap (λ (l : List ℕ). encode c ++ l) h

lone_agrees : (lone : Bool) → Agrees (lone_backslash lone) []
lone_agrees true = ap unescaped (encodes_one 92 (omega arith))
lone_agrees false = refl

all_agree : (us : List TextUnit) (lone : Bool) → AllByRecursion IsUnit us
    → Agrees (flat_map unit_text us ++ lone_backslash lone) (flat_map unit_meaning us)
all_agree [] lone each = lone_agrees lone
all_agree (pair c ∷ us) lone each = pair_agrees c _ _ (all_agree us lone each.1)
all_agree (single c ∷ us) lone each = single_agrees c _ _ each.0 (all_agree us lone each.1)

pub bytes_unescaped : (value bare : Text) → IsUnescaped value bare → unescaped (encodes value) ≡ encodes bare
bytes_unescaped value bare h =
    ap (λ (x : Text). unescaped (encodes x)) h.split.whole ∙ all_agree h.units h.lone h.split.each
    ∙ ap encodes (sym h.means)
