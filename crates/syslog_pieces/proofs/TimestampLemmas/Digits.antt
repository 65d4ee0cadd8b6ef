-- The bytes, characters and decimals of a timestamp.
use Rattle.syslog_pieces.proofs.Names.{◌≡◌, match_map, nat_tests, fraction, stamp_row, eqb_tells, prefix_len, no_either}
use Rattle.syslog_pieces.proofs.Names.{common_steps, ℕ, ◌%◌, ◌<◌, Row, suc, ◌+◌, ◌*◌, ◌^◌, ◌∙◌}
use Rattle.syslog_pieces.proofs.Names.{◌-◌, ◌∷◌, ◌≤◌, sym, Bor, inl, inr, ◌/◌, pad2, pad4, Each, join, sign, Ends, pad3}
use Rattle.syslog_pieces.proofs.Names.{List, take, drop, refl, Text, Front, after, ◌&&◌, Bool, true, false, ◌++◌, subst}
use Rattle.syslog_pieces.proofs.Names.{[], IsCharBoundary, no_spaced_piece, spaced_front, is_ascii_digit, Rfc3339Fields}
use Rattle.syslog_pieces.proofs.Names.{length, get_or, IsAscii, NoFront, exactly, IsAlone, Divides, each_map, decimals}
use Rattle.syslog_pieces.proofs.Names.{Option, ap, chars, IsUtf8, Class, nat_lt, Values, letter, offset, ◌also◌, is_dot}
use Rattle.syslog_pieces.proofs.Names.{arith, ReadsBytes, numeric_row, stamp_text, each_append, cases_Bool, second_kind}
use Rattle.syslog_pieces.proofs.Names.{encode_utf8_all, is_not_whitespace, mul-le-mul_right, take-append-drop}
use Rattle.jiff_fmt.proofs.ReaderLemmas.{fraction_value-drop, tenth}
use Rattle.jiff_fmt.specs.Reader.{fraction_value}
use Rattle.syslog_pieces.specs.Timestamp.Rfc3339.{pair, year}
use Rattle.syslog_pieces.specs.Timestamp.Printed.{fraction_text}
use Rattle.syslog_text.proofs.TextLemmas.Runs.{ascii_ahead, after_chars, after_cut, after_is, low_ascii, no_run}

-- ---- classes of ASCII pieces, at the front of bytes
module _ (C : Class) (alone : IsAlone C) (ascii : (p q : Text) (v : C.Value) → C.Is p q v → IsAscii p) (bs : List ℕ)
    (u : IsUtf8 bs) where
  module _ {rest : List ℕ} {v : C.Value} (f : Front C bs rest v) where
    pub bytes_cut : IsCharBoundary bs (length bs - length rest)
    bytes_cut = after_cut f.piece bs rest (ascii f.piece rest v f.is) u f.whole

    pub bytes_front : (ys : List ℕ) → ys ≡ drop (length bs - length rest) bs → Front C (chars bs) (chars ys) v
    bytes_front ys e =
        let low = ascii f.piece rest v f.is in
        rw (after_is f.piece bs rest low u f.whole ys e) (record {
          piece = f.piece;
          whole = after_chars f.piece bs rest low u f.whole;
          is = alone f.piece rest (chars rest) v f.is;
        })

  pub no_bytes_front : NoFront C bs → NoFront C (chars bs)
  no_bytes_front n p q v e h =
      n p (encode_utf8_all q) v (ascii_ahead p q bs u (ascii p q v h) e) (alone p q (encode_utf8_all q) v h)

-- the first byte, and the others
pub first_rest : (bs : List ℕ) (b : ℕ) → 1 ≤ length bs → get_or bs 0 0 ≡ b → bs ≡ b ∷ take (length bs - 1) (drop 1 bs)
first_rest bs b h e = grind (arith, common_steps)

-- a reader of what follows a byte
module _ {X : Type 0} (c : ℕ) (C : Class) (view : X → C.Value) (bs rest : List ℕ) (r : Option (X × Bor (List ℕ)))
    (e : bs ≡ c ∷ rest) where
  pub after_reads : ReadsBytes C view rest r → ReadsBytes (after c C) view bs r
  after_reads =
      let first : Front (exactly (c ∷ [])) bs rest tt = record { piece = c ∷ []; whole = e; is = refl } in
      match_map r (λ n. no_spaced_piece C first n) (λ x f. spaced_front C first f)

-- ---- the characters of a text that has a stamp: ASCII, none of them white space, the first a digit

-- from `+` to `z`
abbrev pub is_stamp_character : ℕ → Bool
is_stamp_character c = nat_lt 42 c && nat_lt c 123

pub stamp_range : (c : ℕ) → is_stamp_character c ≡ true → (43 ≤ c) × (c < 123)
stamp_range c h = (grind (arith, nat_tests), grind (arith, nat_tests))

pub each_visible : (t : Text) → Each is_stamp_character t → Each is_not_whitespace t
each_visible = each_map is_stamp_character is_not_whitespace (λ c h. grind (arith, nat_tests))

pub each_ascii : (t : Text) → Each is_stamp_character t → IsAscii t
each_ascii t = low_ascii is_stamp_character t (λ c h. let r = stamp_range c h in omega (arith, r.1))

-- ---- pieces
pub pair_characters : (n : ℕ) → n < 100 → Each is_stamp_character (pad2 n)
pair_characters n h = grind (arith, nat_tests)

pub year_characters : (n : ℕ) → n < 10_000 → Each is_stamp_character (pad4 n)
year_characters n h =
    each_append is_stamp_character (pad2 (n / 100)) (pad2 (n % 100)) (pair_characters (n / 100) (omega arith))
    (pair_characters (n % 100) (omega arith))

-- a class whose pieces have such characters alone
abbrev HasOnly : Class → Type 0
HasOnly C = (p q : Text) (v : C.Value) → C.Is p q v → Each is_stamp_character p

abbrev AllHaveOnly : List Class → Type 0
AllHaveOnly [] = Unit {0}
AllHaveOnly (C ∷ Cs) = HasOnly C × AllHaveOnly Cs

divides_only : (Cs : List Class) → AllHaveOnly Cs → (ps : List Text) (q : Text) (vs : Values Cs) → Divides Cs ps q vs
    → Each is_stamp_character (join ps)
divides_only [] a [] q vs h = tt
divides_only [] a (p ∷ ps) q vs h = absurd h
divides_only (C ∷ Cs) a [] q vs h = absurd h
divides_only (C ∷ Cs) a (p ∷ ps) q vs h =
    each_append is_stamp_character p (join ps) (a.0 p (join ps ++ q) vs.0 h.0) (divides_only Cs a.1 ps q vs.1 h.1)

row_only : (Cs : List Class) → AllHaveOnly Cs → HasOnly (Row Cs)
row_only Cs a p q vs (ps, e, h) = rw e (divides_only Cs a ps q vs h)

after_only : (c : ℕ) (C : Class) → is_stamp_character c ≡ true → HasOnly C → HasOnly (after c C)
after_only c C s a p q v (t, e, h) = rw e (s, a t q v h)

pair_only : (limit : ℕ) → limit ≤ 100 → HasOnly (pair limit)
pair_only limit small p q n h = rw h.0 (pair_characters n (omega (arith, h.1)))

sign_only : HasOnly sign
sign_only p q true h = rw h (refl, tt)
sign_only p q false h = rw h (refl, tt)

pub digit_characters : (t : Text) → Each is_ascii_digit t → Each is_stamp_character t
digit_characters = each_map is_ascii_digit is_stamp_character (λ c h. grind (arith, nat_tests))

pub fraction_characters : HasOnly fraction
fraction_characters p q n (inl (e, ends, z)) = rw e tt
fraction_characters p q n (inr (t, e, (ds, (u, h, same), value))) =
    rw (e, sym same) (refl, digit_characters ds (rw same (h.1)))

offset_only : HasOnly offset
offset_only p q s (inl (u, inl e, z)) = rw e (refl, tt)
offset_only p q s (inl (u, inr e, z)) = rw e (refl, tt)
offset_only p q s (inr (vs, h, e)) =
    row_only numeric_row (sign_only also pair_only 24 (omega arith) also after_only 58 (pair 60) refl
    (pair_only 60 (omega
    arith)) also tt) p q vs h

letter_only : HasOnly (letter 84)
letter_only p q v h = elim h [ inl e ↦ rw e (refl, tt) | inr e ↦ rw e (refl, tt) ]

pub pair_ascii : (limit : ℕ) → limit ≤ 100 → (p q : Text) (n : ℕ) → (pair limit).Is p q n → IsAscii p
pair_ascii limit small p q n h = each_ascii p (pair_only limit small p q n h)

pub year_ascii : (p q : Text) (n : ℕ) → year.Is p q n → IsAscii p
year_ascii p q n h = each_ascii p (rw h.0 (year_characters n h.1))

-- each character of a text is one from `+` to `z`
pub stamp_characters : (p q : Text) (w : Rfc3339Fields) → stamp_text.Is p q w → Each is_stamp_character p
stamp_characters p q w (vs, h, e) =
    let two = pair_only 100 (omega arith) in
    row_only stamp_row ((λ p q n h. rw h.0 (year_characters n h.1)) also after_only 45 (pair 100) refl two
    also after_only 45 (pair 100) refl two also letter_only also two also after_only 58 (pair 100) refl two
    also after_only 58 (pair 61) refl (pair_only 61 (omega arith)) also fraction_characters also offset_only also tt)
    p q vs h

pub stamp_ascii : (p q : Text) (w : Rfc3339Fields) → stamp_text.Is p q w → IsAscii p
stamp_ascii p q w h = each_ascii p (stamp_characters p q w h)

-- ---- the decimals of a second: as they are read, and as they print

-- one or more digits, worth so many nanoseconds
pub record AreDecimals (digits : Text) (n : ℕ) : Type 0 where
  pub some : 0 < length digits
  pub each : Each is_ascii_digit digits
  pub value : n ≡ fraction_value 9 digits

-- before no further digit
pub decimals_front : {ds : Text} {n : ℕ} (q : Text) → AreDecimals ds n → Ends is_ascii_digit q
    → Front decimals (ds ++ q) q n
decimals_front {ds} q d ends =
    record { piece = ds; whole = refl; is = (ds, (tt, (d.some, d.each, ends), refl), d.value) }

-- ---- digits one by one

-- the digits at the front, and what follows them
pub split_digits : (bs : Text) → Each is_ascii_digit (take (prefix_len is_ascii_digit bs) bs)
    × Ends is_ascii_digit (drop (prefix_len is_ascii_digit bs) bs)
split_digits [] = (tt, tt)
split_digits (b ∷ bs) =
    let (each, ends) = split_digits bs in
    let next : 1 + prefix_len is_ascii_digit bs ≡ suc (prefix_len is_ascii_digit bs) = omega arith in
    elim (cases_Bool (is_ascii_digit b)) [ inl e ↦ rw (e, next) ((e, each), ends) | inr e ↦ rw e (tt, e) ]

pub no_decimals : (bs : Text) → prefix_len is_ascii_digit bs ≡ 0 → NoFront decimals bs
no_decimals bs e =
    no_run is_ascii_digit bs (rw e at (split_digits bs).1) decimals (λ p q n (ds, (u, h, same), value). (h.0, h.1))

pub all_decimals : (bs ds q : Text) (len n : ℕ) → len ≡ prefix_len is_ascii_digit bs → 0 < length ds → ds ≡ take len bs
    → q ≡ drop len bs → n ≡ fraction_value 9 ds → Front decimals bs q n
all_decimals bs ds q len n e some front back value =
    let (each, ends) = split_digits bs in
    record {
      piece = ds;
      whole = rw (front, back) (sym (take-append-drop len bs));
      is = (ds, (tt, (some, (rw (front, e) each), (rw (back, e) ends)), refl), value);
    }

-- a further digit: its place is worth a tenth of the one before, and nothing past nine
module _ (ds : Text) (i n d place v k j : ℕ) (within : i < length ds) (digit : d ≡ get_or ds i 0 - 48) (small : d ≤ 9)
    (worth : place ≡ 10 ^ k / 10) (bound : n + 10 ^ k ≤ 1_000_000_000)
    (so_far : n + fraction_value k (drop i ds) ≡ v) where
  abbrev Stepped : Type 0
  Stepped = (place / 10 ≡ 10 ^ j / 10) × (n + d * place + 10 ^ j ≤ 1_000_000_000)
      × (n + d * place + fraction_value j (drop (i + 1) ds) ≡ v)

  pub step_on : k ≡ suc j → Stepped
  step_on next =
      let here : place ≡ 10 ^ j = omega (arith, tenth k j next) in
      let most : d * 10 ^ j ≤ 9 * 10 ^ j = mul-le-mul_right (10 ^ j) small in
      let step = fraction_value-drop k j ds i next within in
      let same : d * 10 ^ j ≡ (get_or ds i 0 - 48) * 10 ^ j = ap (λ (x : ℕ). x * 10 ^ j) digit in
      rw here (refl, omega (arith, tenth k j next), omega arith)

  pub step_past : k ≡ 0 → j ≡ 0 → Stepped
  unfolding fraction_value
  step_past none past =
      let one = rw none at bound in
      let value = rw none at so_far in
      rw (past, (rw none at worth)) (refl, omega arith, omega arith)

-- ---- three, six or nine digits
pad3-value : (n : ℕ) → n < 1_000 → (48 + n / 100 - 48) * 100 + (48 + n / 10 % 10 - 48) * 10 + (48 + n % 10 - 48) ≡ n
pad3-value n h = omega arith

module _ {n : ℕ} (a : ℕ) (a_in : a < 1_000) where
  pub three : n ≡ a * 1_000_000 → AreDecimals (pad3 a) n
  unfolding fraction_value
  three e = record { some = omega arith; each = grind (arith, nat_tests); value = omega arith }

  module _ (b : ℕ) (b_in : b < 1_000) where
    pub six : n ≡ a * 1_000_000 + b * 1_000 → AreDecimals (pad3 a ++ pad3 b) n
    unfolding fraction_value
    six e = record { some = omega arith; each = grind (arith, nat_tests); value = omega arith }

    pub nine : (c : ℕ) → c < 1_000 → n ≡ a * 1_000_000 + b * 1_000 + c → AreDecimals (pad3 a ++ (pad3 b ++ pad3 c)) n
    unfolding fraction_value
    nine c c_in e = record {
      some = omega arith;
      each = grind (arith, nat_tests);
      value = omega (arith, pad3-value a a_in, pad3-value b b_in, pad3-value c c_in);
    }

-- a printed fraction, before no digit and no dot
module _ (q : Text) (no_digit : Ends is_ascii_digit q) (no_dot : Ends is_dot q) where
  dotted : {ds : Text} {n : ℕ} → AreDecimals ds n → fraction.Is (46 ∷ ds) q n
  dotted {ds} d = inr (ds, refl, (ds, (tt, (d.some, d.each, no_digit), refl), d.value))

  pub fraction_text-is : (n : ℕ) → n < 1_000_000_000 → fraction.Is (fraction_text n) q n
  unfolding fraction_text
  fraction_text-is n h =
      let a_in : n / 1_000_000 < 1_000 = omega arith in
      let b_in : n / 1_000 % 1_000 < 1_000 = omega arith in
      elim (eqb_tells n 0) [
        | inl z ↦ let none = z.1 in inl (rw z.0, no_dot, none)
        | inr z ↦ elim (eqb_tells (n % 1_000_000) 0) [
          | inl m ↦ let whole = m.1 in rw (z.0, m.0) (dotted (three _ a_in (omega arith)))
          | inr m ↦ elim (eqb_tells (n % 1_000) 0) [
            | inl k ↦ let whole = k.1 in rw (z.0, m.0, k.0) (dotted (six _ a_in _ b_in (omega arith)))
            | inr k ↦ rw (z.0, m.0, k.0) (dotted (nine _ a_in _ b_in _ (omega arith) (omega arith)))
          ]
        ]
      ]

-- no dot
pub no_dot_front : (bs : Text) → (1 ≤ length bs → get_or bs 0 0 ≡ 46 → ⊥) → Front fraction bs bs 0
no_dot_front bs n = record { piece = []; whole = refl; is = inl (refl, ends bs n, refl) }
  where
    ends : (bs : Text) → (1 ≤ length bs → get_or bs 0 0 ≡ 46 → ⊥) → Ends is_dot bs
    ends [] n = tt
    ends (b ∷ bs) n = let other = n (omega arith) in grind (arith, nat_tests)

-- a reader of decimals after a dot
pub fraction_reads : (bs rest : List ℕ) (r : Option (ℕ × Bor (List ℕ))) → bs ≡ 46 ∷ rest
    → ReadsBytes decimals (λ n. n) rest r → ReadsBytes fraction (λ n. n) bs r
fraction_reads bs rest r e h =
    match_map r (no_either ℕ (λ p q n. (p ≡ []) × Ends is_dot q × (n ≡ 0)) (after 46 decimals).Is none)
    (λ x f. second_kind ℕ (λ p q n. (p ≡ []) × Ends is_dot q × (n ≡ 0)) (after 46 decimals).Is f)
    (after_reads 46 decimals (λ n. n) bs rest r e h)
  where
    none : NoFront (record { Value = ℕ; Is = λ p q n. (p ≡ []) × Ends is_dot q × (n ≡ 0) }) bs
    none p q n f (g, ends, z) =
        let no : Ends is_dot (46 ∷ rest) = subst (λ (x : Text). Ends is_dot x)
        (sym (ap (λ (x : Text). x ++ q) g) ∙ sym f ∙ e) ends in
        cc
