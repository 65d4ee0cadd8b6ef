-- What an odd app name begins with, a host that is the level of a line of ESXi, and the address of an access point.
use Rattle.syslog_dialects.proofs.Names.{[], ◌&&◌, ◌++◌, ◌<◌, ◌∙◌, ◌∷◌, ◌≡◌, ◌⊎◌, and_parts, ap, append_assoc, arith}
use Rattle.syslog_dialects.proofs.Names.{Bool, chars, encode_utf8_all, false, inl, inr, is_ascii_digit, IsAscii}
use Rattle.syslog_dialects.proofs.Names.{IsAscii-nil, IsTrue, IsUtf8, length, List, nat_tests, one_ascii, refl, subst}
use Rattle.syslog_dialects.proofs.Names.{sym, Text, true, ℕ}
use Rattle.std.proofs.Common.{◌-◌, ◌+◌, length-append, suc}
use Rattle.std.proofs.Math.Seq.{get_or-append_seam}
use Rattle.std.proofs.lemmas.Bool.{cases_Bool}
use Rattle.std.proofs.lemmas.Str.Ascii.{IsAscii-cons, IsAscii-push}
use Rattle.std.specs.Prelude.{nat_eq, slice_index}
use Rattle.syslog_text.proofs.TextLemmas.Runs.{ascii_ahead, chars_nonempty}
use Rattle.syslog_sent.specs.Named.{is_letter}
use Rattle.syslog_dialects.specs.Ordinary.{BeginsPlainly, begin_no_word, begins_oddly, has_byte, is_level_mark}
use Rattle.syslog_dialects.specs.Ordinary.{is_odd_app, opens_day, opens_mnemonic}
use Rattle.syslog_named_forms.specs.Devices.{goes_on, is_hex, opens_address}

oddly_low : (c : ℕ) → begins_oddly c ≡ true → c < 128
oddly_low c h = grind (arith, nat_tests)

no_day : (c : ℕ) (t : Text) → is_ascii_digit c ≡ false → opens_day (c ∷ t) ≡ false
no_day c [] h = refl
no_day c (b ∷ []) h = refl
no_day c (b ∷ d ∷ []) h = refl
no_day c (b ∷ d ∷ e ∷ []) h = refl
no_day c (b ∷ d ∷ e ∷ f ∷ t) h = rw h refl

plain_begins : (c : ℕ) (t : Text) → begins_oddly c ≡ false → is_odd_app (c ∷ t) ≡ false
plain_begins c t h = grind (arith, nat_tests, no_day)

-- an odd app name that begins as one of the words goes on as that word
word_alone : (c x : ℕ) → begin_no_word c x ≡ true → is_odd_app (c ∷ []) ≡ false
word_alone c x w = grind (arith, nat_tests)

after_c : (d : ℕ) (t : Text) → is_odd_app (67 ∷ d ∷ t) ≡ true → d ≡ 69
after_c d t h = grind (arith, nat_tests, h, no_day 67 (d ∷ t) refl)

after_l : (d : ℕ) (t : Text) → is_odd_app (76 ∷ d ∷ t) ≡ true → d ≡ 69
after_l d t h = grind (arith, nat_tests, h, no_day 76 (d ∷ t) refl)

after_s : (d : ℕ) (t : Text) → is_odd_app (83 ∷ d ∷ t) ≡ true → d ≡ 101
after_s d t h = grind (arith, nat_tests, h, no_day 83 (d ∷ t) refl)

word_first : (c x : ℕ) → begin_no_word c x ≡ true → (c ≡ 67) ⊎ ((c ≡ 76) ⊎ (c ≡ 83))
word_first c x w = elim (cases_Bool (nat_eq c 67)) [
  | inl is ↦ inl (grind (arith, nat_tests, is))
  | inr not_c ↦ (elim (cases_Bool (nat_eq c 76)) [
    | inl is ↦ inr (inl (grind (arith, nat_tests, is)))
    | inr not_l ↦ inr (inr (grind (arith, nat_tests, w, not_c, not_l)))
  ])
]

word_next : (c d x : ℕ) (t : Text) → begin_no_word c x ≡ true → is_odd_app (c ∷ d ∷ t) ≡ true
    → (d < 128) × (begin_no_word c d ≡ false)
word_next c d x t w h = elim (word_first c x w) [
  | inl is ↦ (let e = after_c d t (subst (λ (k : ℕ). is_odd_app (k ∷ d ∷ t) ≡ true) is h) in (
    rw e (omega arith),
    rw
        (is, e) refl,
  ))
  | inr (inl is) ↦ (let e = after_l d t (subst (λ (k : ℕ). is_odd_app (k ∷ d ∷ t) ≡ true) is h) in (
    rw e (omega
        arith),
    rw (is, e) refl,
  ))
  | inr (inr is) ↦ (let e = after_s d t (subst (λ (k : ℕ). is_odd_app (k ∷ d ∷ t) ≡ true) is h) in (
    rw e (omega
        arith),
    rw (is, e) refl,
  ))
]

word_not_odd : (bs : List ℕ) (c : ℕ) (t : Text) → IsUtf8 bs → chars bs ≡ c ∷ t → c < 128
    → begin_no_word c (slice_index bs 1) ≡ true → is_odd_app (c ∷ t) ≡ false
word_not_odd bs c [] u e low w = word_alone c _ w
word_not_odd bs c (d ∷ t) u e low w = elim (cases_Bool (is_odd_app (c ∷ d ∷ t))) [
  | inl odd ↦ (
      let (low_d, other) = word_next c d _ t w odd in
      let bytes : bs ≡ (c ∷ d ∷ []) ++ encode_utf8_all t = ascii_ahead (c ∷ d ∷ []) t bs u
      (IsAscii-cons c (d ∷ []) low (one_ascii d low_d)) e in
      let second : slice_index bs 1 ≡ d = rw bytes refl in
      let bad : true ≡ false = sym w ∙ (rw second other) in cc
      )
  | inr not ↦ not
]

not_odd : (bs : List ℕ) (t : Text) → IsUtf8 bs → chars bs ≡ t → BeginsPlainly bs → is_odd_app t ≡ false
not_odd bs [] u e (some, plain) =
    absurd (let long = chars_nonempty bs u (omega (arith, some)) in omega (arith, long, ap length e))
not_odd bs (c ∷ t) u e (some, plain) = elim (cases_Bool (begins_oddly c)) [
  | inl odd ↦ (
      let low = oddly_low c odd in
      let bytes : bs ≡ (c ∷ []) ++ encode_utf8_all t = ascii_ahead (c ∷ []) t bs u (one_ascii c low) e in
      let first : slice_index bs 0 ≡ c = rw bytes refl in
      word_not_odd bs c t u e low (grind (arith, nat_tests, first, odd, plain))
      )
  | inr other ↦ plain_begins c t other
]

-- an app name that begins with another byte is none
pub plain_not_odd : (bs : List ℕ) → IsUtf8 bs → BeginsPlainly bs → is_odd_app (chars bs) ≡ false
plain_not_odd bs u plain = not_odd bs (chars bs) u refl plain

-- ---- the byte of a character after others of ASCII

record HasChar (place c : ℕ) (t : Text) : Type 0 where
  front : Text
  more : Text
  is : t ≡ front ++ (c ∷ more)
  ascii : IsAscii front
  long : length front ≡ place

byte_there : (bs : List ℕ) (place c : ℕ) → IsUtf8 bs → c < 128 → HasChar place c (chars bs) → has_byte place c bs ≡ true
byte_there bs place c u low it =
    let front = it.front ++ c ∷ [] in
    let bytes : bs ≡ front ++ encode_utf8_all it.more = ascii_ahead front it.more bs u
    (IsAscii-push it.front c it.ascii low) (it.is ∙ sym (append_assoc it.front (c ∷ []) it.more)) in
    let whole : bs ≡ it.front ++ (c ∷ encode_utf8_all it.more) =
    bytes ∙ append_assoc it.front (c ∷ []) (encode_utf8_all it.more) in
    let there : slice_index bs place ≡ c = rw whole
    (subst (λ (n : ℕ). slice_index (it.front ++ (c ∷ encode_utf8_all it.more)) n ≡ c) it.long
    (get_or-append_seam it.front c (encode_utf8_all it.more) 0)) in
    let length_is = it.long in
    let long : place < length bs =
    omega (arith, ap length whole, length-append it.front (c ∷ encode_utf8_all it.more), length_is) in
    grind (arith, nat_tests, there, long)

-- where another byte is there, the text is none of those that have it
none_without : (bs : List ℕ) (place c : ℕ) (test : Text → Bool) → IsUtf8 bs → c < 128
    → ((t : Text) → test t ≡ true → HasChar place c t) → false ≡ has_byte place c bs → test (chars bs) ≡ false
none_without bs place c test u low there n = elim (cases_Bool (test (chars bs))) [
  | inl is ↦ (let bad : false ≡ true = n ∙ byte_there bs place c u low (there (chars bs) is) in cc)
  | inr not ↦ not
]

-- ---- a level

letter_low : (c : ℕ) → IsTrue (is_letter c) → c < 128
letter_low c h = grind (arith, nat_tests)

level_of : (t : Text) → is_level_mark t ≡ true → HasChar 2 40 t
level_of (a ∷ b ∷ c ∷ more) h =
    let (letters, bracket) = and_parts (is_letter a && is_letter b) (nat_eq c 40) h in
    let (first, second) = and_parts (is_letter a) (is_letter b) letters in
    let same : c ≡ 40 = grind (arith, nat_tests, bracket) in record {
      front = a ∷ b ∷ [];
      more = more;
      is = ap (λ (x : ℕ). a ∷ b ∷ x ∷ more) same;
      ascii = IsAscii-cons a (b ∷ []) (letter_low a first) (one_ascii b (letter_low b second));
      long = refl;
    }
level_of [] h = absurd (let f : false ≡ true = h in cc)
level_of (a ∷ []) h = absurd (let f : false ≡ true = h in cc)
level_of (a ∷ b ∷ []) h = absurd (let f : false ≡ true = h in cc)

pub no_level : (bs : List ℕ) → IsUtf8 bs → false ≡ has_byte 2 40 bs → is_level_mark (chars bs) ≡ false
no_level bs u = none_without bs 2 40 is_level_mark u (omega arith) level_of

-- ---- an address

hex_low : (c : ℕ) → IsTrue (is_hex c) → c < 128
hex_low c h = grind (arith, nat_tests)

-- the comma after so many digits more, of twelve
comma_of : (n left : ℕ) (t : Text) → n + left ≡ 12 → goes_on n t ≡ true → HasChar left 44 t
comma_of n left [] l g = absurd (let f : false ≡ true = g in cc)
comma_of n left (c ∷ cs) l g = elim (cases_Bool (nat_eq n 12)) [
  | inl e ↦ (let comma : nat_eq c 44 ≡ true = rw e at g in
      let same : c ≡ 44 = grind (arith, nat_tests, comma) in record {
        front = [];
        more = cs;
        is = ap (λ (x : ℕ). x ∷ cs) same;
        ascii = IsAscii-nil;
        long = grind (arith, nat_tests, e, l);
      })
  | inr e ↦ (let (hex, on) = and_parts (is_hex c) (goes_on (suc n) cs) (rw e at g) in
      let low : 0 < left = grind (arith, nat_tests, l, e) in
      let it = comma_of (suc n) (left - 1) cs (omega (arith, low, l)) on in
      let length_is = it.long in record {
        front = c ∷ it.front;
        more = it.more;
        is = ap (λ (x : Text). c ∷ x) it.is;
        ascii = IsAscii-cons c it.front (hex_low c hex) it.ascii;
        long = omega (arith, length_is, low);
      })
]

pub no_address : (bs : List ℕ) → IsUtf8 bs → false ≡ has_byte 12 44 bs → opens_address (chars bs) ≡ false
no_address bs u = none_without bs 12 44 opens_address u (omega arith) (λ t. comma_of 0 12 t refl)

-- ---- a mnemonic

percent_of : (t : Text) → opens_mnemonic t ≡ true → HasChar 0 37 t
percent_of [] h = absurd (let f : false ≡ true = h in cc)
percent_of (c ∷ t) h = let same : c ≡ 37 = grind (arith, nat_tests, h) in
    record { front = []; more = t; is = ap (λ (x : ℕ). x ∷ t) same; ascii = IsAscii-nil; long = refl }

pub no_percent : (bs : List ℕ) → IsUtf8 bs → false ≡ has_byte 0 37 bs → opens_mnemonic (chars bs) ≡ false
no_percent bs u = none_without bs 0 37 opens_mnemonic u (omega arith) percent_of
