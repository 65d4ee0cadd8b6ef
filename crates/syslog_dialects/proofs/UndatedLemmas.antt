-- Texts that begin with a date, and texts that begin with none: which forms divide neither of them.
use Rattle.syslog_dialects.proofs.Names.{[], ◌&&◌, ◌++◌, ◌also◌, ◌past◌, ◌∙◌, ◌∷◌, ◌≡◌, agree_below_at, ap, arith}
use Rattle.syslog_dialects.proofs.Names.{Class, dated_forms, Each, Ends, exactly, false, Front, front_of, front_same}
use Rattle.syslog_dialects.proofs.Names.{inl, inr, is_ascii_digit, is_blank, is_word_char, IsOfNone, List}
use Rattle.syslog_dialects.proofs.Names.{monotonic_row, nat_le, nat_tests, no_row, no_row_division, NoFront, number}
use Rattle.syslog_dialects.proofs.Names.{pair, pair_row, plain_forms, refl, Row, rows_none_here, run, some_run}
use Rattle.syslog_dialects.proofs.Names.{spread_forms, subst, sym, Text, texted, true, undated_forms, undated_row, ℕ}
use Rattle.std.specs.Char.{to_ascii_lowercase}
use Rattle.std.specs.Prelude.{◌||◌, nat_lt, not}
use Rattle.syslog_text.proofs.PieceLemmas.Class.{no_mapped, optional_none, row_pieces, some_run_det}
use Rattle.syslog_text.proofs.PieceLemmas.Lists.{Begins, many_here}
use Rattle.syslog_text.proofs.TextLemmas.Runs.{no_run}
use Rattle.syslog_pieces.proofs.TimestampLemmas.MonthDate.{IsBlank, blanks_begin}
use Rattle.syslog_sent.proofs.DialectLemmas.{none_joined}
use Rattle.syslog_sent.proofs.LedLemmas.{not_iso, not_month}
use Rattle.syslog_sent.proofs.NamedLemmas.{no_beginning}
use Rattle.syslog_sent.specs.Led.{IsDate, IsLed, IsUnled}
use Rattle.syslog_sent.specs.declared.led.Led.{Led}
use Rattle.syslog_sent.specs.declared.led.LeadingDate.{LeadingDate}
use Rattle.syslog_sent.specs.declared.led.LeadingDate.TheVariants.{Month, Iso}
use Rattle.syslog_dated_forms.proofs.CiscoLemmas.{at}
use Rattle.syslog_dated_forms.specs.DatedForms as dated
use Rattle.syslog_dated_forms.proofs.LedFormLemmas.{no_odd_iso, no_odd_month}
use Rattle.syslog_dated_forms.proofs.IsoFrontLemmas as iso
use Rattle.syslog_dated_forms.proofs.IsoFrontLemmas.{HasIso, digit_is, has_iso, mark_no_blank, year_front}
use Rattle.syslog_dated_forms.proofs.MonthFrontLemmas.{HasMonth, IsSmall, first_letter, has_month, no_blank, no_bracket}
use Rattle.syslog_dated_forms.proofs.MonthFrontLemmas.{no_char, small_letters, small_low}
use Rattle.syslog_named_forms.specs.Monotonic.{seconds_row}
use Rattle.syslog_named_forms.specs.NamedForms.{front_row, header_forms, spread_tail}
use Rattle.syslog_named_forms.specs.NearHeader.{bare_more, head_row, heroku_more, nil_more, paired_more, tag_more}
use Rattle.syslog_named_forms.specs.NearHeader.{vendor_more}
use Rattle.syslog_named_forms.specs.Untagged.{cef_row, leef_row, mark_class}
use Rattle.syslog_named_forms.specs.declared.untagged.Mark.{Mark}
use Rattle.syslog_named_forms.specs.declared.untagged.Mark.TheVariants as mark
use Rattle.syslog_named_forms.proofs.NamedFormLemmas.{front_det, none_dated, none_undated, undated_det}
use Rattle.syslog_named_forms.proofs.NearHeaderLemmas.{head_det}
use Rattle.syslog_named_forms.proofs.PairLemmas.{no_pairs, pair_row_det}
use Rattle.syslog_named_forms.proofs.RowLemmas.{cef_det, leef_det, monotonic_det, seconds_det}

-- ---- a text that begins with no date

no_front : {text : Text} → IsUnled text → NoFront (Row front_row) text
no_front none = no_row front_row front_det (none.gap past inl none.undated)

pub unled_no_named : {text : Text} → IsUnled text → IsOfNone dated_forms text
unled_no_named none = none_dated (no_front none)

pub unled_no_plain : {text : Text} → IsUnled text → IsOfNone plain_forms text
unled_no_plain {text} none = none_joined dated.plain_forms spread_forms text
    (no_odd_month none.gap (not_month none.undated), (no_odd_iso none.gap (not_iso none.undated), tt))
    (none_undated (spread_tail ∷ []) (no_front none))

-- ---- what the forms of a text without a date begin with

header_none : {text : Text} → NoFront (Row head_row) text → NoFront (Row seconds_row) text → IsOfNone header_forms text
header_none head seconds =
    let none = λ (more : List Class). no_row_division (head_row ++ more) (rows_none_here head_row more head) in
    none (vendor_more mark.Cef) also none (vendor_more mark.Leef) also none paired_more also none nil_more
    also none tag_more also none heroku_more also none bare_more
    also no_row_division monotonic_row (no_row monotonic_row monotonic_det (inl seconds)) also tt

undated_none : {text t : Text} → Front (run is_blank) text t tt → NoFront (Row cef_row) t → NoFront (Row leef_row) t
    → NoFront pair t → IsOfNone header_forms text → IsOfNone undated_forms text
undated_none {t = t} gap cef leef no_pair header =
    let none = λ (m : Mark) (n : NoFront (mark_class m) t). no_row_division (undated_row m)
    (no_row (undated_row m) (undated_det m) (gap past inl (no_beginning n))) in
    none mark.Cef cef also none mark.Leef leef
    also no_pairs gap (many_here pair t no_pair) (λ d shown. shown.moment) also header

-- ---- a text that begins with a month date

blank_no_word : (c : ℕ) → is_blank c ≡ true → is_word_char c ≡ false
blank_no_word c h = grind (arith, nat_tests, h)

word_letter : (c : ℕ) → IsSmall c → is_word_char c ≡ true
word_letter c h = let (large, low) = small_low c h in
    let small : (nat_le 97 (to_ascii_lowercase c) && nat_lt (to_ascii_lowercase c) 123) ≡ true =
    grind (arith, nat_tests, h.0, h.1) in
    grind (
      arith,
      nat_tests,
      small,
      agree_below_at
          (λ k. not (nat_le 97 (to_ascii_lowercase k) && nat_lt (to_ascii_lowercase k) 123) || is_word_char k)
          (λ k. true) 123 c refl low,
    )

-- a blank follows the three letters
record HasBlank (t : Text) : Type 0 where
  a : ℕ
  b : ℕ
  c : ℕ
  d : ℕ
  more : Text
  is : t ≡ a ∷ b ∷ c ∷ d ∷ more
  blank : is_blank d ≡ true

blank_at : (a b c : ℕ) (t q : Text) → t ≡ a ∷ b ∷ c ∷ q → Begins IsBlank q → HasBlank t
blank_at a b c t [] e h = absurd h
blank_at a b c t (d ∷ q) e h = record { a = a; b = b; c = c; d = d; more = q; is = e; blank = h }

no_blank_is : (d k : ℕ) → is_blank d ≡ true → is_blank k ≡ false → d ≡ k → ⊥
no_blank_is d k h n is = let bad : true ≡ false = sym h ∙ ap is_blank is ∙ n in cc

ends_word : (q : Text) → Begins IsBlank q → Ends is_word_char q
ends_word [] h = tt
ends_word (c ∷ q) h = blank_no_word c h

no_equals : (t : Text) → Begins IsBlank t → NoFront (exactly (61 ∷ [])) t
no_equals [] h p q v e k = absurd h
no_equals (c ∷ t) h p q v e k = no_blank_is c 61 h refl (at 0 (e ∙ ap (λ (x : Text). x ++ q) k))

-- no digit begins blanks and a text that it does not begin
ends_over : (g t : Text) → Each is_blank g → Ends is_ascii_digit t → Ends is_ascii_digit (g ++ t)
ends_over [] t e h = h
ends_over (c ∷ g) t e h = let blank = e.0 in grind (arith, nat_tests, blank)

no_bracket_over : (g t : Text) → Each is_blank g → NoFront (exactly (91 ∷ [])) t → NoFront (exactly (91 ∷ [])) (g ++ t)
no_bracket_over [] t e n p q v w h = n p q v w h
no_bracket_over (c ∷ g) t e n p q v w h = no_blank_is c 91 e.0 refl (at 0 (w ∙ ap (λ (x : Text). x ++ q) h))

module _ {text t : Text} (gap : Front (run is_blank) text t tt) (m : HasMonth t) where
  has_blank : HasBlank t
  has_blank = blank_at m.word.a m.word.b m.word.c t m.q (m.whole ∙ ap (λ (x : Text). x ++ m.q) m.word.is) m.blank

  no_cef : NoFront (Row cef_row) t
  no_cef = let h = has_blank in no_row cef_row cef_det (inl (λ p q v e k.
      no_blank_is h.d 58 h.blank refl (at 3 (sym h.is ∙ e ∙ ap (λ (x : Text). x ++ q) k))))

  no_leef : NoFront (Row leef_row) t
  no_leef = let h = has_blank in no_row leef_row leef_det (inl (λ p q v e k.
      no_blank_is h.d 70 h.blank refl (at 3 (sym h.is ∙ e ∙ ap (λ (x : Text). x ++ q) k))))

  no_pair : NoFront pair t
  no_pair = let s = small_letters _ _ _ _ m.word.names in no_mapped (Row pair_row) (Text × Text) _
      (no_row pair_row pair_row_det (no_blank m past optional_none (exactly (44 ∷ [])) (no_char m 44 (omega arith))
      past front_of m.p m.whole
      ((
        tt,
        (
          rw m.word.is (omega arith),
          rw m.word.is (
            word_letter m.word.a (s.0, s.1),
            (
              word_letter m.word.b (s.2, s.3),
              (word_letter m.word.c (s.4, s.5), tt),
            ),
          ),
          ends_word m.q m.blank,
        ),
        refl,
      ))
      past inl (no_equals m.q m.blank)))

  no_digit : Ends is_ascii_digit t
  no_digit = let (c, more, is, large) = first_letter m in rw is (grind (arith, nat_tests, large))

  no_version : NoFront (number 999) text
  no_version = no_run is_ascii_digit text
      (rw gap.whole (ends_over gap.piece t gap.is.0 no_digit)) (number 999) (λ p q v h. (h.0, h.1))

  no_head : NoFront (Row head_row) text
  no_head = no_row head_row head_det (inl no_version)

  no_seconds : NoFront (Row seconds_row) text
  no_seconds = no_row seconds_row seconds_det (inl (rw gap.whole (no_bracket_over gap.piece t gap.is.0 (no_bracket m))))

  month_no_undated : IsOfNone undated_forms text
  month_no_undated = undated_none gap no_cef no_leef no_pair (header_none no_head no_seconds)

-- ---- a text that begins with a date of RFC 3339, or nearly one

module _ {text t : Text} (gap : Front (run is_blank) text t tt) (m : HasIso t) where
  no_letter : (c : ℕ) (more : Text) → is_ascii_digit c ≡ false → NoFront (exactly (c ∷ more)) t
  no_letter c more n p q v e h =
      digit_is m.a c m.digits.0 n (at 0 (sym m.is ∙ e ∙ ap (λ (x : Text). x ++ q) h))

  iso_ends : Ends is_word_char m.left
  iso_ends = elim m.ends as (λ _. Ends is_word_char m.left) [
    | inl tied ↦ rw tied.is refl
    | inr spaced ↦ rw spaced.is refl
  ]

  iso_word : Front (texted (some_run is_word_char)) t m.left m.word
  iso_word = let (v, (some, each, ends), is) = m.found.is in front_of m.found.piece m.found.whole
      ((tt, (some, subst (λ (x : Text). Each is_word_char x) is m.words, iso_ends), is))

  iso_no_equals : NoFront (exactly (61 ∷ [])) m.left
  iso_no_equals p q v e h = elim m.ends [
    | inl tied ↦ (let bad : 58 ≡ 61 = at 0 (sym tied.is ∙ e ∙ ap (λ (x : Text). x ++ q) h) in omega (arith, bad))
    | inr spaced ↦ (let bad : 32 ≡ 61 = at 0 (sym spaced.is ∙ e ∙ ap (λ (x : Text). x ++ q) h) in omega (arith, bad))
  ]

  iso_no_pair : NoFront pair t
  iso_no_pair = no_mapped (Row pair_row) (Text × Text) _ (no_row pair_row pair_row_det (iso.no_blank m
      past optional_none (exactly (44 ∷ [])) (iso.no_char m 44 refl) past iso_word past inl iso_no_equals))

  -- no blank follows the year, and no digit begins blanks before it
  iso_no_head : (g : Text) → Each is_blank g → NoFront (Row head_row) (g ++ t)
  iso_no_head [] e p q vs f h =
      let (u, n, (w, b, more)) = row_pieces head_row (front_of p f h) in
      let same : u ≡ m.e ∷ m.more = (front_same (some_run is_ascii_digit) (some_run_det is_ascii_digit)
      (front_of n.piece n.whole (n.is.0, n.is.1, n.is.2)) (year_front m)).0 in
      let blank : Begins IsBlank (m.e ∷ m.more) = subst (λ (x : Text). Begins IsBlank x) same (blanks_begin b) in
      let bad : false ≡ true = sym (mark_no_blank m.e m.part) ∙ blank in cc
  iso_no_head (c ∷ g) e p q vs f h = no_row head_row head_det (inl (no_run is_ascii_digit (c ∷ (g ++ t))
      (let blank = e.0 in grind (arith, nat_tests, blank)) (number 999) (λ p q v h. (h.0, h.1)))) p q vs f h

  iso_no_seconds : NoFront (Row seconds_row) text
  iso_no_seconds = no_row seconds_row seconds_det
      (inl (rw gap.whole (no_bracket_over gap.piece t gap.is.0 (iso.no_char m 91 refl))))

  iso_no_undated : IsOfNone undated_forms text
  iso_no_undated = undated_none gap (no_row cef_row cef_det (inl (no_letter 67 (69 ∷ 70 ∷ 58 ∷ []) refl)))
      (no_row leef_row leef_det (inl (no_letter 76 (69 ∷ 69 ∷ 70 ∷ 58 ∷ []) refl))) iso_no_pair
      (header_none (rw gap.whole (iso_no_head gap.piece gap.is.0)) iso_no_seconds)

-- ---- a text that begins with either

undated_at : (d : LeadingDate) {text t : Text} (r : Text) → Front (run is_blank) text t tt → IsDate d t r
    → IsOfNone undated_forms text
undated_at (Month d) r g f = month_no_undated g (has_month f)
undated_at (Iso d) r g (n, f) = iso_no_undated g (has_iso f)

pub led_no_undated : {text : Text} {led : Led} → IsLed text led → IsOfNone undated_forms text
led_no_undated {led = led} is = undated_at led.date _ is.gap is.date
