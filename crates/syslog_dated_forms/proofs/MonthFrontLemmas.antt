-- A text that begins with a month date: what comes before Cisco's dates is not there, and no form with another
-- beginning divides it.
use Rattle.syslog_dated_forms.proofs.Names.{[], ◌&&◌, ◌++◌, ◌<◌, ◌otherwise◌, ◌past◌, ◌then◌, ◌||◌, ◌∙◌, ◌∷◌, ◌≡◌}
use Rattle.syslog_dated_forms.proofs.Names.{address, and_parts, ap, arith, bare_word, bare_word_det, Begins, begins}
use Rattle.syslog_dated_forms.proofs.Names.{begins_host, blanks_begin, Bool, bsd_row, card_row, chars, Class, colon}
use Rattle.syslog_dated_forms.proofs.Names.{colon_of, colon_row, counter_row, dated_in, day_of, drop, Each, each_map}
use Rattle.syslog_dated_forms.proofs.Names.{Ends, exactly, false, Front, front_of, front_same, front_year}
use Rattle.syslog_dated_forms.proofs.Names.{front_year_row, host, host_in, host_row, inl, inr, is_address_char}
use Rattle.syslog_dated_forms.proofs.Names.{is_among, is_ascii_digit, is_blank, is_tag_char, IsBlank, IsDay, IsLate}
use Rattle.syslog_dated_forms.proofs.Names.{IsMnemonic, IsNode, IsUptime, label, label_row, labelled, length, List}
use Rattle.syslog_dated_forms.proofs.Names.{mapped_front, mark, meraki_row, mnemonic, month_first_row, nat_tests}
use Rattle.syslog_dated_forms.proofs.Names.{no_mapped, no_otherwise, no_row, no_row_division, no_run, no_such_front}
use Rattle.syslog_dated_forms.proofs.Names.{node, NoDivision, NoFront, None, not, number, Option, optional}
use Rattle.syslog_dated_forms.proofs.Names.{optional_none, optional_some, origin, pair, refl, Row, row_of, row_pieces}
use Rattle.syslog_dated_forms.proofs.Names.{run, run_clock_row, run_word_row, SentDate, slashed_date, slashed_of}
use Rattle.syslog_dated_forms.proofs.Names.{slashed_row, Some, some_run, start, start_row, subst, sym, task_row, Text}
use Rattle.syslog_dated_forms.proofs.Names.{true, unix_date, unix_of, unix_row, uptime, Values, weekday, xr_row, year}
use Rattle.syslog_dated_forms.proofs.Names.{year_date, year_date_row, year_first_row, ℕ}
use Rattle.std.proofs.Common.{◌≤◌, map}
use Rattle.std.proofs.lemmas.Bool.{agree_below_at}
use Rattle.std.proofs.lemmas.Str.{chars-IsAscii}
use Rattle.std.proofs.lemmas.Str.Ascii.{lowercase_is}
use Rattle.std.specs.Char.{to_ascii_lowercase}
use Rattle.std.specs.Cmp.Lexicographic.{same_text}
use Rattle.std.specs.Prelude.{is_none, nat_le, nat_lt, nat_eq, IsTrue}
use Rattle.syslog_pieces.specs.Bodies.MonthReading.{small_month}
use Rattle.syslog_text.specs.Pieces.View.{text_eq}
use Rattle.syslog_pieces.specs.Timestamp.MonthDate.{clock_row, month, month_date, short_number}
use Rattle.syslog_pieces.specs.declared.timestamp.month_date.MonthDate.{MonthDate}
use Rattle.syslog_text.proofs.PieceLemmas.Class.{heads}
use Rattle.syslog_text.proofs.PieceLemmas.Lists.{begins_apart}
use Rattle.syslog_sent.proofs.NamedLemmas.{ascii_told}
use Rattle.syslog_dated_forms.proofs.CiscoLemmas.{no_address, origin_det, word_is_origin, counter_row_det}
use Rattle.syslog_dated_forms.proofs.CiscoLemmas.{front_year_row_det, task_row_det}
use Rattle.syslog_pieces.proofs.TimestampLemmas.MonthDate.{IsLetter, blank_low, month_letters}
use Rattle.syslog_sent.specs.Date.{day_words}
use Rattle.syslog_sent.specs.Runs.{are_ascii}
use Rattle.syslog_dated_forms.proofs.RowLemmas.{run_clock_row_det, run_word_row_det, year_date_det, card_row_det}
use Rattle.syslog_dated_forms.proofs.RowLemmas.{colon_row_det, month_first_row_det, slashed_row_det, xr_row_det}
use Rattle.syslog_dated_forms.proofs.RowLemmas.{year_first_row_det, meraki_row_det, unix_row_det}
use Rattle.syslog_sent.proofs.LedLemmas.{year_begins}
use Rattle.syslog_dated_forms.proofs.OtherFormLemmas.{BeginsOtherwise}
use Rattle.syslog_sent.proofs.ZoneLemmas.{either_told}

-- ---- the word that a month is

-- a letter in either case, by the small one
abbrev pub IsSmall : ℕ → Type 0
IsSmall c = (97 ≤ to_ascii_lowercase c) × (to_ascii_lowercase c < 123)

pub small_letters : (a b c n : ℕ) → small_month a b c ≡ Some n → (97 ≤ a) × (a < 123) × (97 ≤ b) × (b < 123) × (97 ≤ c)
    × (c < 123)
unfolding small_month
small_letters a b c n m = (
  grind (arith, nat_tests),
  grind (arith, nat_tests),
  grind (arith, nat_tests),
  grind (arith, nat_tests),
  grind (arith, nat_tests),
  grind (arith, nat_tests),
)

pub small_low : (c : ℕ) → IsSmall c → (65 ≤ c) × (c < 123)
small_low c h = grind (arith, lowercase_is c)

tag_letter : (c : ℕ) → IsSmall c → is_tag_char c ≡ true
tag_letter c h = let (large, low) = small_low c h in
    grind (arith, nat_tests, agree_below_at (λ k. nat_lt k 65 || is_tag_char k) (λ k. true) 123 c refl low)

pub tag_digit : (c : ℕ) → is_ascii_digit c ≡ true → is_tag_char c ≡ true
tag_digit c h = let low : c < 58 = grind (arith, nat_tests, h) in
    grind (arith, nat_tests, h, agree_below_at (λ k. nat_lt k 48 || is_tag_char k) (λ k. true) 58 c refl low)

-- a letter begins a host's name
host_letter : (c : ℕ) → IsSmall c → begins_host c ≡ true
host_letter c h = let (large, low) = small_low c h in
    let small : (nat_le 97 (to_ascii_lowercase c) && nat_lt (to_ascii_lowercase c) 123) ≡ true =
    grind (arith, nat_tests, h.0, h.1) in
    grind (
      arith,
      nat_tests,
      small,
      agree_below_at (λ k. not (nat_le 97 (to_ascii_lowercase k) && nat_lt (to_ascii_lowercase k) 123) || begins_host k)
          (λ k. true) 123 c refl low,
    )

blank_apart : (c : ℕ) → is_blank c ≡ true → is_tag_char c ≡ false
blank_apart c h = let low = blank_low c h in
    grind (arith, nat_tests, agree_below_at (λ k. is_blank k && is_tag_char k) (λ k. false) 33 c refl (omega arith))

-- three letters that name a month
pub record IsWord (p : Text) : Type 0 where
  pub a : ℕ
  pub b : ℕ
  pub c : ℕ
  pub n : ℕ
  pub is : p ≡ a ∷ b ∷ c ∷ []
  pub names : small_month (to_ascii_lowercase a) (to_ascii_lowercase b) (to_ascii_lowercase c) ≡ Some n

-- the month that begins a text, blanks, the digits of the day, and a blank after them
pub record HasMonth (t : Text) : Type 0 where
  pub p : Text
  pub q : Text
  pub whole : t ≡ p ++ q
  pub word : IsWord p
  pub blank : Begins IsBlank q
  pub at_day : Text
  pub gap : Front (some_run is_blank) q at_day tt
  pub day : Text
  pub after_day : Text
  pub shown : at_day ≡ day ++ after_day
  pub some : 0 < length day
  pub digits : Each is_ascii_digit day
  pub end : Begins IsBlank after_day

-- such a front of a month date, and what follows it
abbrev day_row : List Class → List Class
day_row Cs = month ∷ some_run is_blank ∷ short_number ∷ some_run is_blank ∷ Cs

from_row : (Cs : List Class) {t r : Text} {vs : Values (day_row Cs)} → Front (Row (day_row Cs)) t r vs → HasMonth t
from_row Cs f = let (u, m, (w, gap, (x, day, (y, end, more)))) = row_pieces (day_row Cs) f in
    let (a, b, c, e, k) = month_letters m.piece _ m.is in record {
      p = m.piece;
      q = u;
      whole = m.whole;
      word = record { a = a; b = b; c = c; n = _; is = e; names = k };
      blank = blanks_begin gap;
      at_day = w;
      gap = gap;
      day = day.piece;
      after_day = x;
      shown = day.whole;
      some = day.is.0;
      digits = day.is.1;
      end = blanks_begin end;
    }

-- the pieces of a month date with a year after the day
abbrev after_day_dated : List Class
after_day_dated = number 2147483647 ∷ some_run is_blank ∷ clock_row

from_date : (p q : Text) (d : MonthDate) → month_date.Is p q d → HasMonth (p ++ q)
from_date p q d (inl (vs, h, i)) = from_row clock_row {t = p ++ q} {r = q} {vs = vs}
    (record { piece = p; whole = refl; is = h })
from_date p q d (inr (vs, h, i)) =
    from_row after_day_dated {t = p ++ q} {r = q} {vs = vs} (record { piece = p; whole = refl; is = h })

pub has_month : {t r : Text} {vs : Values bsd_row} → Front (Row bsd_row) t r vs → HasMonth t
has_month f = let (u, d, more) = row_pieces bsd_row f in
    subst HasMonth (sym d.whole) (from_date d.piece u _ d.is)

ends_tag : (q : Text) → Begins IsBlank q → Ends is_tag_char q
ends_tag [] h = tt
ends_tag (c ∷ q) h = blank_apart c h

-- the digits of a day are no node
day_no_node : (w : Text) → Each is_ascii_digit w → IsNode w → ⊥
day_no_node w e (inl (q, f)) = let d = rw (f.whole, f.is) at e in let bad : false ≡ true = d.0 in cc
day_no_node w e (inr (inl (q, f))) = let d = rw (f.whole, f.is) at e in let bad : false ≡ true = d.0 in cc
day_no_node w e (inr (inr (q, f))) = let d = rw (f.whole, f.is) at e in let bad : false ≡ true = d.1.0 in cc

-- a month is no such word
month_no_uptime : (w : Text) → IsWord w → IsUptime w → ⊥
month_no_uptime w m is = let s = small_letters _ _ _ _ m.names in
    let large = (small_low m.a (s.0, s.1)).0 in
    let told = rw m.is at is in
    grind (arith, nat_tests, large, told)

-- a month and a blank are no address of IPv6
blank_no_address : (x : ℕ) → IsBlank x → is_address_char x ≡ false
blank_no_address x b = grind (arith, nat_tests, b)

word_no_colon : (p : Text) → IsWord p → Each (λ c. not (nat_eq c 58)) p
word_no_colon p w = let s = small_letters _ _ _ _ w.names in rw w.is (
  (and_parts _ _ (tag_letter w.a (s.0, s.1))).1,
  ((and_parts _ _ (tag_letter w.b (s.2, s.3))).1, ((and_parts _ _ (tag_letter w.c (s.4, s.5))).1, tt)),
)

month_no_address : (p q : Text) → IsWord p → Begins IsBlank q → NoFront address (p ++ q)
month_no_address p [] w b = absurd b
month_no_address p (x ∷ rest) w b = no_address p x rest (word_no_colon p w) (blank_no_address x b)

module _ {t : Text} (m : HasMonth t) where
  pub first_letter : (c : ℕ) × (more : Text) × (t ≡ c ∷ more) × (65 ≤ c)
  first_letter = let s = small_letters _ _ _ _ m.word.names in
      let large = (small_low m.word.a (s.0, s.1)).0 in
      (m.word.a, m.word.b ∷ m.word.c ∷ m.q, m.whole ∙ ap (λ (x : Text). x ++ m.q) m.word.is, large)

  month_word : Front bare_word t m.q m.p
  month_word = let s = small_letters _ _ _ _ m.word.names in front_of m.p m.whole
      ((
        tt,
        (
          rw m.word.is (omega arith),
          rw m.word.is (
            tag_letter m.word.a (s.0, s.1),
            (
              tag_letter m.word.b (s.2, s.3),
              (tag_letter m.word.c (s.4, s.5), tt),
            ),
          ),
          ends_tag m.q m.blank,
        ),
        refl,
      ))

  -- no piece that begins below the letters
  no_low : (C : Class) → ((p q : Text) (v : C.Value) → C.Is p q v → Begins (λ c. c < 65) (p ++ q)) → NoFront C t
  no_low C low p q v e h = let (c, more, is, large) = first_letter in
      begins_apart {H = IsLetter} {K = λ d. d < 65} t (λ d k l. omega (arith, k, l)) (rw is large) (rw e (low p q v h))

  pub no_digits : (C : Class) → ((p q : Text) (v : C.Value) → C.Is p q v → (0 < length p) × Each is_ascii_digit p)
      → NoFront C t
  no_digits C digits = let (c, more, is, large) = first_letter in
      no_run is_ascii_digit t (rw is (grind (arith, nat_tests, large))) C digits

  pub no_char : (d : ℕ) → d < 65 → NoFront (exactly (d ∷ [])) t
  no_char d low = no_low (exactly (d ∷ [])) (λ p q v h. rw h low)

  no_counter : NoFront (Row counter_row) t
  no_counter = no_row counter_row counter_row_det (inl (no_digits (some_run is_ascii_digit) (λ p q v h. (h.0, h.1))))

  month_origin : Front origin t m.q m.p
  month_origin = let s = small_letters _ _ _ _ m.word.names in
      word_is_origin (rw m.whole (month_no_address m.p m.q m.word m.blank)) month_word
      (rw m.word.is (host_letter m.word.a (s.0, s.1)))

  no_label : NoFront label t
  no_label p q v e (vs, h, is) =
      let (u, o, (w, c, more)) = row_pieces label_row (front_of p e h) in
      let same = (front_same origin origin_det o month_origin).0 in
      begins_apart {H = IsBlank} {K = λ d. d ≡ 58} u (λ d k l. let b : is_blank 58 ≡ true = rw l at k in
      let f : false ≡ true = b in cc)
      (rw same m.blank) (rw (begins 58 u w c) refl)

  no_uptime : NoFront uptime t
  no_uptime = no_otherwise
      (no_row run_clock_row run_clock_row_det (inl (no_digits (some_run is_ascii_digit) (λ p q v h. (h.0, h.1)))))
      (no_row run_word_row run_word_row_det (inl (λ p q v e h. month_no_uptime m.p m.word
      (subst IsUptime (front_same bare_word bare_word_det (front_of p e h.0) month_word).1 h.1))))

  no_task : NoFront (Row task_row) t
  no_task = no_row task_row task_row_det (inl (no_char 42 (omega arith)))

  no_mark : NoFront mark t
  no_mark p q (inl v) e h = no_char 42 (omega arith) p q v e h
  no_mark p q (inr v) e h = no_char 46 (omega arith) p q v e h

  pub no_blank : Front (run is_blank) t t tt
  no_blank = let (c, more, is, large) = first_letter in record {
    piece = [];
    whole = refl;
    is = (tt, rw is (grind (arith, nat_tests, large)));
  }

  -- nothing of what may come before the date of a line of Cisco's
  pub bare_start : {text : Text} → Front (run is_blank) text t tt → Front start text t None
  bare_start gap = mapped_front (Row start_row) (Option Text) labelled (row_of start_row (gap
      then optional_none (exactly colon) (no_char 58 (omega arith)) then no_blank
      then optional_none (Row counter_row) no_counter then optional_none (Row counter_row) no_counter
      then optional_none label no_label then optional_none (Row counter_row) no_counter
      then optional_none (Row task_row) no_task then optional_none mark no_mark then refl))

  -- a name, and blanks after it
  month_host : Front host t m.at_day m.p
  month_host = mapped_front (Row host_row) Text (λ v. v.0) (row_of host_row (month_origin then m.gap then refl))

  day_word : Front bare_word m.at_day m.after_day m.day
  day_word = front_of m.day m.shown
      ((tt, (m.some, each_map is_ascii_digit is_tag_char tag_digit m.day m.digits, ends_tag m.after_day m.end), refl))

  -- and no node after them
  no_node : NoFront node m.at_day
  no_node p q v e h = let same = front_same bare_word bare_word_det (front_of p e h.0) day_word in
      day_no_node m.day m.digits (subst IsNode same.1 h.1)

  no_year : NoFront year t
  no_year = no_low year year_begins

  pub bare_year : Front (optional front_year) t t None
  bare_year = optional_none front_year (no_mapped (Row front_year_row)
      ℕ _ (no_row front_year_row front_year_row_det (inl no_year)))

-- ---- no bracket begins it

pub no_bracket : {t : Text} → HasMonth t → NoFront (exactly (91 ∷ [])) t
no_bracket m p q v e h =
    let s = small_letters _ _ _ _ m.word.names in
    let more = m.word.b ∷ m.word.c ∷ m.q in
    let whole : m.word.a ∷ more ≡ 91 ∷ q =
    sym (m.whole ∙ ap (λ (x : Text). x ++ m.q) m.word.is) ∙ e ∙ ap (λ (x : Text). x ++ q) h in
    let small : 97 ≤ 91 = subst (λ (x : ℕ). 97 ≤ to_ascii_lowercase x) (heads m.word.a 91 more q whole) s.0 in
    omega (arith, small)

-- ---- it is no day of the week

month_of : List ℕ → Option ℕ
month_of (a ∷ b ∷ c ∷ []) = small_month (to_ascii_lowercase a) (to_ascii_lowercase b) (to_ascii_lowercase c)
month_of _ = None

are_none : List (List ℕ) → Bool
are_none [] = true
are_none (w ∷ ws) = (are_ascii w && is_none (month_of w)) && are_none ws

one_none : (w t : List ℕ) → IsTrue (are_ascii w && is_none (month_of w)) → true ≡ text_eq (chars w) t
    → IsTrue (is_none (month_of t))
one_none w t h e = let (ascii, none) = and_parts (are_ascii w) (is_none (month_of w)) h in
    let is : w ≡ t = sym (chars-IsAscii w (ascii_told w ascii)) ∙ same_text (chars w) t e in
    subst (λ (x : List ℕ). IsTrue (is_none (month_of x))) is none

among_none : (t : List ℕ) (ws : List (List ℕ)) → IsTrue (are_none ws) → is_among t (map chars ws) ≡ true
    → IsTrue (is_none (month_of t))
unfolding are_none
among_none t [] h e = absurd (let f : false ≡ true = e in cc)
among_none t (w ∷ ws) h e =
    let (none, more) = and_parts (are_ascii w && is_none (month_of w)) (are_none ws) h in
    either_told (text_eq (chars w) t) (is_among t (map chars ws)) e (λ is. one_none w t none (sym is))
    (λ later. among_none t ws more later)

days_none : IsTrue (are_none day_words)
unfolding are_none month_of small_month
days_none = refl

month_no_day : (p : Text) → IsWord p → IsDay p → ⊥
unfolding month_of
month_no_day p w h =
    let none : IsTrue (is_none (month_of (w.a ∷ w.b ∷ w.c ∷ []))) = rw w.is at (among_none p day_words days_none h) in
    let some : IsTrue (is_none (Some w.n)) = rw w.names at none in
    let bad : false ≡ true = some in cc

month_no_mnemonic : (p : Text) → IsWord p → IsMnemonic p → ⊥
month_no_mnemonic p w h = let s = small_letters _ _ _ _ w.names in
    let large = (small_low w.a (s.0, s.1)).0 in
    let is = rw w.is at h in
    grind (arith, nat_tests, large, is)

-- ---- the forms with another beginning

module _ {t : Text} (m : HasMonth t) where
  no_weekday : NoFront weekday t
  no_weekday p q v e h = let same = front_same bare_word bare_word_det (front_of p e h.0) (month_word m) in
      month_no_day m.p m.word (subst IsDay same.1 h.1)

  no_mnemonic : NoFront mnemonic t
  no_mnemonic p q v e h = let same = front_same bare_word bare_word_det (front_of p e h.0) (month_word m) in
      month_no_mnemonic m.p m.word (subst IsMnemonic same.1 h.1)

  no_unix_date : NoFront unix_date t
  no_unix_date = no_mapped (Row unix_row) SentDate unix_of (no_row unix_row unix_row_det
      (inl (no_such_front (number 4294967295) IsLate (no_digits m (number 4294967295) (λ p q v h. (h.0, h.1))))))

  no_slashed_date : NoFront slashed_date t
  no_slashed_date = no_mapped (Row slashed_row) SentDate slashed_of (no_row slashed_row slashed_row_det
      (inl (no_mapped (Row month_first_row otherwise Row year_first_row) (ℕ × (ℕ × ℕ)) day_of (no_otherwise
      (no_row month_first_row month_first_row_det (inl (no_low m (pair 100) (λ p q v h. rw h.0 (omega (arith, h.1))))))
      (no_row year_first_row year_first_row_det (inl (no_year m)))))))

  no_year_date : NoFront year_date t
  no_year_date = no_mapped (Row year_date_row) SentDate (λ v. dated_in (Some v.0) v.1.0)
      (no_row year_date_row year_date_det
      (inl (no_mapped (Row front_year_row) ℕ _ (no_row front_year_row front_year_row_det (inl (no_year m))))))

  pub begins_month : BeginsOtherwise t
  begins_month = record {
    no_gap = no_blank m;
    no_colon = no_char m 58 (omega arith);
    no_bracket = no_bracket m;
    no_counter = no_counter m;
    no_label = no_label m;
    no_uptime = no_uptime m;
    no_mnemonic = no_mnemonic;
    no_weekday = no_weekday;
    no_slashed_date = no_slashed_date;
    no_colon_date = no_mapped (Row colon_row) SentDate colon_of (no_row colon_row colon_row_det (inl (no_year m)));
    no_year_date = no_year_date;
    no_unix_date = no_unix_date;
    no_meraki = no_row (drop 1 meraki_row) meraki_row_det.1 (inl (no_char m 49 (omega arith)));
  }

  pub no_xr : {text : Text} → Front (run is_blank) text t tt → NoDivision xr_row text
  no_xr gap = no_row_division xr_row (no_row xr_row xr_row_det (inl (no_mapped (Row card_row) (Option Text) host_in
      (no_row card_row card_row_det (gap past optional_none (Row counter_row) (no_counter m)
      past optional_some host (month_host m) past inl (no_node m))))))
