-- A text that begins with a date that is nearly one of RFC 3339: no form with another beginning divides it.
use Rattle.syslog_dated_forms.proofs.Names.{[], ◌++◌, ◌<◌, ◌past◌, ◌then◌, ◌||◌, ◌∙◌, ◌∷◌, ◌≡◌, ◌⊎◌, address, ap, arith}
use Rattle.syslog_dated_forms.proofs.Names.{bare_word, bare_word_det, Begins, begins, begins_host, BeginsWith}
use Rattle.syslog_dated_forms.proofs.Names.{blanks_begin, Bool, card_row, colon_of, colon_row, counter_row, dated_in}
use Rattle.syslog_dated_forms.proofs.Names.{drop, Each, each_after, each_map, Ends, exactly, false, fraction_row, Front}
use Rattle.syslog_dated_forms.proofs.Names.{front_of, front_same, front_year_row, host, host_in, host_row, inl, inr}
use Rattle.syslog_dated_forms.proofs.Names.{is_ascii_digit, is_blank, is_tag_char, IsBlank, IsMnemonic, iso_date, label}
use Rattle.syslog_dated_forms.proofs.Names.{label_row, length, mapped_front, meraki_row, mnemonic, month_first_row}
use Rattle.syslog_dated_forms.proofs.Names.{nat_tests, no_mapped, no_otherwise, no_row, no_row_division, no_run, node}
use Rattle.syslog_dated_forms.proofs.Names.{NoDivision, NoFront, not, Option, optional_none, optional_some, origin}
use Rattle.syslog_dated_forms.proofs.Names.{pair, refl, Row, row_of, row_pieces, run, run_clock_row, run_word_row}
use Rattle.syslog_dated_forms.proofs.Names.{SentDate, slashed_date, slashed_of, slashed_row, Some, some_run}
use Rattle.syslog_dated_forms.proofs.Names.{some_run_det, subst, sym, Text, true, unix_date, unix_of, unix_row, uptime}
use Rattle.syslog_dated_forms.proofs.Names.{Values, weekday, xr_row, year, year_date, year_date_row, year_first_row, ℕ}
use Rattle.std.specs.Prelude.{nat_eq}
use Rattle.syslog_text.proofs.PieceLemmas.Class.{each_append}
use Rattle.syslog_sent.specs.Date.{date_part, iso_row, middle, point}
use Rattle.syslog_dated_forms.specs.NetScaler.{slashed_day}
use Rattle.syslog_sent.specs.Runs.{is_word_char}
use Rattle.syslog_sent.specs.Zone.{is_capital}
use Rattle.syslog_dated_forms.proofs.CiscoLemmas.{counter_row_det, at, no_address, origin_det, word_is_origin}
use Rattle.syslog_dated_forms.proofs.RowLemmas.{year_date_det, card_row_det, host_row_det, xr_row_det}
use Rattle.syslog_dated_forms.proofs.RowLemmas.{run_clock_row_det}
use Rattle.syslog_dated_forms.proofs.MonthFrontLemmas.{tag_digit}
use Rattle.syslog_dated_forms.proofs.OtherFormLemmas.{BeginsOtherwise}
use Rattle.syslog_sent.proofs.ZoneLemmas.{day_capital}
use Rattle.syslog_text.specs.Pieces.Class.{after}

-- ---- the word that such a date begins with

-- characters of a word before it are of the word
longer : (p : Text) {u r w : Text} → Each is_tag_char p → Front bare_word u r w → Front bare_word (p ++ u) r (p ++ w)
longer [] e f = f
longer (c ∷ p) e f = let g = longer p e.1 f in let (v, (some, each, ends), is) = g.is in
    front_of (c ∷ g.piece) (ap (λ (x : Text). c ∷ x) g.whole)
    ((tt, (omega arith, (e.0, each), ends), ap (λ (x : Text). c ∷ x) is))

-- after it comes a colon and a digit, where the date has a `T`
pub record IsTied (u : Text) : Type 0 where
  pub x : ℕ
  pub more : Text
  pub is : u ≡ 58 ∷ x ∷ more
  pub digit : is_ascii_digit x ≡ true

-- and otherwise a space and the hour
pub record IsSpaced (u : Text) : Type 0 where
  pub x : ℕ
  pub y : ℕ
  pub more : Text
  pub is : u ≡ 32 ∷ x ∷ y ∷ 58 ∷ more
  pub first : is_ascii_digit x ≡ true
  pub second : is_ascii_digit y ≡ true

-- digits and slashes
abbrev is_slashed : ℕ → Bool
is_slashed c = is_ascii_digit c || nat_eq c 47

no_mark : is_slashed 84 ≡ true → ⊥
no_mark h = absurd (let k : false ≡ true = h in cc)

-- the year, the mark after it, and the word, in which a `T` is if a colon follows it
pub record HasIso (t : Text) : Type 0 where
  pub a : ℕ
  pub b : ℕ
  pub c : ℕ
  pub d : ℕ
  pub e : ℕ
  pub more : Text
  pub is : t ≡ a ∷ b ∷ c ∷ d ∷ e ∷ more
  pub digits : Each is_ascii_digit (a ∷ b ∷ c ∷ d ∷ [])
  pub part : (e ≡ 45) ⊎ (e ≡ 47)
  pub word : Text
  pub left : Text
  pub found : Front bare_word t left word
  pub words : Each is_word_char word
  pub ends : IsTied left ⊎ IsSpaced left
  marked : IsTied left → Each is_slashed word → ⊥

-- two digits
record IsPair (p : Text) : Type 0 where
  x : ℕ
  y : ℕ
  is : p ≡ x ∷ y ∷ []
  first : is_ascii_digit x ≡ true
  second : is_ascii_digit y ≡ true

pair_digits : (p q : Text) (n : ℕ) → (pair 100).Is p q n → IsPair p
pair_digits p q n (e, fits) = record {
  x = _;
  y = _;
  is = e;
  first = grind (arith, nat_tests, fits);
  second = grind (arith, nat_tests, fits);
}

record IsYear (p : Text) : Type 0 where
  a : ℕ
  b : ℕ
  c : ℕ
  d : ℕ
  is : p ≡ a ∷ b ∷ c ∷ d ∷ []
  digits : Each is_ascii_digit (a ∷ b ∷ c ∷ d ∷ [])

year_digits : (p q : Text) (n : ℕ) → year.Is p q n → IsYear p
year_digits p q n (e, fits) = record {
  a = _;
  b = _;
  c = _;
  d = _;
  is = e;
  digits = (
    grind (arith, nat_tests, fits),
    (grind (arith, nat_tests, fits), (grind (arith, nat_tests, fits), (grind (arith, nat_tests, fits), tt))),
  );
}

-- a month or a day: its mark, and digits
record IsPart (p : Text) : Type 0 where
  e : ℕ
  some : Text
  is : p ≡ e ∷ some
  mark : (e ≡ 45) ⊎ (e ≡ 47)
  tags : Each is_tag_char p
  words : Each is_word_char p

digits_tag : (p : Text) → Each is_ascii_digit p → Each is_tag_char p
digits_tag = each_map is_ascii_digit is_tag_char tag_digit

digit_word : (c : ℕ) → is_ascii_digit c ≡ true → is_word_char c ≡ true
digit_word c h = grind (arith, nat_tests, h)

digits_word : (p : Text) → Each is_ascii_digit p → Each is_word_char p
digits_word = each_map is_ascii_digit is_word_char digit_word

part_told : (p q : Text) (n : ℕ) → date_part.Is p q n → IsPart p
part_told p q n (inl k, (t, is, h), i) =
    record {
      e = 45;
      some = t;
      is = is;
      mark = inl refl;
      tags = rw is (refl, digits_tag t h.1);
      words = rw is (refl, digits_word t h.1);
    }
part_told p q n (inr k, (none, (t, is, h)), i) =
    record {
      e = 47;
      some = t;
      is = is;
      mark = inr refl;
      tags = rw is (refl, digits_tag t h.1);
      words = rw is (refl, digits_word t h.1);
    }

word_of : (p q : Text) → 0 < length p → Each is_tag_char p → Ends is_tag_char q → Front bare_word (p ++ q) q p
word_of p q some each ends = front_of p refl ((tt, (some, each, ends), refl))

-- ---- what follows the month and the day

-- the word of a date with a `T` goes on to the hour, and one with a space ends before it
record IsWord (u : Text) : Type 0 where
  word : Text
  left : Text
  found : Front bare_word u left word
  words : Each is_word_char word
  ends : IsTied left ⊎ IsSpaced left
  marked : IsTied left → Each is_slashed word → ⊥

-- the hour, and a colon and the minutes after it
record IsClock (u : Text) : Type 0 where
  h : Text
  v : Text
  whole : u ≡ h ++ v
  hour : IsPair h
  x : ℕ
  more : Text
  minutes : v ≡ 58 ∷ x ∷ more
  digit : is_ascii_digit x ≡ true

pair_tags : (p : Text) (q : Text) → IsPair p → (0 < length p) × (Each is_tag_char p)
pair_tags p q h = rw h.is (omega arith, (tag_digit h.x h.first, (tag_digit h.y h.second, tt)))

pair_words : (p : Text) → IsPair p → Each is_word_char p
pair_words p h = rw h.is (digit_word h.x h.first, (digit_word h.y h.second, tt))

after_mid : (d mid : Text) {u3 u4 : Text} → Each is_tag_char d → Each is_word_char d → 0 < length d → u3 ≡ mid ++ u4
    → (mid ≡ 84 ∷ []) ⊎ (mid ≡ 32 ∷ []) → IsClock u4 → IsWord (d ++ u3)
after_mid d mid {u3} {u4} each words some whole (inl tied) k =
    let (long, tags) = pair_tags k.h k.v k.hour in
    let hour : Front bare_word u4 k.v k.h = subst (λ (z : Text). Front bare_word z k.v k.h) (sym k.whole)
    (word_of k.h k.v long tags (rw k.minutes refl)) in
    let t : u3 ≡ 84 ∷ u4 = whole ∙ ap (λ (z : Text). z ++ u4) tied in
    record {
      word = d ++ (84 ∷ k.h);
      left = k.v;
      found = longer d each (subst (λ (z : Text). Front bare_word z k.v (84 ∷ k.h)) (sym t)
          (longer (84 ∷ []) (refl, tt) hour));
      words = each_append is_word_char d (84 ∷ k.h) words (refl, pair_words k.h k.hour);
      ends = inl (record { x = k.x; more = k.more; is = k.minutes; digit = k.digit });
      marked = λ tied each. no_mark (each_after is_slashed d (84 ∷ k.h) each).0;
    }
after_mid d mid {u3} {u4} each words some whole (inr spaced) k =
    let t : u3 ≡ 32 ∷ u4 = whole ∙ ap (λ (z : Text). z ++ u4) spaced in
    let hour : u4 ≡ k.hour.x ∷ k.hour.y ∷ 58 ∷ k.x ∷ k.more = k.whole ∙ ap (λ (z : Text). z ++ k.v) k.hour.is
    ∙ ap (λ (z : Text). k.hour.x ∷ k.hour.y ∷ z) k.minutes in
    record {
      word = d;
      left = u3;
      found = word_of d u3 some each (rw t refl);
      words = words;
      ends = inr (record {
        x = k.hour.x;
        y = k.hour.y;
        more = k.x ∷ k.more;
        is = t ∙ ap (λ (z : Text). 32 ∷ z) hour;
        first = k.hour.first;
        second = k.hour.second;
      });
      marked = λ tied each. absurd (omega (arith, at 0 (sym t ∙ tied.is)));
    }

mid_told : (p q : Text) (v : middle.Value) → middle.Is p q v → (p ≡ 84 ∷ []) ⊎ (p ≡ 32 ∷ [])
mid_told p q v (inl w, h, i) = inl h
mid_told p q v (inr w, h, i) = inr h

part_long : (p : Text) → IsPart p → 0 < length p
part_long p h = rw h.is (omega arith)

with_year : (y m : Text) {t u1 u2 : Text} → t ≡ y ++ u1 → u1 ≡ m ++ u2 → IsYear y → IsPart m → IsWord u2 → HasIso t
with_year y m {t} {u1} {u2} at_year at_month year month w =
    let tags : Each is_tag_char y = rw year.is (digits_tag (year.a ∷ year.b ∷ year.c ∷ year.d ∷ []) year.digits) in
    let later : Front bare_word u1 w.left (m ++ w.word) = subst (λ (z : Text). Front bare_word z w.left (m ++ w.word))
    (sym at_month) (longer m month.tags w.found) in
    record {
      a = year.a;
      b = year.b;
      c = year.c;
      d = year.d;
      e = month.e;
      more = month.some ++ u2;
      is = at_year ∙ ap (λ (z : Text). z ++ u1) year.is ∙ ap (λ (z : Text). year.a ∷ year.b ∷ year.c ∷ year.d ∷ z)
          (at_month ∙ ap (λ (z : Text). z ++ u2) month.is);
      digits = year.digits;
      part = month.mark;
      word = y ++ (m ++ w.word);
      left = w.left;
      found = subst (λ (z : Text). Front bare_word z w.left (y ++ (m ++ w.word))) (sym at_year) (longer y tags later);
      words = each_append is_word_char y (m ++ w.word)
          (rw year.is (digits_word (year.a ∷ year.b ∷ year.c ∷ year.d ∷ []) year.digits))
          (each_append is_word_char m w.word month.words w.words);
      ends = w.ends;
      marked = λ tied each. w.marked tied (each_after is_slashed m w.word (each_after is_slashed y (m ++ w.word) each));
    }

pub has_iso : {t r : Text} {d : SentDate} → Front iso_date t r d → HasIso t
has_iso f =
    let (vs, h, i) = f.is in
    let (u1, y, (u2, m, (u3, d, (u4, mid, (u5, hour, (u6, minute, more)))))) = row_pieces iso_row
    (front_of f.piece f.whole h) in
    let day = part_told d.piece u3 _ d.is in
    let (digits, is, fits) = minute.is in
    let two = pair_digits digits u6 _ fits in
    let clock : IsClock u4 = record {
      h = hour.piece;
      v = u5;
      whole = hour.whole;
      hour = pair_digits hour.piece u5 _ hour.is;
      x = two.x;
      more = two.y ∷ u6;
      minutes = minute.whole ∙ ap (λ (z : Text). z ++ u6) (is ∙ ap (λ (z : Text). 58 ∷ z) two.is);
      digit = two.first;
    } in
    let at_day : IsWord u2 = subst IsWord (sym d.whole)
    (after_mid d.piece mid.piece day.tags day.words (part_long d.piece day)
    mid.whole (mid_told mid.piece u4 _ mid.is) clock) in
    with_year y.piece m.piece y.whole m.whole (year_digits y.piece u1 _ y.is) (part_told m.piece u2 _ m.is) at_day

-- ---- days with slashes

digits_slashed : (t : Text) → Each is_ascii_digit t → Each is_slashed t
digits_slashed = each_map is_ascii_digit is_slashed (λ c h. grind (arith, nat_tests, h))

slashed_tags : (t : Text) → Each is_slashed t → Each is_tag_char t
slashed_tags = each_map is_slashed is_tag_char (λ c h. grind (arith, nat_tests, h))

slashed_two : (p q : Text) (n : ℕ) → (after 47 (pair 100)).Is p q n → Each is_slashed p
slashed_two p q n (t, is, h) =
    let two = pair_digits t q n h in
    let digits : Each is_slashed t = subst (λ (x : Text). Each is_slashed x) (sym two.is)
    (digits_slashed (two.x ∷ two.y ∷ []) (two.first, (two.second, tt))) in
    rw is (refl, digits)

two_long : (p q : Text) (n : ℕ) → (after 47 (pair 100)).Is p q n → 0 < length p
two_long p q n (t, is, h) = rw is (omega arith)

-- ---- what does not begin the text

-- neither of the two is a dot, a comma or a colon
mark_apart : (e c : ℕ) → (e ≡ 45) ⊎ (e ≡ 47) → (c ≡ 44) ⊎ ((c ≡ 46) ⊎ (c ≡ 58)) → e ≡ c → ⊥
mark_apart e c (inl p) (inl q) is = omega (arith, p, q, is)
mark_apart e c (inl p) (inr (inl q)) is = omega (arith, p, q, is)
mark_apart e c (inl p) (inr (inr q)) is = omega (arith, p, q, is)
mark_apart e c (inr p) (inl q) is = omega (arith, p, q, is)
mark_apart e c (inr p) (inr (inl q)) is = omega (arith, p, q, is)
mark_apart e c (inr p) (inr (inr q)) is = omega (arith, p, q, is)

pub mark_no_blank : (e : ℕ) → (e ≡ 45) ⊎ (e ≡ 47) → is_blank e ≡ false
mark_no_blank e (inl p) = rw p refl
mark_no_blank e (inr p) = rw p refl

mark_no_digit : (e : ℕ) → (e ≡ 45) ⊎ (e ≡ 47) → is_ascii_digit e ≡ false
mark_no_digit e (inl p) = rw p refl
mark_no_digit e (inr p) = rw p refl

digit_no_blank : (c : ℕ) → is_ascii_digit c ≡ true → is_blank c ≡ false
digit_no_blank c h = grind (arith, nat_tests, h)

digit_host : (c : ℕ) → is_ascii_digit c ≡ true → begins_host c ≡ true
digit_host c h = grind (arith, nat_tests, h)

pub digit_is : (c k : ℕ) → is_ascii_digit c ≡ true → is_ascii_digit k ≡ false → c ≡ k → ⊥
digit_is c k h n is = let bad : true ≡ false = sym h ∙ ap is_ascii_digit is ∙ n in cc

-- two digits begin no node
no_node_at : (a b : ℕ) (more : Text) → is_ascii_digit a ≡ true → is_ascii_digit b ≡ true → NoFront node (a ∷ b ∷ more)
no_node_at a b more h k p q v e ((w, g, is), inl (r, f)) =
    digit_is a 82 h refl (at 0 (e ∙ ap (λ (x : Text). x ++ q) (sym is ∙ f.whole ∙ ap (λ (x : Text). x ++ r) f.is)))
no_node_at a b more h k p q v e ((w, g, is), inr (inl (r, f))) =
    digit_is a 76 h refl (at 0 (e ∙ ap (λ (x : Text). x ++ q) (sym is ∙ f.whole ∙ ap (λ (x : Text). x ++ r) f.is)))
no_node_at a b more h k p q v e ((w, g, is), inr (inr (r, f))) =
    digit_is b 47 k refl (at 1 (e ∙ ap (λ (x : Text). x ++ q) (sym is ∙ f.whole ∙ ap (λ (x : Text). x ++ r) f.is)))

word_mnemonic : (a : ℕ) (p q more : Text) → is_ascii_digit a ≡ true → a ∷ more ≡ p ++ q → IsMnemonic p → ⊥
word_mnemonic a [] q more h e m = m
word_mnemonic a (c ∷ []) q more h e m = m
word_mnemonic a (c ∷ d ∷ p) q more h e m =
    let same : a ≡ c = at 0 e in grind (arith, nat_tests, h, same, m)

word_host : (a : ℕ) (p v q : Text) {more : Text} → a ∷ more ≡ p ++ q → bare_word.Is p q v → is_ascii_digit a ≡ true
    → BeginsWith begins_host v
word_host a [] v q e (w, h, is) k = absurd (let some = h.0 in omega (arith, some))
word_host a (c ∷ p) v q e (w, h, is) k = let same : a ≡ c = at 0 e in
    rw is (digit_host c (subst (λ (x : ℕ). is_ascii_digit x ≡ true) same k))

no_capital : (a : ℕ) (more : Text) → is_ascii_digit a ≡ true → BeginsWith is_capital (a ∷ more) → ⊥
no_capital a more h k = grind (arith, nat_tests, h, k)

digit_no_colon : (c : ℕ) → is_ascii_digit c ≡ true → not (nat_eq c 58) ≡ true
digit_no_colon c h = grind (arith, nat_tests, h)

module _ {t : Text} (m : HasIso t) where
  pub year_front : Front (some_run is_ascii_digit) t (m.e ∷ m.more) tt
  year_front = front_of (m.a ∷ m.b ∷ m.c ∷ m.d ∷ []) m.is (omega arith, m.digits, mark_no_digit m.e m.part)

  no_colon : NoFront (exactly (58 ∷ [])) (m.e ∷ m.more)
  no_colon p q v e h = mark_apart m.e 58 m.part (inr (inr refl)) (at 0 (e ∙ ap (λ (x : Text). x ++ q) h))

  iso_no_counter : NoFront (Row counter_row) t
  iso_no_counter = no_row counter_row counter_row_det (year_front past inl no_colon)

  pub no_char : (c : ℕ) → is_ascii_digit c ≡ false → NoFront (exactly (c ∷ [])) t
  no_char c n p q v e h = digit_is m.a c m.digits.0 n (at 0 (sym m.is ∙ e ∙ ap (λ (x : Text). x ++ q) h))

  pub no_blank : Front (run is_blank) t t tt
  no_blank = record { piece = []; whole = refl; is = (tt, rw m.is (digit_no_blank m.a m.digits.0)) }

  -- no colon with blanks after it follows the word
  no_colon_gap : {u w : Text} → Front (exactly (58 ∷ [])) m.left u tt → Front (some_run is_blank) u w tt → ⊥
  no_colon_gap {u} c g = elim m.ends [
    | inl tied ↦ (
        let is : tied.x ∷ tied.more ≡ u = ap (λ (x : Text). drop 1 x) (sym tied.is ∙ begins 58 m.left u c) in
        let blank : Begins IsBlank (tied.x ∷ tied.more) = subst (λ (x : Text). Begins IsBlank x) (sym is)
        (blanks_begin g) in
        let visible = digit_no_blank tied.x tied.digit in
        let bad : false ≡ true = sym visible ∙ blank in cc
        )
    | inr spaced ↦ (let bad : 32 ≡ 58 = at 0 (sym spaced.is ∙ begins 58 m.left u c) in omega (arith, bad))
  ]

  iso_no_address : NoFront address t
  iso_no_address = rw m.is (no_address (m.a ∷ m.b ∷ m.c ∷ m.d ∷ []) m.e m.more
      (each_map is_ascii_digit (λ c. not (nat_eq c 58)) digit_no_colon (m.a ∷ m.b ∷ m.c ∷ m.d ∷ []) m.digits)
      (elim m.part [ inl dash ↦ rw dash refl | inr slash ↦ rw slash refl ]))

  -- the day of the month ends the name of a device
  pub iso_origin : Front origin t m.left m.word
  iso_origin = word_is_origin iso_no_address m.found
      (word_host m.a m.found.piece m.word m.left (sym m.is ∙ m.found.whole) m.found.is m.digits.0)

  iso_no_label : NoFront label t
  iso_no_label p q v e (vs, h, is) =
      let (u, o, (w, c, (x, g, more))) = row_pieces label_row (front_of p e h) in
      let same = (front_same origin origin_det o iso_origin).0 in
      no_colon_gap (subst (λ (y : Text). Front (exactly (58 ∷ [])) y w tt) same c) g

  iso_no_uptime : NoFront uptime t
  iso_no_uptime = no_otherwise (no_row run_clock_row run_clock_row_det (year_front past inl no_colon))
      (λ p q vs e h. let (u, o, (w, c, (x, g, more))) = row_pieces run_word_row (front_of p e h) in
      let same = (front_same bare_word bare_word_det (front_of o.piece o.whole o.is.0) m.found).0 in
      no_colon_gap (subst (λ (y : Text). Front (exactly (58 ∷ [])) y w tt) same c) g)

  iso_no_mnemonic : NoFront mnemonic t
  iso_no_mnemonic p q v e ((w, h, is), k) =
      word_mnemonic m.a p q _ m.digits.0 (sym m.is ∙ e) (subst IsMnemonic is k)

  iso_no_weekday : NoFront weekday t
  iso_no_weekday p q v e ((w, h, is), k) = no_capital m.a (m.b ∷ m.c ∷ m.d ∷ m.e ∷ m.more) m.digits.0 (subst (λ (x :
      Text). BeginsWith is_capital x)
      (ap (λ (x : Text). x ++ q) is ∙ sym e ∙ m.is) (day_capital v q k))

  month_not_first : NoFront (Row month_first_row) t
  month_not_first p q vs e h =
      let (u, x, (w, y, more)) = row_pieces month_first_row (front_of p e h) in
      let (n, is, fits) = y.is in
      let two = pair_digits x.piece u _ x.is in
      digit_is m.c 47 m.digits.1.1.0 refl (at 2 (sym m.is ∙ x.whole ∙ ap (λ (z : Text). z ++ u) two.is
      ∙ ap (λ (z : Text). two.x ∷ two.y ∷ z) (y.whole ∙ ap (λ (z : Text). z ++ w) is)))

  -- a day with slashes has no `T` before the colon, and no space
  year_not_first : (s q : Text) {vs : Values year_first_row} → q ≡ 58 ∷ s → Front (Row year_first_row) t q vs → ⊥
  year_not_first s q follows f =
      let (u, x, (v, y, (w, z, ends))) = row_pieces year_first_row f in
      let y4 = year_digits x.piece u _ x.is in
      let year : Each is_slashed x.piece = rw y4.is (digits_slashed (y4.a ∷ y4.b ∷ y4.c ∷ y4.d ∷ []) y4.digits) in
      let month = slashed_two y.piece v _ y.is in
      let day = slashed_two z.piece w _ z.is in
      let left : w ≡ 58 ∷ s = ends ∙ follows in
      let at_day : Front bare_word v w z.piece = subst (λ (k : Text). Front bare_word k w z.piece) (sym z.whole)
      (word_of z.piece w (two_long z.piece w _ z.is) (slashed_tags z.piece day) (rw left refl)) in
      let at_month : Front bare_word u w (y.piece ++ z.piece) = subst
      (λ (k : Text). Front bare_word k w (y.piece ++ z.piece)) (sym y.whole)
      (longer y.piece (slashed_tags y.piece month) at_day) in
      let found : Front bare_word t w (x.piece ++ (y.piece ++ z.piece)) = subst
      (λ (k : Text). Front bare_word k w (x.piece ++ (y.piece ++ z.piece))) (sym x.whole)
      (longer x.piece (slashed_tags x.piece year) at_month) in
      let same = front_same bare_word bare_word_det found m.found in
      elim m.ends [
        | inl tied ↦ m.marked tied (subst (λ (k : Text). Each is_slashed k) same.1
            (each_append is_slashed x.piece _ year (each_append is_slashed y.piece z.piece month day)))
        | inr spaced ↦ absurd (omega (arith, at 0 (sym left ∙ same.0 ∙ spaced.is)))
      ]

  no_slashed_date : NoFront slashed_date t
  no_slashed_date = no_mapped (Row slashed_row) SentDate slashed_of (λ p q vs e h.
      let (u, x, (w, y, more)) = row_pieces slashed_row (front_of p e h) in
      let (n, is, fits) = y.is in
      no_slashed_day x.piece u (n ++ w) (y.whole ∙ ap (λ (z : Text). z ++ w) is) x.whole x.is) where
        no_slashed_day : (p q s : Text) {v : slashed_day.Value} → q ≡ 58 ∷ s → t ≡ p ++ q → slashed_day.Is p q v → ⊥
        no_slashed_day p q s follows e (inl v, h, i) = month_not_first p q v e h
        no_slashed_day p q s follows e (inr v, (n, h), i) = year_not_first s q follows (front_of p e h)

  no_colon_date : NoFront (Row colon_row) t
  no_colon_date p q vs e h = let (u, x, (w, y, more)) = row_pieces colon_row (front_of p e h) in
      let (n, is, fits) = y.is in
      let y4 = year_digits x.piece u _ x.is in
      mark_apart m.e 58 m.part (inr (inr refl)) (at 4 (sym m.is ∙ x.whole ∙ ap (λ (z : Text). z ++ u) y4.is
      ∙ ap (λ (z : Text). y4.a ∷ y4.b ∷ y4.c ∷ y4.d ∷ z) (y.whole ∙ ap (λ (z : Text). z ++ w) is)))

  iso_no_year : NoFront year_date t
  iso_no_year = no_mapped (Row year_date_row) SentDate (λ v. dated_in (Some v.0) v.1.0)
      (no_row year_date_row year_date_det
      (inl (no_mapped (Row front_year_row) ℕ _ no_year_first))) where
        no_year_first : NoFront (Row front_year_row) t
        no_year_first p q vs e h = let (u, x, (w, y, more)) = row_pieces front_year_row (front_of p e h) in
            let y4 = year_digits x.piece u _ x.is in
            let is : m.e ∷ m.more ≡ u = ap (λ (z : Text). drop 4 z) (sym m.is ∙ x.whole ∙ ap (λ (z : Text). z ++ u)
            y4.is) in
            let blank : Begins IsBlank (m.e ∷ m.more) = subst (λ (z : Text). Begins IsBlank z) (sym is) (blanks_begin
            y) in
            let bad : false ≡ true = sym (mark_no_blank m.e m.part) ∙ blank in cc

  no_unix_date : NoFront unix_date t
  no_unix_date = no_mapped (Row unix_row) SentDate unix_of no_unix where
    no_unix : NoFront (Row unix_row) t
    no_unix p q vs e h = let (u, s, (w, f, more)) = row_pieces unix_row (front_of p e h) in
        let same : u ≡ m.e ∷ m.more = (front_same (some_run is_ascii_digit) (some_run_det is_ascii_digit)
        (front_of s.piece s.whole (s.is.0.0, s.is.0.1, s.is.0.2)) year_front).0 in
        let (ks, k, i) = f.is in
        let (v, o, rest) = row_pieces fraction_row (front_of f.piece f.whole k) in
        no_point o.piece v _ (sym same ∙ o.whole) o.is where
          no_point : NoFront point (m.e ∷ m.more)
          no_point p q (inl v) e h = mark_apart m.e 46 m.part (inr (inl refl)) (at 0 (e ∙ ap (λ (x : Text). x ++ q) h))
          no_point p q (inr v) e h = mark_apart m.e 44 m.part (inl refl) (at 0 (e ∙ ap (λ (x : Text). x ++ q) h))

  no_meraki : NoFront (Row (drop 1 meraki_row)) t
  no_meraki p q vs e h = let (u, c, (w, g, more)) = row_pieces (drop 1 meraki_row) (front_of p e h) in
      let is : m.b ∷ m.c ∷ m.d ∷ m.e ∷ m.more ≡ u = ap (λ (x : Text). drop 1 x) (sym m.is ∙ begins 49 t u c) in
      let blank : Begins IsBlank (m.b ∷ m.c ∷ m.d ∷ m.e ∷ m.more) = subst (λ (x : Text). Begins IsBlank x) (sym is)
      (blanks_begin g) in
      let visible = digit_no_blank m.b m.digits.1.0 in
      let bad : false ≡ true = sym visible ∙ blank in cc

  pub begins_iso : BeginsOtherwise t
  begins_iso = record {
    no_gap = no_blank;
    no_colon = no_char 58 refl;
    no_bracket = no_char 91 refl;
    no_counter = iso_no_counter;
    no_label = iso_no_label;
    no_uptime = iso_no_uptime;
    no_mnemonic = iso_no_mnemonic;
    no_weekday = iso_no_weekday;
    no_slashed_date = no_slashed_date;
    no_colon_date = no_mapped (Row colon_row) SentDate colon_of no_colon_date;
    no_year_date = iso_no_year;
    no_unix_date = no_unix_date;
    no_meraki = no_meraki;
  }

-- ---- the forms with another beginning

module _ {text t : Text} (gap : Front (run is_blank) text t tt) (m : HasIso t) where
  -- a name and blanks are before the hour, where the date has a space, and no node is there
  no_card : NoFront (Row card_row) text
  no_card = elim m.ends [
    | inl tied ↦ no_row card_row card_row_det (gap past optional_none (Row counter_row) (iso_no_counter m)
        past optional_none host (no_mapped (Row host_row) Text _ (no_row host_row host_row_det
        (iso_origin m past inl (no_gap tied))))
        past inl (subst (λ (x : Text). NoFront node x) (sym m.is)
        (no_node_at m.a m.b _ m.digits.0 m.digits.1.0)))
    | inr spaced ↦ no_row card_row card_row_det (gap past optional_none (Row counter_row) (iso_no_counter m)
        past optional_some host (mapped_front (Row host_row) Text (λ v. v.0) (row_of host_row
        (iso_origin m then one_gap spaced then refl)))
        past inl (no_node_at spaced.x spaced.y _ spaced.first spaced.second))
  ] where
    no_gap : (tied : IsTied m.left) → NoFront (some_run is_blank) m.left
    no_gap tied = no_run is_blank m.left (rw tied.is refl) (some_run is_blank) (λ p q v h. (h.0, h.1))

    one_gap : (spaced : IsSpaced m.left)
        → Front (some_run is_blank) m.left (spaced.x ∷ spaced.y ∷ 58 ∷ spaced.more) tt
    one_gap spaced = front_of (32 ∷ []) spaced.is (omega arith, (refl, tt), digit_no_blank spaced.x spaced.first)

  pub iso_no_xr : NoDivision xr_row text
  iso_no_xr = no_row_division xr_row (no_row xr_row xr_row_det (inl (no_mapped (Row card_row) (Option Text) host_in
      no_card)))
