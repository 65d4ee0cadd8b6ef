-- Pairs of a key and a value: one front of each class, what is noted of them, and the date that they show.
use Rattle.syslog_named_forms.proofs.Names.{[], ◌++◌, ◌<◌, ◌also◌, ◌otherwise◌, ◌past◌, ◌then◌, ◌∙◌, ◌∷◌, ◌≡◌}
use Rattle.syslog_named_forms.proofs.Names.{after_det, AllDeterministic, ap, arith, bare, Bool, chars, Class, clock_row}
use Rattle.syslog_named_forms.proofs.Names.{day_row, drop, either_text, exactly, exactly_det, false, Front, front_of}
use Rattle.syslog_named_forms.proofs.Names.{front_same, heads, inl, inr, is_blank, is_not_whitespace, is_unquoted}
use Rattle.syslog_named_forms.proofs.Names.{is_word_char, IsDeterministic, iso_date, iso_date_det, IsOnlySent, IsShown}
use Rattle.syslog_named_forms.proofs.Names.{length, List, listed, listed_row, loose, many, many_det, mapped_det}
use Rattle.syslog_named_forms.proofs.Names.{nat_tests, next_row, no_front_no, no_row, no_row_division, no_texted}
use Rattle.syslog_named_forms.proofs.Names.{NoDivision, NoFront, None, Noted, noted, noted_more, offset_row, Option}
use Rattle.syslog_named_forms.proofs.Names.{optional, optional_det, otherwise_det, pair_of, part_row, quoted, quoted_of}
use Rattle.syslog_named_forms.proofs.Names.{quoted_row, refl, Row, row_det, row_head, row_of, run, run_det, says_once}
use Rattle.syslog_named_forms.proofs.Names.{SentDate, SentValue, Some, some_run, some_run_det, SplitsRun, subst, sym}
use Rattle.syslog_named_forms.proofs.Names.{Text, texted, texted_det, true, unquoted, Values, year_det, ℕ}
use Rattle.std.proofs.Common.{ℤ, length-append, append-nil}
use Rattle.std.proofs.lemmas.Bool.{cases_Bool}
use Rattle.syslog_text.specs.Pieces.Class.{Division}
use Rattle.syslog_pieces.specs.Timestamp.Rfc3339.{pair as two, seconds_of, sign}
use Rattle.syslog_text.proofs.PieceLemmas.Class.{division_front, front_division, front_longer, unique_division}
use Rattle.syslog_pieces.proofs.TimestampLemmas.Rfc3339.{pair_det as two_det}
use Rattle.syslog_named_forms.specs.Pairs.{pair, pair_row, value, first_value, may_be_noted, or_value, IsApart}
use Rattle.syslog_named_forms.specs.Pairs.{IsTogether, IsMoment, IsOffset, at_offset, paired, pairs_row, pairs_form}
use Rattle.syslog_named_forms.specs.Pairs.{is_date_key, is_time_key, is_zone_key, is_host_key, is_stamp_key}
use Rattle.syslog_sent.specs.declared.dialect.Dialect.TheVariants.{KeyValue}
use Rattle.syslog_sent.proofs.DateLemmas.{fraction_row_det}
use Rattle.syslog_sent.specs.Date.{fraction, fraction_row}

-- ---- runs

-- a run, perhaps empty, as its text
pub run_texted : (test : ℕ → Bool) {bs xs ys : List ℕ} → SplitsRun test bs xs ys
    → Front (texted (run test)) (chars bs) (chars ys) (chars xs)
run_texted test {xs = xs} s = front_of (chars xs) s.characters (tt, (s.each, s.ends), refl)

-- ---- one front of each

pub quoted_det : AllDeterministic quoted_row
quoted_det = exactly_det _ also texted_det (run is_unquoted) (run_det is_unquoted) also exactly_det _ also tt

pub part_det : AllDeterministic part_row
part_det = exactly_det _ also some_run_det is_word_char also tt

pub listed_row_det : AllDeterministic listed_row
listed_row_det = let more = optional_det (Row part_row) (row_det part_row part_det) in
    some_run_det is_word_char also more also more also tt

pub next_det : AllDeterministic next_row
next_det = exactly_det _ also some_run_det is_word_char also exactly_det _ also tt

listed_text_det : IsDeterministic (texted (Row listed_row))
listed_text_det = texted_det (Row listed_row) (row_det listed_row listed_row_det)

listed_det : IsDeterministic listed
listed_det p q p' q' v v' e h h' = listed_text_det p q p' q' v v' e h.0 h'.0

pub listed_front : {t q r v : Text} {w : Values next_row} → Front (texted (Row listed_row)) t q v
    → Front (Row next_row) q r w → Front listed t q v
listed_front {r = r} {w = w} f g = front_of f.piece f.whole (f.is, (r, w, g))

pub no_listed : {t : Text} → NoFront (Row listed_row) t → NoFront listed t
no_listed n p q v e h = no_texted (Row listed_row) n p q v e h.0

-- where no pair follows it
pub not_listed : {t q : Text} {v : Values listed_row} → Front (Row listed_row) t q v → NoFront (Row next_row) q
    → NoFront listed t
not_listed f n p q v e ((u, is, same), (r, w, g)) =
    let one = (front_same (Row listed_row) (row_det listed_row listed_row_det) (front_of p e is) f).0 in
    no_front_no (Row next_row) n (subst (λ (x : Text). Front (Row next_row) x r w) one g)

pub unquoted_det : IsDeterministic unquoted
unquoted_det = mapped_det (listed otherwise bare) Text either_text (otherwise_det listed_det
    (texted_det (run is_not_whitespace) (run_det is_not_whitespace)))

pub value_det : IsDeterministic value
value_det = mapped_det (quoted otherwise unquoted) Text either_text (otherwise_det
    (mapped_det (Row quoted_row) Text quoted_of (row_det quoted_row quoted_det)) unquoted_det)

pub pair_row_det : AllDeterministic pair_row
pair_row_det = run_det is_blank also optional_det (exactly (44 ∷ [])) (exactly_det _)
    also texted_det (some_run is_word_char) (some_run_det is_word_char) also exactly_det _
    also value_det also tt

pub pair_det : IsDeterministic pair
pair_det = mapped_det (Row pair_row) (Text × Text) pair_of (row_det pair_row pair_row_det)

pub day_det : AllDeterministic day_row
day_det = year_det also after_det (two 100) (two_det 100 (omega arith)) also after_det (two 100)
    (two_det 100 (omega arith))
    also tt

pub clock_det : AllDeterministic clock_row
clock_det = two_det 100 (omega arith) also after_det (two 100) (two_det 100 (omega arith))
    also after_det (two 61) (two_det 61 (omega arith))
    also optional_det fraction (mapped_det (Row fraction_row) ℕ _ (row_det fraction_row fraction_row_det)) also tt

pub together_det : AllDeterministic (iso_date ∷ [])
together_det = iso_date_det also tt

signs_differ : (p q p' q' : Text) (a b : ℕ) → (a ≡ b → ⊥) → p ++ q ≡ p' ++ q' → p ≡ a ∷ [] → p' ≡ b ∷ [] → ⊥
signs_differ p q p' q' a b n e h h' = n (heads a b q q'
    (sym (ap (λ (x : Text). x ++ q) h) ∙ e ∙ ap (λ (x : Text). x ++ q') h'))

sign_det : IsDeterministic sign
sign_det p q p' q' true true e h h' = (h ∙ sym h', refl)
sign_det p q p' q' false false e h h' = (h ∙ sym h', refl)
sign_det p q p' q' true false e h h' = absurd (signs_differ p q p' q' 45 43 (λ k. omega arith) e h h')
sign_det p q p' q' false true e h h' = absurd (signs_differ p q p' q' 43 45 (λ k. omega arith) e h h')

pub no_sign : {t : Text} → NoFront (exactly (45 ∷ [])) t → NoFront (exactly (43 ∷ [])) t → NoFront sign t
no_sign n m p q true e h = n p q tt e h
no_sign n m p q false e h = m p q tt e h

pub offset_det : AllDeterministic offset_row
offset_det = sign_det also two_det 24 (omega arith) also two_det 60 (omega arith) also tt

-- ---- the pairs of a text

some_shorter : {test : ℕ → Bool} {t q : Text} {v : Text} → Front (texted (some_run test)) t q v → length q < length t
some_shorter {q = q} f = omega (arith, ap length f.whole, length-append f.piece q, f.is.1.0)

pub pair_shorter : {t q : Text} {v : Text × Text} → Front pair t q v → length q < length t
pair_shorter {t} {q} f =
    let g : Front (Row pair_row) t q f.is.0 = front_of f.piece f.whole f.is.1 in
    let (u, a, g1) = row_head (run is_blank) (drop 1 pair_row) g in
    let (w, o, g2) = row_head (optional (exactly (44 ∷ []))) (drop 2 pair_row) g1 in
    let (s, b, g3) = row_head (texted (some_run is_word_char)) (exactly (61 ∷ []) ∷ value ∷ []) g2 in
    omega (
      arith,
      front_longer (run is_blank) a,
      front_longer (optional (exactly (44 ∷ []))) o,
      some_shorter b,
      front_longer (Row (exactly (61 ∷ []) ∷ value ∷ [])) g3,
    )

-- ---- what is noted

pub first_more : (f : Text → Bool) (ps : List (Text × Text)) (k v : Text)
    → first_value f (ps ++ (k, v) ∷ []) ≡ or_value (first_value f ps) (f k) v
first_more f [] k v = elim (cases_Bool (f k)) [ inl e ↦ rw e refl | inr e ↦ rw e refl ]
first_more f ((j, u) ∷ ps) k v = elim (cases_Bool (f j)) [
  | inl e ↦ rw e refl
  | inr e ↦ rw e (first_more f ps k v)
]

pub noted_push : (ps : List (Text × Text)) (p : Text × Text) → noted (ps ++ p ∷ []) ≡ noted_more (noted ps) p.0 p.1
noted_push ps (k, v) =
    let a = first_more is_date_key ps k v in
    let b = first_more is_time_key ps k v in
    let c = first_more is_zone_key ps k v in
    let d = first_more is_host_key ps k v in
    let e = first_more is_stamp_key ps k v in
    rw (a, b, c, d, e) refl

or_same : (o : Option Text) (v : Text) → or_value o false v ≡ o
or_same (Some t) v = refl
or_same None v = refl

unnoted_key : (key : Text) → false ≡ may_be_noted key → (is_date_key key ≡ false) × (is_time_key key ≡ false)
    × (is_stamp_key key ≡ false) × (is_zone_key key ≡ false) × (is_host_key key ≡ false)
unnoted_key [] h = (refl, refl, refl, refl, refl)
unnoted_key (c ∷ more) h = (
  grind (arith, nat_tests, h),
  grind (arith, nat_tests, h),
  grind (arith, nat_tests, h),
  grind (arith, nat_tests, h),
  grind (arith, nat_tests, h),
)

-- a key that begins otherwise notes nothing
pub unnoted : (n : Noted) (key v : Text) → false ≡ may_be_noted key → n ≡ noted_more n key v
unnoted n key v h =
    let (d, t, s, z, o) = unnoted_key key h in
    rw (d, t, s, z, o, or_same n.date v, or_same n.time v, or_same n.stamp v, or_same n.zone v, or_same n.hostname v)
    refl

-- ---- whole texts

pub whole_is : (Cs : List Class) {t q : Text} {vs : Values Cs} → Front (Row Cs) t q vs → q ≡ [] → Division Cs t vs
whole_is Cs {t} {q} {vs} f e = front_division Cs (subst (λ (x : Text). Front (Row Cs) t x vs) e f)

pub not_whole : (Cs : List Class) → AllDeterministic Cs → {t q : Text} {vs : Values Cs} {c : ℕ} {more : Text}
    → Front (Row Cs) t q vs → q ≡ c ∷ more → NoDivision Cs t
not_whole Cs det f e ws d =
    let same = (front_same (Row Cs) (row_det Cs det) f (division_front Cs d)).0 in cc

-- ---- the date that is shown

apart_once : (d t : Text) (x y : SentDate) → IsApart d t x → IsApart d t y → x ≡ y
apart_once d t x y (day, clock, a, b, e) (day', clock', a', b', e') =
    let same_day : day ≡ day' = (unique_division day_row day_det a a').1 in
    let same_clock : clock ≡ clock' = (unique_division clock_row clock_det b b').1 in
    e ∙ rw (same_day, same_clock) refl ∙ sym e'

together_once : (t : Text) (x y : SentDate) → IsTogether t x → IsTogether t y → x ≡ y
together_once t x y a b =
    ap (λ (vs : Values (iso_date ∷ [])). vs.0) (unique_division (iso_date ∷ []) together_det a b).1

moment_once : (time date stamp : Option Text) (x y : SentDate) → IsMoment time date stamp x → IsMoment time date stamp y
    → x ≡ y
moment_once (Some t) (Some d) stamp x y a b = apart_once d t x y a b
moment_once (Some t) None stamp x y a b = together_once t x y a b
moment_once None date (Some s) x y a b = together_once s x y a b
moment_once None date None x y a b = absurd a

offset_once : (zone : Option Text) (o o' : Option ℤ) → IsOffset zone o → IsOffset zone o' → o ≡ o'
offset_once None o o' a a' = a ∙ sym a'
offset_once (Some t) None None a a' = refl
offset_once (Some t) None (Some s) a (vs, d, e) = absurd (a vs d)
offset_once (Some t) (Some s) None (vs, d, e) a = absurd (a vs d)
offset_once (Some t) (Some s) (Some s') (vs, d, e) (vs', d', e') =
    let same = (unique_division offset_row offset_det d d').1 in
    ap (λ (x : ℤ). Some x) (e ∙ ap (λ (v : Values offset_row). seconds_of v) same ∙ sym e')

pub shown_once : (n : Noted) (d d' : SentDate) → IsShown n d → IsShown n d' → d ≡ d'
shown_once n d d' a b =
    let date = moment_once n.time n.date n.stamp a.shown b.shown a.moment b.moment in
    let offset = offset_once n.zone a.other b.other a.offset b.offset in
    a.is ∙ rw (date, offset) refl ∙ sym b.is

pub shown_at : (n : Noted) (shown : SentDate) (other : Option ℤ) (d : SentDate) → d ≡ at_offset shown other
    → IsMoment n.time n.date n.stamp shown → IsOffset n.zone other → IsShown n d
shown_at n shown other d e m o = record { shown = shown; other = other; moment = m; offset = o; is = e }

-- ---- the line

paired_det : IsDeterministic paired
paired_det p q p' q' v v' e (z, w, (ps, r, f, s, h)) (z', w', (ps', r', f', s', h')) =
    let whole : p ≡ p' = sym (append-nil p) ∙ ap (λ (x : Text). p ++ x) (sym z) ∙ e ∙ ap (λ (x : Text). p' ++ x) z'
    ∙ append-nil p' in
    let same = (front_same (many pair) (many_det pair pair_det)
    (subst (λ (x : Text). Front (many pair) x r ps) whole f) f').1 in
    let shown = shown_once (noted ps') v.0 v'.0 (subst (λ (x : List (Text × Text)). IsShown (noted x) v.0) same s) s' in
    let host = h ∙ ap (λ (x : List (Text × Text)). (noted x).hostname) same ∙ sym h' in
    let text = w ∙ whole ∙ sym w' in
    (whole, (rw (shown, host, text) refl))

pub pairs_det : AllDeterministic pairs_row
pairs_det = run_det is_blank also paired_det also tt

module _ {text msg : Text} (gap : Front (run is_blank) text msg tt) {ps : List (Text × Text)} {r : Text}
    (f : Front (many pair) msg r ps) where
  pub no_pairs : ((d : SentDate) → IsShown (noted ps) d → ⊥) → NoDivision pairs_row text
  no_pairs n = no_row_division pairs_row (no_row pairs_row pairs_det (gap past inl none))
    where
      none : NoFront paired msg
      none p q v e (z, w, (qs, u, g, s, h)) =
          let whole : msg ≡ p = e ∙ ap (λ (x : Text). p ++ x) z ∙ append-nil p in
          let same = (front_same (many pair) (many_det pair pair_det)
          (subst (λ (x : Text). Front (many pair) x r ps) whole f) g).1 in
          n v.0 (subst (λ (x : List (Text × Text)). IsShown (noted x) v.0) (sym same) s)

  pub pairs_said : {d : SentDate} {s : SentValue} → IsShown (noted ps) d
      → s ≡ loose (Some d) (noted ps).hostname None None msg → IsOnlySent pairs_form text s
  pairs_said {d} {s} h e =
      let line : Front paired msg [] (d, (noted ps).hostname, msg) = front_of msg (sym (append-nil msg))
      (refl, refl, (ps, r, f, h, refl)) in
      says_once KeyValue pairs_row (λ vs. loose (Some vs.1.0.0) vs.1.0.1 None None vs.1.0.2) pairs_det
      (row_of pairs_row (gap then line then refl)) e
