-- A text has one front of each class of the grammar; and elements of the grammar are what elements with such names and
-- values print.
use Rattle.syslog_strict.proofs.Words.{◌≡◌, ◌≢◌, inl, inr, ℕ, ◌+◌, ◌/◌, ◌<◌, Bool, true, false, List, [], ◌∷◌, ◌++◌}
use Rattle.syslog_strict.proofs.Words.{length, map, refl, sym, ap, ◌∙◌, arith, append_assoc, AllByRecursion, Text, Ends}
use Rattle.syslog_strict.proofs.Words.{heads, AreDistinct, is_escaped, is_sd_char, flat_map, ElementValue}
use Rattle.syslog_strict.proofs.Words.{elements_text, joined_elements, element_text, param_text, Option}
use Rattle.syslog_strict.proofs.Words.{Some, None, Bor, MatchOption, subst, shown}
use Rattle.syslog_text.proofs.PieceLemmas.Class.{match_map, no_spaced_piece, no_spaced_space, spaced_front}
use Rattle.syslog_text.proofs.PieceLemmas.Class.{division_front, AllDeterministic, exactly_det}
use Rattle.syslog_text.proofs.PieceLemmas.Class.{piece_front, ◌also◌, row_det}
use Rattle.syslog_text.proofs.PieceLemmas.Class.{row_pieces, front_of, no_front_no, false_is, front_same}
use Rattle.syslog_text.proofs.PieceLemmas.Class.{front_division}
use Rattle.std.proofs.lemmas.List.{append_cancel_right, length-append}
use Rattle.std.specs.Prelude.{◌↔◌, IsTrue, MatchBool}
use Rattle.syslog_text.specs.Pieces.Class.{Class, Front, NoFront, IsDeterministic, Row, exactly, after, spaced}
use Rattle.syslog_text.specs.Pieces.Class.{Values}
use Rattle.syslog_text.specs.{Pieces.Lists.many, Pieces.Rules.◌or◌, Pieces.Rules.short_run, Pieces.View.Recognises}
use Rattle.syslog_text.specs.{Pieces.View.Skips}
use Rattle.syslog_elements.specs.StructuredData.Escapes.{TextUnit, pair, single, unit_text}
use Rattle.syslog_text.proofs.PieceLemmas.Rules.{Opens, Prints, after_prints, exactly_apart, many_prints, or_det}
use Rattle.syslog_text.proofs.PieceLemmas.Rules.{row_opens, such_det, none_left, second_of, first_of}
use Rattle.syslog_pieces.proofs.TimestampLemmas.Rfc3339.{small_pair_det, year_det}
use Rattle.syslog_pieces.specs.Timestamp.Rfc3339.{pair as two_digits, year}
use Rattle.syslog_strict.specs.Grammar.{IsValueUnit, sd_element, sd_elements, sd_param, sd_name, value_unit, param_row}
use Rattle.syslog_strict.specs.Grammar.{element_row, date_row, partial_time, time_numoffset, date_time, AreElements}
use Rattle.syslog_strict.specs.Grammar.{IsDate}
use Rattle.syslog_text.proofs.Determined.{determined}
use Rattle.syslog_strict.specs.Grammar as grammar

-- ---- readers

-- a reader of one text, or else one of another class
pub either_reads : (C D : Class) (v : C.Value) (t : Text) (r s : Option (Bor (List ℕ))) → Skips C v t r
    → MatchOption r (Recognises D t s) (λ x. s ≡ Some x) → Recognises (C or D) t s
either_reads C D v t None s n h = second_of C D s n h
either_reads C D v t (Some x) s f e = rw e (first_of f)

-- a reader of one character, and then one of what follows it
pub after_reads : (c : ℕ) (C : Class) (t : Text) (r s : Option (Bor (List ℕ))) → Skips (exactly (c ∷ [])) tt t r
    → MatchOption r (s ≡ None) (λ x. Recognises C (shown x) s) → Recognises (after c C) t s
after_reads c C t None s n e = rw e (no_spaced_space C n)
after_reads c C t (Some x) s f h = match_map s (no_spaced_piece C f) (λ y (v, g). (v, spaced_front C f g)) h

-- ---- one front of each class

sign_opens : Opens grammar.sign (λ d. d ≢ 90)
sign_opens p q (inl v) h = (43, [], h, omega arith)
sign_opens p q (inr v) h = (45, [], h, omega arith)

date_opens : Opens grammar.full_date (λ d. d ≢ 45)
date_opens p q vs (h, _) = row_opens year (after 45 (two_digits 100) ∷ after 45 (two_digits 100) ∷ []) (λ d. d ≢ 45)
    (λ p q n h. (48 + n / 100 / 10, _, h.0, omega arith)) p q vs h

sign_det : IsDeterministic grammar.sign
sign_det = or_det (exactly_det _) (exactly_det _) (exactly_apart 43
    (exactly (45 ∷ [])) (λ p q v h. (45, [], h, omega arith)))

ruleset of_times = (small_pair_det, year_det, sign_det, determined)

offset_det : IsDeterministic grammar.time_offset
offset_det = or_det (exactly_det _) (search of_times depth 60) (exactly_apart 90 (Row time_numoffset)
    (row_opens grammar.sign (grammar.time_hour ∷ after 58 grammar.time_minute ∷ []) (λ d. d ≢ 90) sign_opens))

timestamp_det : IsDeterministic grammar.timestamp
timestamp_det = or_det (exactly_det _) (search (offset_det, of_times) depth 60) (exactly_apart 45 (Row date_time)
    (row_opens grammar.full_date (exactly (84 ∷ []) ∷ Row partial_time ∷ grammar.time_offset ∷ []) (λ d. d ≢ 45)
    date_opens))

plain_first : (d : ℕ) → is_escaped d ≡ false → 92 ≡ d → ⊥
plain_first d k e = let same = ap is_escaped e in cc

unit_det : IsDeterministic value_unit
unit_det p q p' q' (pair c) (pair d) e (f, a) (g, b) = (let h = rw (f, g) at e in cc, let h = rw (f, g) at e in cc)
unit_det p q p' q' (pair c) (single d) e (f, a) (g, b) =
    absurd (plain_first d b (heads _ _ _ _ (rw (f, g) at e)))
unit_det p q p' q' (single c) (pair d) e (f, a) (g, b) =
    absurd (plain_first c a (sym (heads _ _ _ _ (rw (f, g) at e))))
unit_det p q p' q' (single c) (single d) e (f, a) (g, b) = (let h = rw (f, g) at e in cc, let h = rw (f, g) at e in cc)

-- that one text has one front of each class of the grammar, as `search of_grammar depth 60` finds it
ruleset of_grammar = (unit_det, offset_det, timestamp_det, of_times)

pub pri_det : AllDeterministic grammar.pri
pri_det = search of_grammar depth 60

pub date_det : AllDeterministic date_row
date_det = search of_grammar depth 60

pub time_det : AllDeterministic partial_time
time_det = search of_grammar depth 60

pub numoffset_det : AllDeterministic time_numoffset
numoffset_det = search of_grammar depth 60

pub date_time_det : AllDeterministic date_time
date_time_det = search of_grammar depth 60

pub param_det : AllDeterministic param_row
param_det = search of_grammar depth 60

pub element_row_det : AllDeterministic element_row
element_row_det = search of_grammar depth 60

pub element_det : IsDeterministic sd_element
element_det = search of_grammar depth 60

-- ---- what they print

-- one to `most` characters that pass the test
abbrev pub IsSomeOf : (ℕ → Bool) → ℕ → Text → Type 0
IsSomeOf test most t = grammar.IsAll (short_run test most) t

abbrev pub IsSdName : Text → Type 0
IsSdName t = IsSomeOf is_sd_char 32 t

abbrev pub IsParamValue : Text → Type 0
IsParamValue t = (units : List TextUnit) × (t ≡ flat_map unit_text units) × AllByRecursion IsValueUnit units

-- a name and a value of the grammar
abbrev pub IsStrictParam : Text × Text → Type 0
IsStrictParam p = IsSdName p.0 × IsParamValue p.1

abbrev pub IsStrictElement : ElementValue → Type 0
IsStrictElement e = IsSdName e.id × AllByRecursion IsStrictParam e.params

pub no_unit : (c : ℕ) (r : Text) → c ≢ 92 → is_escaped c ≡ true → NoFront value_unit (c ∷ r)
no_unit c r other h p q (pair d) e (f, is) = other (heads c 92 r (d ∷ q) (rw f at e))
no_unit c r other h p q (single d) e (f, is) = let same = ap is_escaped (heads c d r q (rw f at e)) in cc

-- what a front of a known text is
whole_is : (C : Class) {t q : Text} {v : C.Value} (f : Front C t q v) (r : Text) → f.piece ≡ r → t ≡ r ++ q
whole_is C {q = q} f r e = f.whole ∙ ap (λ (x : Text). x ++ q) e

abbrev quoted : Text × Text → Text
quoted v = v.0 ++ (61 ∷ 34 ∷ (v.1 ++ (34 ∷ [])))

value_prints : (p q : Text) (units : List TextUnit) → (many value_unit).Is p q units
    ↔ ((p ≡ flat_map unit_text units) × AllByRecursion IsValueUnit units × NoFront value_unit q)
value_prints = many_prints value_unit unit_text IsValueUnit (λ p q u. (λ h. h, λ h. h))

param_prints : Prints sd_param quoted IsStrictParam
param_prints p q v = (
  (λ (vs, h, same).
      let (u1, f1, (u2, f2, (u3, f3, (u4, f4, (u5, f5, end))))) = row_pieces param_row
      (piece_front (Row param_row) p q vs h) in
      let (_, name, a) = f1.is in
      let (units, value, b) = f4.is in
      let (f, are, _) = (value_prints f4.piece u4 units).0 value in
      let g1 = whole_is _ f1 vs.0 (sym a) in
      let g2 = whole_is _ f2 (61 ∷ []) f2.is in
      let g3 = whole_is _ f3 (34 ∷ []) f3.is in
      let g4 = whole_is _ f4 vs.1.1.1.0 (sym b) in
      let g5 = whole_is _ f5 (34 ∷ []) f5.is in
      let whole : p ++ q ≡ quoted (vs.0, vs.1.1.1.0) ++ q =
      (let e : p ++ q ≡ vs.0 ++ (61 ∷ 34 ∷ (vs.1.1.1.0 ++ (34 ∷ q))) = cc in e ∙ sym (simp append_assoc refl)) in
      let text = append_cancel_right p (quoted (vs.0, vs.1.1.1.0)) q whole in
      rw same (text, ((rw a ((tt, (name.0, name.1, name.2, tt))), (units, b ∙ f, are))))),
  (λ (e, (name, (units, f, are))). (
    (v.0, (tt, (tt, (v.1, (tt, tt))))),
    (
      v.0 ∷ (61 ∷ []) ∷ (34 ∷ []) ∷ v.1 ∷ (34 ∷ []) ∷ [],
      e,
      (tt, (name.1.0, name.1.1, name.1.2, refl), refl) also refl also refl also
          (units, (value_prints v.1 (34 ∷ q) units).1 (f, are, no_unit 34 q (omega arith) refl), refl) also
          refl also tt,
    ),
    refl,
  )),
)

params_prints : (p q : Text) (ps : List (Text × Text)) → (many (spaced sd_param)).Is p q ps
    ↔ ((p ≡ flat_map param_text ps) × AllByRecursion IsStrictParam ps × NoFront (spaced sd_param) q)
params_prints = many_prints (spaced sd_param) param_text IsStrictParam
    (after_prints 32 sd_param quoted IsStrictParam param_prints)

params_end : (ps : List (Text × Text)) (q : Text) → Ends is_sd_char ((flat_map param_text ps ++ (93 ∷ [])) ++ q)
params_end [] q = refl
params_end (p ∷ ps) q = refl

element_prints : Prints sd_element element_text IsStrictElement
element_prints p q e = (
  (λ (vs, h, same).
      let (u1, f1, (u2, f2, (u3, f3, (u4, f4, end)))) = row_pieces element_row
      (piece_front (Row element_row) p q vs h) in
      let (_, name, a) = f2.is in
      let (f, are, _) = (params_prints f3.piece u3 vs.1.1.0).0 f3.is in
      let g1 = whole_is _ f1 (91 ∷ []) f1.is in
      let g2 = whole_is _ f2 vs.1.0 (sym a) in
      let g3 = whole_is _ f3 (flat_map param_text vs.1.1.0) f in
      let g4 = whole_is _ f4 (93 ∷ []) f4.is in
      let whole : p ++ q ≡ element_text (grammar.element_of vs)
      ++ q = (let w : p ++ q ≡ 91 ∷ (vs.1.0 ++ (flat_map param_text vs.1.1.0 ++ (93 ∷ q))) = cc in
      w ∙ sym (simp append_assoc refl)) in
      rw same (
        append_cancel_right p (element_text (grammar.element_of vs)) q whole,
        (rw a (tt, (name.0, name.1, name.2, tt)), are),
      )),
  (λ (w, (name, are)). (
    (tt, (e.id, (e.params, (tt, tt)))),
    (
      (91 ∷ []) ∷ e.id ∷ flat_map param_text e.params ∷ (93 ∷ []) ∷ [],
      w,
      refl also (tt, (name.1.0, name.1.1, name.1.2, params_end e.params q), refl) also
          (params_prints (flat_map param_text e.params) (93 ∷ q) e.params).1
          (refl, are, (λ p' q' v f (t, g, k). let h = heads 93 32 q (t ++ q') (rw g at f) in omega arith)) also
          refl also tt,
    ),
    refl,
  )),
)

pub elements_prints : (p q : Text) (es : List ElementValue) → (many sd_element).Is p q es
    ↔ ((p ≡ joined_elements es) × AllByRecursion IsStrictElement es × NoFront sd_element q)
elements_prints = many_prints sd_element element_text IsStrictElement element_prints

-- ---- STRUCTURED-DATA

pub element_shorter : {t q : Text} {e : ElementValue} → Front sd_element t q e → length q < length t
element_shorter {q = q} {e = e} f =
    let text = ((element_prints f.piece q e).0 f.is).0 in
    omega (arith, ap length f.whole, length-append f.piece q, ap length text)

-- there is no first element
pub no_elements : {t : Text} → NoFront sd_element t → NoFront sd_elements t
no_elements n p q es e (h, (some, apart)) =
    let none = ap length (none_left es n (front_of p e h)) in omega (arith, some, none)

elements_open : Opens sd_elements (λ d. d ≢ 45)
elements_open p q [] (h, (some, apart)) = absurd (omega arith)
elements_open p q (e ∷ es) (h, (some, apart)) = (91, _, ((elements_prints p q (e ∷ es)).0 h).0, omega arith)

data_det : IsDeterministic grammar.structured_data
data_det = or_det (exactly_det _) (such_det (many sd_element) AreElements (search of_grammar depth 60))
    (exactly_apart 45 sd_elements elements_open)

pub no_element : (c : ℕ) (q : Text) → c ≢ 91 → NoFront sd_element (c ∷ q)
no_element c q other p r e f h = other (heads c 91 q _ (f ∙ ap (λ (x : Text). x ++ r) ((element_prints p r e).0 h).0))

-- the elements of a text, or `-`, before what begins no element
pub data_front : (es : List ElementValue) (q : Text) → AllByRecursion IsStrictElement es
    → AreDistinct (map (λ (e : ElementValue). e.id) es) → NoFront sd_element q
    → (v : grammar.structured_data.Value) × Front grammar.structured_data (elements_text es ++ q) q v
data_front [] q are apart n = (inl tt, piece_front grammar.structured_data (45 ∷ []) q (inl tt) refl)
data_front (e ∷ es) q are apart n = (
  inr (e ∷ es),
  piece_front grammar.structured_data (joined_elements (e ∷ es)) q (inr (e ∷ es))
      ((elements_prints _ q (e ∷ es)).1 (refl, are, n), (omega arith, apart)),
)

-- ---- the whole

pub msg_det : AllDeterministic (grammar.header ++ grammar.body)
msg_det = search (data_det, of_grammar) depth 60

pub no_msg : {text : Text} → NoFront (Row (grammar.header ++ grammar.body)) text → grammar.IsSyslogMsg text → ⊥
no_msg n m = no_front_no (Row (grammar.header ++ grammar.body)) n
    (division_front (grammar.header ++ grammar.body) m.division)

-- whether nothing is left after a message
pub msg_told : {text q : Text} {vs : Values (grammar.header ++ grammar.body)} (is_end : Bool)
    → Front (Row (grammar.header ++ grammar.body)) text q vs → MatchBool is_end (q ≡ []) (0 < length q)
    → IsTrue is_end ↔ grammar.IsSyslogMsg text
msg_told {text = text} {vs = vs} true f none = (
  (λ h. record {
    values = vs;
    division = front_division (grammar.header ++ grammar.body)
        (subst (λ (x : Text). Front (Row (grammar.header ++ grammar.body)) text x vs) none f);
  }),
  (λ m. refl),
)
msg_told {q = q} false f some = false_is (λ m. absurd (let none : q ≡ [] = (front_same
    (Row (grammar.header ++ grammar.body)) (row_det (grammar.header ++ grammar.body) msg_det) f
    (division_front (grammar.header ++ grammar.body) m.division)).0 in omega (arith, some, ap length none)))
