-- The walk over an element: its steps, why a bracket inside a value decides it, and a value cut by bytes.
use Rattle.syslog_elements.proofs.Names.{append_cancel_right, IsUtf8-from_ascii, is_unescaped_char, is_not_whitespace}
use Rattle.syslog_elements.proofs.Names.{[], chars_past_char, encodes-append, AllByRecursion, IsCharBoundary}
use Rattle.syslog_elements.proofs.Names.{rows_none_here, length-append, encodes-chars, row_none_here, IsUtf8-append}
use Rattle.syslog_elements.proofs.Names.{is_inert_char, start, is_name_char, is_open_char, ElementValue, mapped_front}
use Rattle.syslog_elements.proofs.Names.{mapped_meets, byte_count, append_assoc, element_row, no_front_no, more_before}
use Rattle.syslog_elements.proofs.Names.{each_after, opening_row, ℕ, IsValueUnit, element_of, meets_none, meets_here}
use Rattle.syslog_elements.proofs.Names.{inside_row, name_alone, exactly, quoted_row, param_row, nil_front, SplitsRun}
use Rattle.syslog_elements.proofs.Names.{more_here, rows_join, no_mapped, ap, row_first, last_char, unit_text}
use Rattle.syslog_elements.proofs.Names.{more_goes, and_parts, eqb_tells, nat_tests, ◌≡◌, start_row, id_alone, row_goes}
use Rattle.syslog_elements.proofs.Names.{false_is, TextUnit, param_of, flat_map, is_blank, meets_on, each_map, tail_row}
use Rattle.syslog_elements.proofs.Names.{row_head, opening, closing, escaped, IsValue, ◌++◌, element, NoFront, single}
use Rattle.syslog_elements.proofs.Names.{◌also◌, row_of, ◌then◌, begins, get_or, length, IsUtf8, Values, inside, quoted}
use Rattle.syslog_elements.proofs.Names.{IsDead, IsTrue, value, param, Meets, arith, chars, Class, Front, false, subst}
use Rattle.syslog_elements.proofs.Names.{refl, take, Text, Each, pair, zero, Bool, true, List, ◌≢◌, ◌<◌, ◌⊎◌, inl, inr}
use Rattle.syslog_elements.proofs.Names.{◌∷◌, sym, ◌∙◌, ◌≤◌, ◌+◌, ◌-◌, Row, min, suc, map, ◌↔◌}
use Rattle.std.specs.Char.{encode_utf8}
use Rattle.syslog_text.proofs.PieceLemmas.Class.{row_cons, row_none_later, meets_none_on, rows_go, each_right, front_of}
use Rattle.syslog_elements.proofs.StructuredDataLemmas.Elements.{space_is_no_close, no_unit_at_end, no_quote_unit}
use Rattle.syslog_elements.proofs.StructuredDataLemmas.Elements.{opening_det, quoted_text, value_here, quoted_det}
use Rattle.syslog_elements.proofs.StructuredDataLemmas.{Elements.unit_goes, Elements.start_det, Units.unit_same}
use Rattle.syslog_text.proofs.TextLemmas.Runs.{one_ascii, rest_shorter, front_chars, front_cut}

-- ---- bytes, and where a bracket is in two joined texts
pub byte_count_slice : (bs : Text) → IsUtf8 bs → byte_count (chars bs) ≡ length bs
byte_count_slice bs u = ap length (encodes-chars bs u)

after_bracket : (a b : Text) → byte_count b < byte_count (a ++ (93 ∷ b))
unfolding encode_utf8
after_bracket a b = simp (encodes-append, length-append) (omega arith)

pub split_bracket : (p w a b : Text) → p ++ w ≡ a ++ (93 ∷ b) → ((c : Text) × (p ≡ a ++ (93 ∷ c)) × (b ≡ c ++ w))
    ⊎ ((c : Text) × (w ≡ c ++ (93 ∷ b)))
split_bracket [] w a b e = inr (a, e)
split_bracket (x ∷ p) w [] b e = inl (p, cc, cc)
split_bracket (x ∷ p) w (y ∷ a) b e =
    elim (split_bracket p w a b cc) [
      | inl (c, i, j) ↦ inl (c, (let k = i in cc), j)
      | inr (c, i) ↦ inr (c, i)
    ]

-- ---- dead brackets
pub dead_suffix : (t p x : Text) (d : ℕ) → t ≡ p ++ x → IsDead t d → IsDead x d
dead_suffix t p x d e h a b f l = h (p ++ a) b (e ∙ ap (λ (y : Text). p ++ y) f ∙ sym (append_assoc p a (93 ∷ b))) l

pub dead_whole : (t : Text) (d : ℕ) → d ≡ byte_count t → IsDead t d
dead_whole t d e a b f l = absurd (let k = after_bracket a b in let m = ap byte_count f in omega (arith, k, m))

pub dead_bytes : (bs : Text) → IsUtf8 bs → IsDead (chars bs) (length bs)
dead_bytes bs u = dead_whole (chars bs) (length bs) (sym (byte_count_slice bs u))

pub dead_least : (t : Text) (a b : ℕ) → IsDead t a → IsDead t b → IsDead t (min a b)
dead_least t a b i j p q e l x y v w h =
    let na : a ≤ byte_count q → ⊥ = λ k. i p q e k x y v w h in
    let nb : b ≤ byte_count q → ⊥ = λ k. j p q e k x y v w h in
    omega (arith, na, nb, l)

-- ---- the steps of an element
pub element_starts : {t u : Text} {vs : Values start_row} → Front start t u vs → Meets element t inside u
element_starts {t = t} {u = u} {vs = vs} f =
    meets_on (mapped_meets (Row element_row) ElementValue element_of t)
    (rows_go start_row inside_row start_det t u vs f)

pub element_read : {t u r id : Text} {ps : List (Text × Text)} → Front start t u (id_alone id)
    → Front inside u r (ps, (tt, tt)) → Front element t r (record { id = id; params = ps })
element_read f g = mapped_front (Row element_row) ElementValue element_of (rows_join start_row inside_row f g)

pub no_start : {t : Text} → NoFront start t → NoFront element t
no_start n = no_mapped (Row element_row) ElementValue element_of (rows_none_here start_row inside_row n)

pub param_opens : {t u : Text} {vs : Values opening_row} → Front opening t u vs → Meets param t quoted u
param_opens {t = t} {u = u} {vs = vs} f =
    meets_on (mapped_meets (Row param_row) (Text × Text) param_of t)
    (rows_go opening_row quoted_row opening_det t u vs f)

pub param_read : {t u q name v : Text} → Front opening t u (name_alone name) → Front quoted u q (v, (tt, tt))
    → Front param t q (name, v)
param_read f g = mapped_front (Row param_row) (Text × Text) param_of (rows_join opening_row quoted_row f g)

pub no_opening : {t : Text} → NoFront opening t → NoFront param t
no_opening n = no_mapped (Row param_row) (Text × Text) param_of (rows_none_here opening_row quoted_row n)

-- ---- values
pub quoted_goes : {t u : Text} → Meets value t value u → Meets quoted t quoted u
quoted_goes m = row_first value value (exactly (34 ∷ []) ∷ []) m

pub closing_goes : {t u : Text} → Meets quoted t quoted u → Meets closing t closing u
closing_goes m = row_first quoted quoted tail_row m

-- what is after a bracket inside a value is a value
value_end : (us : List TextUnit) (a b : Text) → AllByRecursion IsValueUnit us → flat_map unit_text us ≡ a ++ (93 ∷ b)
    → IsValue b
value_end [] a b h e = absurd (omega (arith, ap length e, length-append a (93 ∷ b)))
value_end (pair c ∷ us) [] b h e = absurd (let i : ◌≡◌ {A = ℕ} 92 93 = cc in omega arith)
value_end (pair c ∷ us) (x ∷ []) b h e = (us, cc, h.1)
value_end (pair c ∷ us) (x ∷ y ∷ a) b h e = value_end us a b h.1 (cc)
value_end (single c ∷ us) [] b h e = (us, cc, h.1)
value_end (single c ∷ us) (x ∷ a) b h e = value_end us a b h.1 (cc)

-- a value and its quote begin the text
abbrev HasQuoted : Text → Type 0
HasQuoted t = (q : Text) × (v : Values quoted_row) × Front quoted t q v

quoted_after : (u : TextUnit) (t : Text) → IsValueUnit u → HasQuoted t → HasQuoted (unit_text u ++ t)
quoted_after u t h (q, v, f) =
    let g = (quoted_goes (unit_goes u (unit_text u ++ t) t h refl)).forth q v f in (q, g.0, g.1)

-- where they are after a bracket, they are before it, whether or not a backslash is before that text
quoted_before : (a b : Text) → HasQuoted b → HasQuoted (a ++ (93 ∷ b)) × HasQuoted (92 ∷ a ++ (93 ∷ b))
quoted_before [] b h =
    (quoted_after (single 93) b ((λ e. omega arith), (λ e. omega arith)) h, quoted_after (pair 93) b tt h)
quoted_before (c ∷ a) b h =
    let (plain, escaped) = quoted_before a b h in
    elim (eqb_tells c 34) [
      | inl r ↦ rw r.1 (_, _, row_of quoted_row (value_here _ _ refl then front_of (34 ∷ []) refl refl then refl))
      | inr r ↦ elim (eqb_tells c 92) [
        | inl s ↦ rw s.1 escaped
        | inr s ↦ quoted_after (single c) _ (s.1, r.1) plain
      ]
    ] also quoted_after (pair c) _ tt plain

pub no_closing : (t : Text) → NoFront quoted t → NoFront closing t
no_closing t n = row_none_here quoted tail_row n

pub dead_unquoted : (t : Text) → NoFront quoted t → IsDead t 0
dead_unquoted t n a b e l p q v w h =
    let first = row_head quoted tail_row (record { piece = p; whole = w; is = h }) in
    let (r, x, f) = (quoted_before a b (first.0, v.0, first.1)).0 in
    no_front_no quoted (subst (λ (y : Text). NoFront quoted y) e n) f

-- ---- pieces without a bracket
abbrev pub IsShut : Class → Type 0
IsShut C = (p q : Text) (v : C.Value) → C.Is p q v → Each is_open_char p

abbrev pub AllShut : List Class → Type 0
AllShut [] = Unit {0}
AllShut (C ∷ Cs) = IsShut C × AllShut Cs

blank_open : (c : ℕ) → is_blank c ≡ true → is_open_char c ≡ true
blank_open c e = grind (arith, nat_tests)

name_open : (c : ℕ) → is_name_char c ≡ true → is_open_char c ≡ true
name_open c e = (and_parts (is_open_char c) _ e).0

pub one_shut : (c : ℕ) → is_open_char c ≡ true → IsShut (exactly (c ∷ []))
one_shut c h p q v e = subst (λ (x : Text). Each is_open_char x) (sym e) (h, tt)

pub start_shut : AllShut start_row
start_shut =
    one_shut 91 refl also (λ p q v i. each_map is_name_char is_open_char name_open p (each_right is_not_whitespace
    is_name_char p i.1.1)) also (λ p q v i. each_map is_blank is_open_char blank_open p i.0) also tt

no_bracket : (w a b : Text) → Each is_open_char w → w ≡ a ++ (93 ∷ b) → ⊥
no_bracket w a b h e =
    let closed = each_after is_open_char a (93 ∷ b) (subst (λ (x : Text). Each is_open_char x) e h) in
    let f : false ≡ true = closed.0 in cc

-- ---- what a scan from t to x has passed: where no piece of the class begins t, what is dead at x is dead at t
pub record Passes (C : Class) (t x : Text) : Type 0 where
  pub piece : Text
  pub whole : t ≡ piece ++ x
  pub dead : (d : ℕ) → NoFront C t → IsDead x d → IsDead t d

module _ (C : Class) where
  pub passes_here : (t : Text) → Passes C t t
  passes_here t = record { piece = []; whole = refl; dead = λ d n i. i }

  passes_on : (t x w y : Text) → Passes C t x → x ≡ w ++ y
      → ((a b : Text) → w ≡ a ++ (93 ∷ b) → NoFront C t → NoFront closing (b ++ y)) → Passes C t y
  passes_on t x w y s e h = record {
    piece = s.piece ++ w;
    whole = s.whole ∙ ap (λ (z : Text). s.piece ++ z) e ∙ sym (append_assoc s.piece w y);
    dead = λ d n i. s.dead d n (λ a b f l. elim (split_bracket w y a b (sym e ∙ f)) [
      | inl (c, j, k) ↦ subst (λ (z : Text). NoFront closing z) (sym k) (h a c j n)
      | inr (c, j) ↦ i c b j l
    ]);
  }

  pub passes_shut : (D : Class) → IsShut D → {t x y : Text} {v : D.Value} → Passes C t x → Front D x y v → Passes C t y
  passes_shut D s {t = t} {x = x} {y = y} {v = v} p f =
      passes_on t x f.piece y p f.whole (λ a b e n. absurd (no_bracket f.piece a b (s f.piece y v f.is) e))

  pub passes_row : (Ds : List Class) → AllShut Ds → {t x y : Text} {vs : Values Ds} → Passes C t x
      → Front (Row Ds) x y vs → Passes C t y
  passes_row [] s {t = t} p f = subst (λ (z : Text). Passes C t z) (nil_front f) p
  passes_row (D ∷ Ds) s p f = let r = row_head D Ds f in passes_row Ds s.1 (passes_shut D s.0 p r.1) r.2

  pub passes_opening : {t x y : Text} {vs : Values opening_row} → Passes C t x → Front opening x y vs → Passes C t y
  passes_opening = passes_row opening_row ((λ p q v i. each_map is_name_char is_open_char name_open p i.1.1)
      also one_shut 61 refl also (λ p q v i. each_map is_blank is_open_char blank_open p i.0) also one_shut 34 refl
      also tt)

  -- a value, between the quotes
  pub passes_quoted : (t x y : Text) (vs : Values quoted_row) → Passes C t x → Meets C t closing x → Front quoted x y vs
      → Passes C t y
  passes_quoted t x y vs p m f =
      let (r, v, quote) = row_head value (exactly (34 ∷ []) ∷ []) f in
      passes_row (exactly (34 ∷ []) ∷ []) (one_shut 34 refl, tt) (passes_on t x v.piece r p v.whole (λ a b e n.
      let (us, same, units) = v.is.0 in
      let inner : Front value (b ++ r) r b =
      record { piece = b; whole = refl; is = (value_end us a b units (sym same ∙ e), v.is.1, refl) } in
      let outer : Front quoted (b ++ r) y (b, vs.1) = row_cons value (exactly (34 ∷ []) ∷ []) inner quote in
      meets_none _ _ _ _ (row_goes quoted tail_row quoted_det outer)
      (meets_none_on _ _ _ _ (row_goes quoted tail_row quoted_det f) (meets_none_on _ _ _ _ m n)))) quote

-- ---- values

-- none begins a text of at most one character, if that is no quote
pub no_quoted_short : {t : Text} (s : Text) → t ≡ s → length s ≤ 1 → ((r : Text) → s ≢ 34 ∷ r) → NoFront quoted t
no_quoted_short {t = t} s z l n = row_none_here value (exactly (34 ∷ []) ∷ []) none
  where
    none : NoFront value t
    none [] q v e (is, (r, g), w) = n r (sym z ∙ e ∙ g)
    none (x ∷ p) q v e (is, (r, g), w) = omega (arith, ap length (sym z ∙ e), ap length g, length-append p q)

-- each character of the class is a unit of a value
abbrev pub AllPlain : (ℕ → Bool) → Type 0
AllPlain test = (c : ℕ) → test c ≡ true → IsValueUnit (single c)

pub unescaped_plain : AllPlain is_unescaped_char
unescaped_plain c h = (grind (arith, nat_tests), grind (arith, nat_tests))

pub inert_plain : AllPlain is_inert_char
inert_plain c h = unescaped_plain c (and_parts (is_unescaped_char c) _ h).0

run_goes : (test : ℕ → Bool) → AllPlain test → (w t : Text) → Each test w → Meets value (w ++ t) value t
run_goes test a [] t h = meets_here value t
run_goes test a (c ∷ w) t h = meets_on
    (unit_goes (single c) (c ∷ w ++ t) (w ++ t) (a c h.0) refl) (run_goes test a w t h.1)

unit_ends : (u : TextUnit) → last_char u ≡ 93 → (a : Text) × (unit_text u ≡ a ++ (93 ∷ []))
unit_ends (pair c) e = (92 ∷ [], ap (λ (x : ℕ). 92 ∷ x ∷ []) e)
unit_ends (single c) e = ([], ap (λ (x : ℕ). x ∷ []) e)

module _ {test : ℕ → Bool} (a : AllPlain test) {text bs xs ys : Text} (s : SplitsRun test bs xs ys)
    (m : Meets quoted text quoted (chars bs)) where
  pub past_run : Meets quoted text quoted (chars ys)
  past_run = meets_on m (quoted_goes (subst (λ (x : Text). Meets value x value (chars ys)) (sym s.characters)
      (run_goes test a (chars xs) (chars ys) s.each)))

  pub value_quoted : (q : Text) → Front (exactly (34 ∷ [])) (chars ys) q tt → (v : Values quoted_row)
      × Front quoted text q v
  value_quoted q f =
      past_run.forth q ([], (tt, tt)) (row_of quoted_row (value_here (chars ys) q (begins 34 _ q f) then f then refl))

  module _ (u : TextUnit) (h : IsValueUnit u) (q : Text) (e : chars ys ≡ unit_text u ++ q) where
    pub value_on : Meets quoted text quoted q
    value_on = meets_on past_run (quoted_goes (unit_goes u (chars ys) q h e))

    pub dead_on : (d : ℕ) → IsDead (chars bs) d → IsDead q d
    dead_on d = dead_suffix (chars bs) (chars xs ++ unit_text u) q d
        (s.characters ∙ ap (λ (x : Text). chars xs ++ x) e ∙ sym (append_assoc (chars xs) (unit_text u) q))

    -- the bracket that ends the unit, in the text
    pub value_dead : last_char u ≡ 93 → (d : ℕ) → IsDead (chars bs) d → d ≤ byte_count q → NoFront closing text
    value_dead l d i k =
        let (a, f) = unit_ends u l in
        let before : chars bs ≡ (chars xs ++ a) ++ (93 ∷ q) =
        cc (s.characters, e, f, append_assoc a (93 ∷ []) q, append_assoc (chars xs) a (93 ∷ q)) in
        meets_none _ _ _ _ (closing_goes value_on) (i (chars xs ++ a) q before k)

-- where no quote ends the value
pub value_missing : (text t : Text) → Meets quoted text quoted t → NoFront quoted t
    → NoFront closing text × IsDead text 0
value_missing text t m n = let k = meets_none _ _ _ _ m n in (no_closing text k, dead_unquoted text k)

-- from inside a value, in a class whose pieces go on from there
module _ {C : Class} {text x y : Text} {vs : Values quoted_row} (p : Passes C text x) (m : Meets C text closing x)
    (f : Front quoted x y vs) where
  pub value_ends : (q : Text) → Front (exactly (93 ∷ [])) y q tt → (v : C.Value) × Front C text q v
  value_ends q g = m.forth q (vs, ([], (tt, tt)))
      (row_of (quoted ∷ tail_row) (f then more_here param 32 93 y q (begins 93 y q g) then g then refl))

  pub value_breaks : NoFront (more_before param 32 93) y → (d : ℕ) → d ≡ byte_count y → NoFront C text × IsDead text d
  value_breaks n d e =
      let k = meets_none _ _ _ _ m
      (row_none_later quoted tail_row quoted_det f (row_none_here _ (exactly (93 ∷ []) ∷ []) n)) in
      (k, (passes_quoted C text x y vs p m f).dead d k (dead_whole y d e))

  pub value_goes : (z r : Text) (ws : Values opening_row) → Front (exactly (32 ∷ [])) y z tt → Front opening z r ws
      → Meets C text closing r
  value_goes z r ws g o = meets_on m (meets_on (row_goes quoted tail_row quoted_det f) (meets_on
      (more_goes param 32 93 space_is_no_close (exactly (93 ∷ []) ∷ []) y z (begins 32 y z g))
      (row_first param quoted tail_row (param_opens o))))

-- ---- a quoted value, cut from its text by bytes
module _ (t r : List ℕ) (u : IsUtf8 t) (z : IsUtf8 r) (v : Values quoted_row)
    (f : Front quoted (chars t) (chars r) v) where
  after_utf8 : IsUtf8 (34 ∷ r)
  after_utf8 = IsUtf8-append (34 ∷ []) r (IsUtf8-from_ascii (34 ∷ []) (one_ascii 34 (omega arith))) z

  whole : chars t ≡ v.0 ++ chars (34 ∷ r)
  unfolding encode_utf8
  whole = quoted_text f ∙ ap (λ (x : Text). v.0 ++ x) (sym (chars_past_char (34 ∷ r) r 34 after_utf8 refl))

  pub quoted_longer : length r + 1 ≤ length t
  quoted_longer = omega (arith, rest_shorter t (34 ∷ r) u after_utf8 v.0 whole)

  place : length t - length (34 ∷ r) ≡ length t - length r - 1
  place = omega arith

  -- the text may be cut before the closing quote
  pub quoted_cut : IsCharBoundary t (length t - length r - 1)
  quoted_cut = rw place at (front_cut t (34 ∷ r) u after_utf8 v.0 whole)

  -- and the value is what is before it
  pub quoted_value : (xs : List ℕ) → xs ≡ take (length t - length r - 1) t
      → Front quoted (chars t) (chars r) (chars xs, (tt, tt))
  quoted_value xs e =
      let split = front_chars t (34 ∷ r) u after_utf8 v.0 whole xs (e ∙ ap (λ (n : ℕ). take n t) (sym place)) in
      subst (λ (y : Text). Front quoted (chars t) (chars r) (y, (tt, tt)))
      (append_cancel_right v.0 (chars xs) (chars (34 ∷ r)) (sym whole ∙ split)) f

-- ---- what the tests of canonical values return

-- the one text is a value where the other is
pub record ExtendsValue (t u : Text) : Type 0 where
  pub to : IsValue t → IsValue u
  pub from : IsValue u → IsValue t

value_after : (u : TextUnit) (t : Text) → IsValueUnit u → IsValue (unit_text u ++ t) → IsValue t
value_after u t h ([], e, k) = absurd (no_unit_at_end u t h e)
value_after u t h (w ∷ us, e, k) = (us, (unit_same IsValueUnit (λ c i. i.0) u w t _ h k.0 e).1, k.1)

extends_unit : (u : TextUnit) (text t : Text) → IsValueUnit u → ExtendsValue text (unit_text u ++ t)
    → ExtendsValue text t
extends_unit u text t h m = record {
  to = λ v. value_after u t h (m.to v);
  from = λ (us, e, k). m.from (u ∷ us, ap (λ (x : Text). unit_text u ++ x) e, (h, k));
}

extends_run : (text xs t : Text) → Each is_unescaped_char xs → ExtendsValue text (xs ++ t) → ExtendsValue text t
extends_run text [] t h m = m
extends_run text (c ∷ xs) t h m =
    extends_run text xs t h.1 (extends_unit (single c) text (xs ++ t) (unescaped_plain c h.0) m)

no_quote_value : (q : Text) → IsValue (34 ∷ q) → ⊥
no_quote_value q (u ∷ us, e, h) = no_quote_unit u _ h.0 (q, sym e)
no_quote_value q ([], e, h) = cc

no_lone_value : IsValue (92 ∷ []) → ⊥
no_lone_value ([], e, h) = cc
no_lone_value (pair c ∷ us, e, h) = cc
no_lone_value (single c ∷ us, e, h) = h.0.0 (cc)

module _ (text bs xs ys : List ℕ) (s : SplitsRun is_unescaped_char bs xs ys)
    (m : ExtendsValue (chars text) (chars bs)) where
  to_end : ExtendsValue (chars text) (chars ys)
  to_end = extends_run (chars text) (chars xs) (chars ys) s.each (rw s.characters at m)

  pub value_at_end : chars ys ≡ [] → IsTrue true ↔ IsValue (chars text)
  value_at_end e = ((λ h. to_end.from (rw e ([], refl, tt))), (λ h. refl))

  module _ (c : ℕ) (q : Text) (e : chars ys ≡ c ∷ q) where
    fails : (IsValue (c ∷ q) → ⊥) → IsTrue false ↔ IsValue (chars text)
    fails n = false_is (λ h. n (rw e at (to_end.to h)))

    pub value_at_quote : c ≡ 34 → IsTrue false ↔ IsValue (chars text)
    value_at_quote z = fails (λ h. no_quote_value q (rw z at h))

    module _ (n : c ≢ 34) where
      is_backslash : c ≡ 92
      is_backslash = let h : is_unescaped_char c ≡ false = rw e at s.ends in grind (arith, nat_tests)

      pub value_lone : q ≡ [] → IsTrue false ↔ IsValue (chars text)
      value_lone z = fails (λ h. no_lone_value (rw (z, is_backslash) at h))

      pub value_further : (d : ℕ) (r : Text) → q ≡ d ∷ r → ExtendsValue (chars text) r
      value_further d r z = extends_unit (pair d) (chars text) r tt (rw (e, is_backslash, z) at to_end)

pub ruleset value_tests = (value_at_end, value_at_quote, value_lone)

-- ---- lists of parameters and of elements

module _ {X Y : Type 0} (f : X → Y) (P : Y → Type 0) where
  pub all_at : (xs : List X) (i : ℕ) (x : X) → i < length xs → x ≡ get_or xs i x → AllByRecursion P (map f xs) → P (f x)
  all_at [] i x l e h = absurd (omega arith)
  all_at (y ∷ xs) zero x l e h = subst (λ (z : X). P (f z)) (sym e) h.0
  all_at (y ∷ xs) (suc i) x l e h = all_at xs i x (omega arith) e h.1
