-- The walk over lists: where an element ends, what is left, and the counts; and the list of RFC 3164.
use Rattle.syslog_elements.proofs.Names.{length-le-encodes, IsDeterministic, nil_from_length, encode_utf8_all, row_goes}
use Rattle.syslog_elements.proofs.Names.{flat_map-append, length-append, row_none_here, optional_none, bare_param_text}
use Rattle.syslog_elements.proofs.Names.{encodes-chars, full_element, IsDashBefore, rfc3164_list, BeginsNoList, opening}
use Rattle.syslog_elements.proofs.Names.{append_assoc, ElementValue, is_name_char, element_text, element_seen, ∥∥₁_elim}
use Rattle.syslog_elements.proofs.Names.{one_value-is, is_open_char, opening_row, list_before, element_row, more_before}
use Rattle.syslog_elements.proofs.Names.{inside_row, param_text, no_front_no, elements_or, meets_none, ◌≡◌, append_more}
use Rattle.syslog_elements.proofs.Names.{length, name_alone, OneMeaning, element_of, is_id_char, no_many_no, row_pieces}
use Rattle.syslog_elements.proofs.Names.{append-nil, byte_count, front_same, start_row, many_cons, row_head, cases_Bool}
use Rattle.syslog_elements.proofs.Names.{ℕ, many_none, rows_step, and_parts, list_here, list_goes, more_goes, row_first}
use Rattle.syslog_elements.proofs.Names.{more_here, many_here, one_value, forgiving, bracketed, ◌<◌, param_of, is_blank}
use Rattle.syslog_elements.proofs.Names.{optional, DashRule, many_det, flat_map, some_run, id_alone, meets_on, tail_row}
use Rattle.syslog_elements.proofs.Names.{IsWalked, closing, NoFront, exactly, element, no_more, no_list, Some, and_from}
use Rattle.syslog_elements.proofs.Names.{IsUtf8, IsAlone, IsTrue, texted, IsMany, strict, Values, inside, None, row_det}
use Rattle.syslog_elements.proofs.Names.{quoted, IsDead, Leaves, row_of, ◌also◌, begins, Walked, Option, Σ_prop, ⊥_prop}
use Rattle.syslog_elements.proofs.Names.{Class, heads, value, subst, arith, start, Front, param, Meets, shown, ◌then◌}
use Rattle.syslog_elements.proofs.Names.{inl, [], chars, List, ◌++◌, refl, Text, many, dash, Bool, ◌&&◌, item, inr, ◌∷◌}
use Rattle.syslog_elements.proofs.Names.{sym, ◌∙◌, Row, ◌↔◌, ◌+◌, ◌≤◌, ◌⊎◌, map, run, ap, ◌≢◌}
use Rattle.syslog_elements.specs.StructuredData.Recognised.{OneInside-prop, OneItems-prop, params_set, items_set}
use Rattle.syslog_elements.specs.StructuredData.Pairs.{IsNext, inside_of}
use Rattle.syslog_elements.specs.{StructuredData.Visited.AreItems, declared.structured_data.pairs.Notation.Notation}
use Rattle.syslog_elements.specs.declared.structured_data.pairs.Notation.TheVariants.{Equals}
use Rattle.syslog_elements.proofs.StructuredDataLemmas.Closing.{start_shut, element_read, value_breaks, passes_here}
use Rattle.syslog_elements.proofs.StructuredDataLemmas.Closing.{param_opens, passes_shut, param_read, dead_whole}
use Rattle.syslog_elements.proofs.StructuredDataLemmas.Closing.{no_opening, no_start, passes_row, one_shut, Passes}
use Rattle.syslog_elements.proofs.StructuredDataLemmas.Closing.{passes_opening, element_starts, passes_quoted}
use Rattle.syslog_elements.proofs.StructuredDataLemmas.Elements.{space_is_no_close, element_shorter, run_no_close}
use Rattle.syslog_elements.proofs.StructuredDataLemmas.Elements.{item_shorter, element_det, item_begins, quoted_text}
use Rattle.syslog_elements.proofs.StructuredDataLemmas.Elements.{no_item_nil, dash_apart, quoted_det, inside_det}
use Rattle.syslog_elements.proofs.StructuredDataLemmas.Elements.{no_blanks, param_det, start_det, item_det}
use Rattle.syslog_elements.proofs.StructuredDataLemmas.Elements.{element_canonical, element_with}
use Rattle.std.{proofs.lemmas.List.append_cancel_left, specs.List.AllByRecursion}
use Rattle.syslog_text.specs.Pieces.Class.{Divides, Each, Ends}
use Rattle.syslog_elements.specs.StructuredData.Canonical.{BeginsUnblank, IsCanonicalParam}
use Rattle.syslog_text.proofs.TextLemmas.Runs.{same_bytes, chars_empty, bytes}
use Rattle.syslog_text.proofs.PieceLemmas.Lists.{list_cons, more_cons, list_parts, many_parts, more_parts, some_parts}
use Rattle.syslog_text.proofs.PieceLemmas.Class.{list_before_steady, texted_steady, closed_steady, mapped_alone}
use Rattle.syslog_text.proofs.PieceLemmas.Class.{front_longer, row_alone, row_cons, front_of}

-- ---- elements with a parameter
pub full_is_element : {t q : Text} {v : ElementValue} → Front full_element t q v → Front element t q v
full_is_element f = record { piece = f.piece; whole = f.whole; is = f.is.0 }

pub full_shorter : (t u : Text) (v : ElementValue) → Front full_element t u v → length u < length t
full_shorter t u v f = element_shorter t u v (full_is_element f)

pub bare_is_not_full : (t q : Text) (v : ElementValue) → Front element t q v → length v.params ≡ 0
    → NoFront full_element t
bare_is_not_full t q v f z p r w e h =
    let s = front_same element element_det f (record { piece = p; whole = e; is = h.0 }) in
    omega (arith, h.1, (ap (λ (x : ElementValue). length x.params) s.1), z)

-- such an element begins with a bracket
pub full_begins : (p q : Text) (v : ElementValue) → full_element.Is p q v → (r : Text) × (p ++ q ≡ 91 ∷ r)
full_begins p q v h = item_begins p q (Some v) h.0

pub no_full_unopened : (t : Text) → NoFront (exactly (91 ∷ [])) t → NoFront full_element t
no_full_unopened t n p q v e h = let s = full_begins p q v h in n (91 ∷ []) s.0 tt (e ∙ s.1) refl

pub no_full_nil : NoFront full_element []
no_full_nil p q v e h = let s = full_begins p q v h in let t : [] ≡ 91 ∷ s.0 = e ∙ s.1 in cc

-- ---- the list
pub rfc3164_list_det : (rule : DashRule) → IsDeterministic (rfc3164_list rule)
rfc3164_list_det rule p q p' q' es es' e (inl (f, u, g)) (inl (f', u', g')) = (f ∙ sym f', g ∙ sym g')
rfc3164_list_det rule p q p' q' es es' e (inl (f, u, g)) (inr (l, m)) =
    absurd (dash_apart full_element full_begins p q p' q' es' f l m e)
rfc3164_list_det rule p q p' q' es es' e (inr (l, m)) (inl (f, u, g)) =
    absurd (dash_apart full_element full_begins p' q' p q es f l m (sym e))
rfc3164_list_det rule p q p' q' es es' e (inr (l, m)) (inr (l', m')) =
    many_det full_element (λ a b a' b' v v' e h h'. element_det a b a' b' v v' e h.0 h'.0) p q p' q' es es' e m m'

pub dash_rfc3164_list : (rule : DashRule) (t q : Text) → t ≡ 45 ∷ q → IsDashBefore rule q
    → Front (rfc3164_list rule) t q []
dash_rfc3164_list rule t q e a = record { piece = dash; whole = e; is = inl (refl, a, refl) }

-- no list begins the text where neither of its two kinds does
pub no_rfc3164_list : (rule : DashRule) (t : Text) → BeginsNoList rule t → NoFront (rfc3164_list rule) t
no_rfc3164_list rule t (n, m) p q es e (inl (f, u, g)) = n q (e ∙ ap (λ (x : Text). x ++ q) f) u
no_rfc3164_list rule t (n, m) p q [] e (inr (l, h)) = omega arith
no_rfc3164_list rule t (n, m) p q (v ∷ vs) e (inr (l, (a, b, i, k, more))) =
    m a (b ++ q) v (e ∙ append_more p a b q i) k

pub begins_no_list : (rule : DashRule) (t : Text) → NoFront (rfc3164_list rule) t → BeginsNoList rule t
begins_no_list rule t n = (λ q e a. n dash q [] e (inl (refl, a, refl))) also (λ p q v e h.
    no_many_no full_element full_shorter (length q) q (omega arith) (λ r vs g.
    let all = many_cons full_element (front_of p e h) g in
    n all.piece r (v ∷ vs) all.whole (inr (omega arith, all.is))))

pub no_list_is : (rule : DashRule) (t : Text) → NoFront (rfc3164_list rule) t ↔ BeginsNoList rule t
no_list_is rule t = (begins_no_list rule t, no_rfc3164_list rule t)

-- no dash begins the text, and no element does
pub list_absent : (rule : DashRule) (t q : Text) → ((r : Text) → t ≡ 45 ∷ r → IsDashBefore rule r → ⊥)
    → Front (many full_element) t q [] → Front (optional (rfc3164_list rule)) t t None
list_absent rule t q n f =
    optional_none (rfc3164_list rule) (no_rfc3164_list rule t (n, many_none full_element t q f))

-- ---- recognising an element with a parameter

-- the parameters of an element, after its start
element_params : {t u q : Text} {vs : Values start_row} {v : ElementValue} → Front start t u vs → Front element t q v
    → (r : Text) × Front (list_before param 32 93) u r v.params
element_params {t = t} {u = u} {q = q} f g =
    let row : Front (Row element_row) t q g.is.0 = record { piece = g.piece; whole = g.whole; is = g.is.1 } in
    let (r, list, _) = row_pieces inside_row (rows_step start_row inside_row start_det f row).1 in
    (r, subst (λ (x : ElementValue). Front (list_before param 32 93) u r x.params) (sym g.is.2) list)

some_params : (t r : Text) (ps : List (Text × Text)) → NoFront (exactly (93 ∷ [])) t
    → Front (list_before param 32 93) t r ps → 0 < length ps
some_params t r [] n f = absurd (n (93 ∷ []) f.is.1.0 tt (f.whole ∙ ap (λ (x : Text). x ++ r) f.is.0 ∙ f.is.1.1) refl)
some_params t r (p ∷ ps) n f = omega arith

first_param : (t r : Text) (ps : List (Text × Text)) → NoFront param t → 0 < length ps
    → Front (list_before param 32 93) t r ps → ⊥
first_param t r [] n l f = omega arith
first_param t r (p ∷ ps) n l f = no_front_no param n (list_parts param 32 93 f).1

-- no parameter begins with a bracket
opening_open : (t u : Text) (ws : Values opening_row) → Front opening t u ws → NoFront (exactly (93 ∷ [])) t
opening_open t u ws f p q v e h =
    let (r, name, _) = row_pieces opening_row f in
    run_no_close name.piece r q name.is.1.0 name.is.1.1 (sym name.whole ∙ e ∙ ap (λ (x : Text). x ++ q) h)

pub no_full_start : (t : Text) → NoFront start t → NoFront full_element t
no_full_start t n p q v e h = no_start n p q v e h.0

module _ (t u : Text) (vs : Values start_row) (f : Front start t u vs) where
  pub no_full_opening : NoFront opening u → NoFront full_element t
  no_full_opening n p q v e h =
      let (r, l) = element_params f (record { piece = p; whole = e; is = h.0 }) in
      first_param u r v.params (no_opening n) h.1 l

  pub full_goes : (x : Text) (ws : Values opening_row) → Front opening u x ws → Meets full_element t closing x
  full_goes x ws g =
      let n = opening_open u x ws g in
      let m = meets_on (element_starts f) (meets_on (list_goes param 32 93 (exactly (93 ∷ []) ∷ []) u n)
      (row_first param quoted tail_row (param_opens g))) in
      record {
        forth = λ q v h. (
            let k = m.forth q v h in
            let (r, l) = element_params f k.1 in
            (k.0, front_of k.1.piece k.1.whole (k.1.is, some_params u r k.0.params n l)));
        back = λ q w h. m.back q w (full_is_element h);
      }

-- ---- one thing more, and then a text
pub flat_map_more : {A : Type 0} (f : A → Text) (xs : List A) (x : A) (y : Text)
    → flat_map f (xs ++ (x ∷ [])) ++ y ≡ flat_map f xs ++ (f x ++ y)
flat_map_more f xs x y = simp (flat_map-append, append_assoc, append-nil)

-- ---- one meaning
abbrev pub one_meaning : (C : Class) → IsDeterministic C → {t q : Text} {v : C.Value} → Front C t q v → OneMeaning C t
one_meaning C d {q = q} {v = v} f = (v, (∣ (q, f) ∣₁, λ r w g. (front_same C d g f).1))

-- ---- the opening of a parameter
module _ {t a b : Text} {name : Text} (f : Front (texted (some_run is_name_char)) t a name)
    (g : Front (exactly (61 ∷ [])) a b tt) where
  pub opens_at_once : {c : Text} → Front (exactly (34 ∷ [])) b c tt
      → Front opening t c (name_alone name) × (t ≡ name ++ (61 ∷ 34 ∷ c))
  opens_at_once {c = c} h =
      let quote : b ≡ 34 ∷ c = begins 34 b c h in
      row_of opening_row (f then g then no_blanks 34 refl quote then h then refl)
      also cc (f.whole, f.is.2, begins 61 a b g, quote)

  -- and not where another character follows the equals sign
  pub opens_no_sooner : (c : Text) → NoFront (exactly (34 ∷ [])) b → t ≡ name ++ (61 ∷ 34 ∷ c) → ⊥
  opens_no_sooner c n e =
      let here = ap (λ (x : Text). x ++ a) f.is.2 ∙ sym f.whole ∙ e in
      let same = append_cancel_left name a (61 ∷ 34 ∷ c) here in
      let quote : b ≡ 34 ∷ c = (let equals = begins 61 a b g in cc) in
      n (34 ∷ []) c tt quote refl

-- the text of an opening, in which blanks may be after the equals sign
opening_parts : {at after name : Text} → Front opening at after (name_alone name)
    → (gap : Text) × (at ≡ name ++ (61 ∷ (gap ++ (34 ∷ after))))
opening_parts o =
    let (a, n, (b, e, (c, g, (d, q, end)))) = row_pieces opening_row o in
    (g.piece, cc (n.whole, n.is.2, begins 61 a b e, g.whole, begins 34 c d q, end))

gap_length : {at : Text} (after name gap : Text) → at ≡ name ++ (61 ∷ (gap ++ (34 ∷ after)))
    → length at ≡ length name + length gap + length after + 2
gap_length after name gap e =
    omega (arith, ap length e, length-append name (61 ∷ (gap ++ (34 ∷ after))), length-append gap (34 ∷ after))

-- it is no shorter than its print, and is its print or longer
opening_least : {at after name : Text} → Front opening at after (name_alone name)
    → length name + length after + 2 ≤ length at
opening_least {after = after} {name = name} o =
    let (gap, e) = opening_parts o in omega (arith, gap_length after name gap e)

opens_or_longer : {at after name : Text} → Front opening at after (name_alone name)
    → (at ≡ name ++ (61 ∷ 34 ∷ after)) ⊎ (length name + length after + 2 < length at)
opens_or_longer {at = at} {after = after} {name = name} o = let (gap, e) = opening_parts o in by_gap gap e
  where
    by_gap : (gap : Text) → at ≡ name ++ (61 ∷ (gap ++ (34 ∷ after)))
        → (at ≡ name ++ (61 ∷ 34 ∷ after)) ⊎ (length name + length after + 2 < length at)
    by_gap [] e = inl e
    by_gap (c ∷ gap) e = inr (omega (arith, gap_length after name (c ∷ gap) e))

-- the printed parameters, one more at their end
params_length : (ps : List (Text × Text)) (name v : Text)
    → length (flat_map param_text (ps ++ ((name, v) ∷ [])))
    ≡ length (flat_map param_text ps) + length name + length v + 4
params_length ps name v =
    let one = length-append name (61 ∷ 34 ∷ (v ++ (34 ∷ []))) in
    let all = ap length (flat_map_more param_text ps (name, v) []) in
    omega (
      arith,
      all,
      one,
      length-append v (34 ∷ []),
      length-append (flat_map param_text (ps ++ ((name, v) ∷ []))) [],
      length-append (flat_map param_text ps) (param_text (name, v) ++ []),
      length-append (param_text (name, v)) [],
    )

-- printed parameters begin with a space, after which there is no blank
after_space : (ps : List (Text × Text)) (q : Text) → 0 < length ps → AllByRecursion IsCanonicalParam ps
    → BeginsUnblank ps → (more : Text) × (flat_map param_text ps ≡ 32 ∷ more) × Ends is_blank (more ++ q)
after_space [] q l c b = absurd (omega arith)
after_space ((name, v) ∷ ps) q l c b =
    let more = flat_map param_text ps in
    (bare_param_text (name, v) ++ more, refl, begins_on name (61 ∷ 34 ∷ (v ++ (34 ∷ []))) more c.0.0 b)
  where
    begins_on : (name a b : Text) → 0 < length name → Ends is_blank name → Ends is_blank (((name ++ a) ++ b) ++ q)
    begins_on [] a b l h = absurd (omega arith)
    begins_on (x ∷ name) a b l h = h

-- the printed start of an element
printed_start : {text rest : Text} (id : Text) → 0 < length id → Each is_id_char id → Ends is_blank rest
    → text ≡ 91 ∷ (id ++ (32 ∷ rest)) → Front start text rest (id_alone id)
printed_start {rest = rest} id long each ends e =
    let is : Divides start_row ((91 ∷ []) ∷ id ∷ (32 ∷ []) ∷ []) rest (id_alone id) =
    refl also (tt, (long, each, refl), refl) also ((refl, tt), ends) also tt in
    front_of (91 ∷ (id ++ (32 ∷ []))) (e ∙ ap (λ (x : Text). 91 ∷ x) (sym (append_assoc id (32 ∷ []) rest)))
    ((91 ∷ []) ∷ id ∷ (32 ∷ []) ∷ [], refl, is)

-- a rest of as many bytes is the text
same_rest : (t r : List ℕ) → IsUtf8 t → IsUtf8 r → (p : Text) → chars t ≡ p ++ chars r → length r ≡ length t
    → chars t ≡ chars r
same_rest t r u z p e l =
    let b = bytes t r u z p e in
    let none : encode_utf8_all p ≡ [] =
    nil_from_length (encode_utf8_all p) (omega (arith, l, ap length b, length-append (encode_utf8_all p) r)) in
    ap chars (rw none at b)

-- ---- what the walk returns
walked : {text : Text} {w : Walked} (e : ElementValue) → IsUtf8 w.rest.now → element_seen w.element ≡ e
    → Front element text (shown w.rest) e → IsTrue w.prints ↔ (text ≡ element_text e ++ shown w.rest)
    → length e.params + length (shown w.rest) ≤ length text → IsWalked text w
walked {text = text} {w = w} e u s f p l = record {
  utf8 = u;
  front = subst (λ (x : ElementValue). Front element text (shown w.rest) x) (sym s) f;
  prints = subst (λ (x : ElementValue). IsTrue w.prints ↔ (text ≡ element_text x ++ shown w.rest)) (sym s) p;
  few = subst (λ (x : ElementValue). length x.params + length (shown w.rest) ≤ length text) (sym s) l;
}

pub chars_length : (bs : List ℕ) → IsUtf8 bs → length (chars bs) ≤ length bs
chars_length bs u = omega (arith, length-le-encodes (chars bs), ap length (encodes-chars bs u))

-- ---- at a parameter: ps are before it, so many; where the mark says so, what is before it is in printed form. Their
-- print is no longer than they are; where the mark says otherwise, it is shorter, or no one space is before the first.
pub record AtParam (text inner at id : Text) (ps : List (Text × Text)) (count : ℕ) (mark : Bool) : Type 0 where
  pub starts : Front start text inner (id_alone id)
  pub passes : Passes element text at
  pub meets : Meets element text (Row (param ∷ tail_row)) at
  pub leaves : Leaves param 32 93 inner ps at
  pub prints : IsTrue mark → text ≡ 91 ∷ (id ++ (flat_map param_text ps ++ (32 ∷ at)))
  pub least : length (flat_map param_text ps) + length at ≤ length inner
  pub lost : IsTrue mark
      ⊎ ((text ≢ 91 ∷ (id ++ (32 ∷ inner))) ⊎ (length (flat_map param_text ps) + length at < length inner))
  pub counted : count ≡ length ps
  pub room : count + length at ≤ length text

-- ---- an element up to its parameters
pub bare_inside : {inner q : Text} → Front (exactly (93 ∷ [])) inner q tt → Front inside inner q ([], (tt, tt))
bare_inside g = row_of inside_row (list_here param 32 93 _ _ (begins 93 _ _ g) then g then refl)

module _ {text opened id : Text} (after inner : List ℕ) (f : Front (exactly (91 ∷ [])) text opened tt)
    (g : Front (texted (some_run is_id_char)) opened (chars after) id)
    (b : Front (run is_blank) (chars after) (chars inner) tt) where
  started : Front start text (chars inner) (id_alone id)
  started = row_of start_row (f then g then b then refl)

  start_text : text ≡ 91 ∷ (id ++ chars after)
  start_text = cc (begins 91 text opened f, g.whole, g.is.2)

  -- an element without parameters
  pub bare_walked : {w : Walked} → Front (exactly (93 ∷ [])) (chars inner) (shown w.rest) tt → IsUtf8 after
      → IsUtf8 inner → IsUtf8 w.rest.now → element_seen w.element ≡ record { id = id; params = [] }
      → IsTrue w.prints ↔ (length inner ≡ length after) → IsWalked text w
  bare_walked {w = w} close u z v s p =
      let closes = begins 93 (chars inner) (shown w.rest) close in
      walked _ v s (element_read started (bare_inside close)) (
        (λ same. simp append_assoc (rw (same_rest after inner u z b.piece b.whole (p.0 same), closes) at start_text)),
        (λ printed. (
            let end = append_assoc id (93 ∷ []) (shown w.rest) in
            let whole = sym start_text ∙ printed ∙ ap (λ (x : Text). 91 ∷ x) end in
            let here = append_cancel_left (91 ∷ id) (chars after) (93 ∷ shown w.rest) whole in
            p.1 (ap length (same_bytes inner after z u (closes ∙ sym here))))),
      )
      (omega (arith, front_longer start started, front_longer (exactly (93 ∷ [])) close))

  pub at_first : {stands : Bool} → NoFront (exactly (93 ∷ [])) (chars inner)
      → IsTrue stands ↔ (chars after ≡ 32 ∷ chars inner) → AtParam text (chars inner) (chars inner) id [] 0 stands
  at_first {stands = stands} n p = record {
    starts = started;
    passes = passes_row element start_row start_shut (passes_here element text) started;
    meets = meets_on (element_starts started) (list_goes param 32 93 (exactly (93 ∷ []) ∷ []) (chars inner) n);
    leaves = λ q u v ws g k. list_cons param 32 93 g k;
    prints = λ stands. rw (p.0 stands) at start_text;
    least = omega arith;
    lost = elim (cases_Bool stands) [
      | inl marked ↦ inl marked
      | inr unmarked ↦ inr (inl (λ e.
          let here = append_cancel_left (91 ∷ id) (chars after) (32 ∷ chars inner) (sym start_text ∙ e) in
          let marked = p.1 here in cc))
    ];
    counted = refl;
    room = omega (arith, front_longer start started);
  }

module _ {text inner at id : Text} {ps : List (Text × Text)} {count : ℕ} {mark : Bool}
    (w : AtParam text inner at id ps count mark) where
  -- where no parameter opens, no element begins the text
  pub not_opened : NoFront opening at → (d : ℕ) → d ≡ byte_count at → NoFront element text × IsDead text d
  not_opened n d e =
      let k = meets_none _ _ _ _ w.meets (row_none_here param tail_row (no_opening n)) in
      (k, w.passes.dead d k (dead_whole at d e))

  module _ {name value : Text} (o : Front opening at value (name_alone name)) where
    pub value_passes : Passes element text value
    value_passes = passes_opening element w.passes o

    value_meets : Meets element text closing value
    value_meets = meets_on w.meets (row_first param quoted tail_row (param_opens o))

    -- where the value does not close, neither
    pub not_closed : (d : ℕ) → NoFront closing value → IsDead value d → NoFront element text × IsDead text d
    not_closed d n i = let k = meets_none _ _ _ _ value_meets n in (k, value_passes.dead d k i)

    module _ {y v : Text} (f : Front quoted value y (v, (tt, tt))) where
      -- where another character follows the value, neither
      pub not_separated : NoFront (exactly (93 ∷ [])) y → NoFront (exactly (32 ∷ [])) y → (d : ℕ) → d ≡ byte_count y
          → NoFront element text × IsDead text d
      not_separated n m d e = value_breaks value_passes value_meets f (no_more param 32 93 y n m) d e

      more_counted : count + 1 ≡ length (ps ++ ((name, v) ∷ []))
      more_counted = omega (arith, w.counted, length-append ps ((name, v) ∷ []))

      -- a parameter more is counted
      pub more_room : count + 1 + length y ≤ length text
      more_room =
          omega (arith, w.room, front_longer opening o, ap length (quoted_text f), length-append v (34 ∷ y))

      -- where a bracket follows the value, the element ends
      pub ends : {q : Text} → Front (exactly (93 ∷ [])) y q tt
          → Front inside inner q (ps ++ ((name, v) ∷ []), (tt, tt)) × (count + 1 ≡ length (ps ++ ((name, v) ∷ [])))
      ends {q = q} g =
          let list = w.leaves _ _ _ [] (param_read o f) (more_here param 32 93 _ _ (begins 93 y q g)) in
          (row_of inside_row (list then g then refl), more_counted)

      module _ {opens : Bool} (stands : IsTrue opens ↔ (at ≡ name ++ (61 ∷ 34 ∷ value))) where
        printed_param : IsTrue (mark && opens) → text ≡ 91 ∷ (id ++ (flat_map param_text (ps ++ ((name, v) ∷ [])) ++ y))
        printed_param both =
            let (left, right) = and_parts mark opens both in
            let here : 32 ∷ at ≡ param_text (name, v) ++ y = simp append_assoc (cc (stands.0 right, quoted_text f)) in
            w.prints left ∙ ap (λ (x : Text). 91 ∷ (id ++ x)) (ap (λ (x : Text). flat_map param_text ps ++ x) here
            ∙ sym (flat_map_more param_text ps (name, v) y))

        value_length : length value ≡ length v + length y + 1
        value_length = omega (arith, ap length (quoted_text f), length-append v (34 ∷ y))

        -- of a parameter more, and the text after the space that follows it
        more_length : {z : Text} → y ≡ 32 ∷ z
            → length (flat_map param_text (ps ++ ((name, v) ∷ []))) + length z
            ≡ length (flat_map param_text ps) + length name + length value + 2
        more_length e = omega (arith, value_length, params_length ps name v, ap length e)

        -- an element in printed form is marked so
        ends_printed : {q : Text} → Front element text q (element_with id (ps ++ ((name, v) ∷ []))) → y ≡ 93 ∷ q
            → text ≡ element_text (element_with id (ps ++ ((name, v) ∷ []))) ++ q → IsTrue (mark && opens)
        ends_printed {q = q} here close printed =
            let all = flat_map param_text (ps ++ ((name, v) ∷ [])) in
            let (long, each, canonical, first) = element_canonical here.piece q _ here.is in
            let some : 0 < length (ps ++ ((name, v) ∷ [])) = omega (arith, length-append ps ((name, v) ∷ [])) in
            let (more, begins, ends) = after_space (ps ++ ((name, v) ∷ [])) y some canonical first in
            let end : (id ++ (all ++ (93 ∷ []))) ++ q ≡ id ++ (32 ∷ (more ++ y)) =
            append_assoc id (all ++ (93 ∷ [])) q ∙ ap (λ (x : Text). id ++ x) (append_assoc all (93 ∷ []) q
            ∙ ap (λ (x : Text). all ++ x) (sym close) ∙ ap (λ (x : Text). x ++ y) begins) in
            let whole : text ≡ 91 ∷ (id ++ (32 ∷ (more ++ y))) = printed ∙ ap (λ (x : Text). 91 ∷ x) end in
            let same : inner ≡ more ++ y = (front_same start (row_det start_row start_det) w.starts
            (printed_start id long each ends whole)).0 in
            let gap : text ≡ 91 ∷ (id ++ (32 ∷ inner)) = whole ∙ ap (λ (x : Text). 91 ∷ (id ++ (32 ∷ x))) (sym same) in
            let room : length inner ≡ length (flat_map param_text ps) + length name + length v + length y + 3 =
            omega (arith, ap length same, length-append more y, ap length begins, params_length ps name v) in
            elim w.lost [
              | inl marked ↦ elim (opens_or_longer o) [
                | inl opened ↦ and_from mark opens marked (stands.1 opened)
                | inr longer ↦ absurd (omega (arith, longer, w.least, room, value_length))
              ]
              | inr (inl n) ↦ absurd (n gap)
              | inr (inr less) ↦ absurd (omega (arith, less, opening_least o, room, value_length))
            ]

        pub ends_walked : {w : Walked} → Front (exactly (93 ∷ [])) y (shown w.rest) tt → IsUtf8 w.rest.now
            → element_seen w.element ≡ record { id = id; params = ps ++ ((name, v) ∷ []) }
            → IsTrue w.prints ↔ IsTrue (mark && opens) → IsWalked text w
        ends_walked {w = x} g u s p =
            let here = element_read w.starts (ends g).0 in
            let close = begins 93 y (shown x.rest) g in
            walked _ u s here (
              (λ all. simp append_assoc (rw close at (printed_param (p.0 all)))),
              (λ printed. p.1 (ends_printed here close printed)),
            )
            (omega (arith, more_room, more_counted, front_longer (exactly (93 ∷ [])) g))

        pub goes_on : {z : Text} → Front (exactly (32 ∷ [])) y z tt
            → AtParam text inner z id (ps ++ ((name, v) ∷ [])) (count + 1) (mark && opens)
        goes_on {z = z} g =
            let space = begins 32 y z g in
            record {
              starts = w.starts;
              passes = passes_shut element (exactly (32 ∷ [])) (one_shut 32 refl)
                  (passes_quoted element text value y _ value_passes value_meets f) g;
              meets = meets_on value_meets (meets_on (row_goes quoted tail_row quoted_det f)
                  (more_goes param 32 93 space_is_no_close (exactly (93 ∷ []) ∷ []) y z space));
              leaves = λ q r x ws h k. subst (λ (xs : List (Text × Text)). Front (list_before param 32 93) inner q xs)
                  (sym (append_assoc ps ((name, v) ∷ []) (x ∷ ws)))
                  (w.leaves q y (name, v) (x ∷ ws) (param_read o f) (more_cons param 32 93 space h k));
              prints = λ both. rw space at (printed_param both);
              least = omega (arith, w.least, opening_least o, more_length space);
              lost = elim w.lost [
                | inl marked ↦ elim (opens_or_longer o) [
                  | inl opened ↦ inl (and_from mark opens marked (stands.1 opened))
                  | inr longer ↦ inr (inr (omega (arith, w.least, longer, more_length space)))
                ]
                | inr (inl n) ↦ inr (inl n)
                | inr (inr less) ↦ inr (inr (omega (arith, less, opening_least o, more_length space)))
              ];
              counted = more_counted;
              room = omega (arith, more_room, front_longer (exactly (32 ∷ [])) g);
            }

pub ruleset few_params = (more_room, chars_length)

-- ---- what is left of a recognised element and of a recognised list, one parameter or one item less
pub inside_same : (n : Notation) {t : Text} (m k : OneMeaning (inside_of n) t) → (one_value m).0 ≡ (one_value k).0
inside_same n {t = t} m k = ap (λ (x : OneMeaning (inside_of n) t). (one_value x).0) (OneInside-prop n t m k)

pub items_same : {t : Text} (m n : OneMeaning (many item) t) → one_value m ≡ one_value n
items_same {t = t} m n = ap (λ (x : OneMeaning (many item) t). one_value x) (OneItems-prop t m n)

-- ---- parameters
pub no_params : {t q : Text} (m : OneMeaning inside t) → Front (exactly (93 ∷ [])) t q tt → (one_value m).0 ≡ []
no_params {t = t} {q = q} m f =
    ap (λ v. v.0) (one_value-is m (row_of inside_row (list_here param 32 93 t q (begins 93 t q f) then f then refl)))

pub not_inside : {t : Text} → OneMeaning inside t → NoFront (exactly (93 ∷ [])) t → NoFront param t → ⊥
not_inside {t = t} m n k = ∥∥₁_elim m.1.0 ⊥_prop
    (λ f. no_front_no inside (row_none_here _ (exactly (93 ∷ []) ∷ []) (no_list param 32 93 t n k)) f.1)

-- the parameters that are left after the first one and its separator
next_list : {u z q : Text} (ws : List (Text × Text)) → IsNext u z → Front (more_before param 32 93) u q ws
    → Front (list_before param 32 93) z q ws
next_list {z = z} {q = q} [] (inl e) g =
    let end = sym e ∙ g.whole ∙ ap (λ (x : Text). x ++ q) g.is.0 ∙ g.is.1.1 in
    absurd (space_is_no_close (heads 32 93 z g.is.1.0 end))
next_list (w ∷ ws) (inl e) g = let (r, f, more) = more_parts param 32 93 e g in list_cons param 32 93 f more
next_list [] (inr (n, e)) g = record { piece = g.piece; whole = sym e ∙ g.whole; is = g.is }
next_list {q = q} (w ∷ ws) (inr (n, e)) g =
    absurd (n (32 ∷ []) _ tt (g.whole ∙ ap (λ (x : Text). x ++ q) g.is.0.2) refl)

pub params_less : {t u z : Text} {v : Text × Text} (m : OneMeaning inside t) → NoFront (exactly (93 ∷ [])) t
    → Front param t u v → IsNext u z → (k : OneMeaning inside z) × ((one_value m).0 ≡ v ∷ (one_value k).0)
params_less {t = t} {u = u} {z = z} {v = v} m n f e = ∥∥₁_elim m.1.0
    (Σ_prop (OneInside-prop Equals z) (λ k. params_set (one_value m).0 (v ∷ (one_value k).0))) (λ x.
    let end = exactly (93 ∷ []) ∷ [] in
    let (s, list, close) = row_head (list_before param 32 93) end x.1 in
    let (w, ws, (r, g, more)) = some_parts param 32 93 _ n list in
    let there = subst (λ (y : Text). Front (more_before param 32 93) y s ws) (front_same param param_det g f).0 more in
    let rest = row_cons (list_before param 32 93) end (next_list ws e there) close in
    let all = one_value-is m (row_cons (list_before param 32 93) end (list_cons param 32 93 f there) close) in
    let k = one_meaning inside inside_det rest in
    (k, ap (λ y. y.0) all ∙ ap (λ (y : Values inside_row). v ∷ y.0) (sym (one_value-is k rest))))

-- ---- items
first_item : {t u : Text} {v : Option ElementValue} (m : OneMeaning (many item) t) → Front item t u v → (q : Text)
    (vs : List (Option ElementValue)) → Front (many item) t q vs
    → (k : OneMeaning (many item) u) × (one_value m ≡ v ∷ one_value k)
first_item m f q [] g = absurd (no_front_no item (many_none item _ q g) f)
first_item {v = v} m f q (w ∷ ws) g =
    let (r, one, rest) = many_parts item g in
    let there = subst (λ (y : Text). Front (many item) y q ws) (front_same item item_det one f).0 rest in
    let k = one_meaning (many item) (many_det item item_det) there in
    let all = one_value-is m (many_cons item f there) in
    (k, all ∙ ap (λ (y : List (Option ElementValue)). v ∷ y) (sym (one_value-is k there)))

pub items_less : {t u : Text} {v : Option ElementValue} (m : OneMeaning (many item) t) → Front item t u v
    → (k : OneMeaning (many item) u) × (one_value m ≡ v ∷ one_value k)
items_less {u = u} {v = v} m f = ∥∥₁_elim m.1.0
    (Σ_prop (OneItems-prop u) (λ k. items_set (one_value m) (v ∷ one_value k))) (λ x. first_item m f x.0 m.0 x.1)

pub no_elements : {t : Text} (m : OneMeaning (many item) t) → NoFront item t → one_value m ≡ []
no_elements {t = t} m n = one_value-is m (many_here item t n)

-- ---- items, whatever follows the list
pub element_alone : IsAlone element
element_alone = mapped_alone _ ElementValue element_of (row_alone 93 (exactly (91 ∷ []) ∷ texted (some_run is_id_char)
    ∷ run is_blank ∷ list_before param 32 93 ∷ []) ((λ p c q r v h. h) also texted_steady (some_run is_id_char)
    (λ p c q r v h. h) also (λ p c q r v h. h) also list_before_steady param 32 93 (mapped_alone _ _ param_of
    (row_alone 34 (texted (some_run is_name_char) ∷ exactly (61 ∷ []) ∷ run is_blank ∷ exactly (34 ∷ []) ∷ value ∷ [])
    (texted_steady (some_run is_name_char) (λ p c q r v h. h) also (λ p c q r v h. h) also (λ p c q r v h. h)
    also (λ p c q r v h. h) also (λ p c q r v (h, z, e). (h, closed_steady 34 c q r z, e)) also tt))) also tt))

bracketed_alone : IsAlone bracketed
bracketed_alone = row_alone 93 (exactly (91 ∷ []) ∷ run is_open_char ∷ [])
    ((λ p c q r v h. h) also (λ p c q r v h. h) also tt)

pub items_alone : (p q : Text) (vs : List (Option ElementValue)) → IsMany item p q vs → IsMany item p [] vs
items_alone p q [] h = (h.0, no_item_nil)
items_alone p q (Some e ∷ vs) (a, b, w, h, more) =
    (a, b, w, element_alone a (b ++ q) (b ++ []) e h, items_alone b q vs more)
items_alone p q (None ∷ vs) (a, b, w, h, more) =
    let none : NoFront element (a ++ (b ++ [])) = λ p' r e w k. h.0 p' (r ++ q) e
    (sym (append_assoc a b q) ∙ append_more (a ++ b) p' r q (rw append-nil at w)) (element_alone p' r (r ++ q) e k) in
    (a, b, w, (none, bracketed_alone a (b ++ q) (b ++ []) (tt, (tt, (tt, tt))) h.1), items_alone b q vs more)

full_alone : (p q : Text) (es : List ElementValue) → IsMany full_element p q es → IsMany item p [] (map Some es)
full_alone p q [] h = (h.0, no_item_nil)
full_alone p q (e ∷ es) (a, b, w, h, more) = (a, b, w, element_alone a (b ++ q) (b ++ []) e h.0, full_alone b q es more)

are_of : {C : Class} {t q : Text} {v : C.Value} {vs : List (Option ElementValue)} (f : Front C t q v)
    → IsMany item f.piece [] vs → AreItems t q vs
are_of f h =
    record { piece = f.piece; whole = f.whole; items = front_of f.piece (sym (append-nil f.piece)) h }

pub are_items : {t q : Text} {vs : List (Option ElementValue)} → Front (many item) t q vs → AreItems t q vs
are_items {q = q} {vs = vs} f = are_of f (items_alone f.piece q vs f.is)

pub are_full_items : {t q : Text} {es : List ElementValue} → Front (many full_element) t q es
    → AreItems t q (map Some es)
are_full_items {q = q} {es = es} f = are_of f (full_alone f.piece q es f.is)

-- ---- whether there is a list
pub items_none : {t q : Text} (own : List ℕ) (vs : List (Option ElementValue)) → Front (many item) t q vs
    → t ≡ chars own ++ q → length own ≡ 0 → vs ≡ []
items_none own [] f e l = refl
items_none {t = t} {q = q} own (v ∷ vs) f e l =
    let (u, first, rest) = many_parts item f in
    let k = chars_empty own l in
    let m = ap length e in
    absurd (omega (arith, item_shorter t u v first, front_longer (many item) rest, length-append (chars own) q))

-- a list with a character
pub some_forgiving : {t q : Text} (own : Text) (vs : List (Option ElementValue)) → Front (many item) t q vs
    → t ≡ own ++ q → 0 < length own → Front forgiving t q (strict vs)
some_forgiving {q = q} own [] f e l =
    absurd (omega (arith, ap length (sym e ∙ f.whole), ap length f.is.0, length-append own q, length-append f.piece q))
some_forgiving own (v ∷ vs) f e l =
    record { piece = f.piece; whole = f.whole; is = inr (v ∷ vs, omega arith, f.is, refl) }

-- elements with a parameter, of which there may be none
pub optional_full : (rule : DashRule) {t q : Text} (es : List ElementValue)
    → ((r : Text) → t ≡ 45 ∷ r → IsDashBefore rule r → ⊥) → Front (many full_element) t q es
    → (os : Option (List ElementValue)) × Front (optional (rfc3164_list rule)) t q os × (es ≡ elements_or os)
optional_full rule {t = t} {q = q} [] n f =
    let same = f.whole ∙ ap (λ (x : Text). x ++ q) f.is.0 in
    let absent = list_absent rule t q n f in
    (None, subst (λ (x : Text). Front (optional (rfc3164_list rule)) t x None) same absent, refl)
optional_full rule (e ∷ es) n f = (Some (e ∷ es), front_of f.piece f.whole (inr (omega arith, f.is)), refl)
