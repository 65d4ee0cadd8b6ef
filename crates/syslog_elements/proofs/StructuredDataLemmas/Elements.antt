-- Values, parameters, elements and items: a text has one of each at its front.
-- Canonical elements are read back from their print, and what is read is canonical.
use Rattle.syslog_elements.proofs.Names.{AllByRecursion-prop, IsCanonicalElement, AllDeterministic, IsCanonicalParam}
use Rattle.syslog_elements.proofs.Names.{joined_elements, AllByRecursion, BeginsUnblank, elements_text, is_prop→PathP}
use Rattle.syslog_elements.proofs.Names.{length-append, Class, append_assoc, is_name_char, is_open_char, ElementValue}
use Rattle.syslog_elements.proofs.Names.{some_run_det, is_id_char, element_text, one_value-is, list_before, IsValueUnit}
use Rattle.syslog_elements.proofs.Names.{element_row, opening_row, element_of, texted_det, front_same, mapped_det}
use Rattle.syslog_elements.proofs.Names.{param_text, row_pieces, param_of, quoted_row, OneMeaning, inside_row}
use Rattle.syslog_elements.proofs.Names.{nat_tests, forgiving, many_here, one_value, unit_text, param_row, bracketed}
use Rattle.syslog_elements.proofs.Names.{start_row, is_blank, many_det, value, flat_map, list_any, some_run, TextUnit}
use Rattle.syslog_elements.proofs.Names.{element, run_det, row_det, ◌≢◌, is_none, IsValue, NoFront, exactly, Divides}
use Rattle.syslog_elements.proofs.Names.{IsMany, IsList, IsMore, quoted, ◌<◌, inside, length, Option, single, strict}
use Rattle.syslog_elements.proofs.Names.{append_more, ◌also◌, begins, Values, param, heads, Meets, props, false, arith}
use Rattle.syslog_elements.proofs.Names.{subst, Front, Each, pair, many, item, dash, Ends, Bool, drop, Some, None, refl}
use Rattle.syslog_elements.proofs.Names.{Text, join, ◌++◌, List, ap, inl, inr, ◌∷◌, sym, ◌∙◌, map, Row, run, [], ℕ}
use Rattle.syslog_elements.proofs.Names.{◌≡◌, drop-append_seam, bare_param_text, exactly_det, IsDeterministic}
use Rattle.std.proofs.lemmas.List.Elements.{filter_map-append}
use Rattle.syslog_text.proofs.PieceLemmas.{Class.all_joined, Class.front_of, Lists.list_before_det}
use Rattle.syslog_elements.proofs.StructuredDataLemmas.Units.{unit_same, units_same}

-- ---- values

-- the text begins with a quote
abbrev pub BeginsQuote : Text → Type 0
BeginsQuote t = (r : Text) × (t ≡ 34 ∷ r)

pub no_quote_unit : (u : TextUnit) (t : Text) → IsValueUnit u → BeginsQuote (unit_text u ++ t) → ⊥
no_quote_unit (pair c) t h (r, e) = let i : ◌≡◌ {A = ℕ} 92 34 = cc in omega arith
no_quote_unit (single c) t h (r, e) = h.1 (cc)

pub value_det : IsDeterministic value
value_det p q p' q' v v' e ((us, f, h), z, w) ((us', f', h'), z', w') =
    let same = units_same IsValueUnit (λ c i. i.0) BeginsQuote no_quote_unit us us' q q' h h' z z' (cc) in
    let t = f ∙ ap (flat_map unit_text) same.0 ∙ sym f' in (t, w ∙ t ∙ sym w')

-- the value after a unit
value_after : (u : TextUnit) (t q : Text) (us : List TextUnit) → IsValueUnit u → AllByRecursion IsValueUnit us
    → BeginsQuote q → unit_text u ++ t ≡ flat_map unit_text us ++ q → (v : Text) × Front value t q v
value_after u t q [] h a z e = absurd (no_quote_unit u t h (z.0, e ∙ z.1))
value_after u t q (w ∷ us) h a z e =
    let rest = unit_same IsValueUnit (λ c i. i.0) u w t _ h a.0 (e ∙ append_assoc (unit_text w) _ q) in
    (flat_map unit_text us, record { piece = flat_map unit_text us; whole = rest.1; is = ((us, refl, a.1), z, refl) })

pub unit_goes : (u : TextUnit) (t t' : Text) → IsValueUnit u → t ≡ unit_text u ++ t' → Meets value t value t'
unit_goes u t t' h e = record {
  forth = λ q v f. (
      let (us, w, all) = f.is.0 in
      let on = λ (x : Text). unit_text u ++ x in
      let whole = e ∙ ap on f.whole ∙ sym (append_assoc (unit_text u) f.piece q) in
      (on v, front_of (on f.piece) whole ((u ∷ us, ap on w, (h, all)), f.is.1, ap on f.is.2)));
  back = λ q v f. value_after u t' q f.is.0.0 h f.is.0.2 f.is.1 (sym e ∙ f.whole ∙ ap (λ (x : Text). x ++ q) f.is.0.1);
}

pub value_here : (t r : Text) → t ≡ 34 ∷ r → Front value t t []
value_here t r e = record { piece = []; whole = refl; is = (([], refl, tt), (r, e), refl) }

-- ---- parameters and elements
pub start_det : AllDeterministic start_row
start_det =
    exactly_det (91 ∷ []) also texted_det (some_run is_id_char) (some_run_det is_id_char) also run_det is_blank also tt

pub opening_det : AllDeterministic opening_row
opening_det =
    texted_det (some_run is_name_char) (some_run_det is_name_char) also exactly_det (61 ∷ []) also run_det is_blank
    also exactly_det (34 ∷ []) also tt

quoted_row_det : AllDeterministic quoted_row
quoted_row_det = value_det also exactly_det (34 ∷ []) also tt

pub quoted_det : IsDeterministic quoted
quoted_det = row_det quoted_row quoted_row_det

pub param_det : IsDeterministic param
param_det = mapped_det (Row param_row) (Text × Text) param_of
    (row_det param_row (all_joined opening_row quoted_row opening_det quoted_row_det))

-- a nonempty run of such characters doesn't begin with a bracket
pub run_no_close : (w q r : Text) → 0 < length w → Each is_name_char w → w ++ q ≡ 93 ∷ r → ⊥
run_no_close [] q r l h e = omega arith
run_no_close (c ∷ w) q r l h e = let other : c ≢ 93 = grind (arith, nat_tests, h.0) in other (cc)

param_apart : (p q : Text) (v : Text × Text) (r : Text) → param.Is p q v → p ++ q ≡ 93 ∷ r → ⊥
param_apart p q v r (vs, ([], f, h), g) e = h
param_apart p q v r (vs, (name ∷ ps, f, h), g) e =
    run_no_close name (join ps ++ q) r h.0.1.0 h.0.1.1
    (sym (append_assoc name (join ps) q) ∙ ap (λ (x : Text). x ++ q) (sym f) ∙ e)

pub space_is_no_close : ◌≢◌ {A = ℕ} 32 93
space_is_no_close e = omega arith

pub params_det : IsDeterministic (list_before param 32 93)
params_det = list_before_det param 32 93 space_is_no_close param_det param_apart

inside_row_det : AllDeterministic inside_row
inside_row_det = params_det also exactly_det (93 ∷ []) also tt

pub inside_det : IsDeterministic inside
inside_det = row_det inside_row inside_row_det

pub element_det : IsDeterministic element
element_det = mapped_det (Row element_row) ElementValue element_of
    (row_det element_row (all_joined start_row inside_row start_det inside_row_det))

-- ---- forgiving lists
abbrev pub bracketed_row : List Class
bracketed_row = exactly (91 ∷ []) ∷ run is_open_char ∷ exactly (93 ∷ []) ∷ []

pub bracketed_row_det : AllDeterministic bracketed_row
bracketed_row_det = exactly_det (91 ∷ []) also run_det is_open_char also exactly_det (93 ∷ []) also tt

pub item_det : IsDeterministic item
item_det p q p' q' (Some v) (Some v') e h h' = let r = element_det p q p' q' v v' e h h' in (r.0, ap Some r.1)
item_det p q p' q' (Some v) None e h h' = absurd (h'.0 p q v (sym e) h)
item_det p q p' q' None (Some v') e h h' = absurd (h.0 p' q' v' e h')
item_det p q p' q' None None e (n, h) (n', h') =
    ((row_det bracketed_row bracketed_row_det p q p' q' (tt, (tt, (tt, tt))) (tt, (tt, (tt, tt))) e h h').0, refl)

-- an item begins with a bracket
item_piece : (p q : Text) (v : Option ElementValue) → item.Is p q v → (r : Text) × (p ≡ 91 ∷ r)
item_piece p q (Some v) (vs, ([], f, h), g) = absurd h
item_piece p q (Some v) (vs, (a ∷ ps, f, h), g) = (join ps, f ∙ ap (λ (x : Text). x ++ join ps) h.0)
item_piece p q None (n, ([], f, h)) = absurd h
item_piece p q None (n, (a ∷ ps, f, h)) = (join ps, f ∙ ap (λ (x : Text). x ++ join ps) h.0)

pub item_begins : (p q : Text) (v : Option ElementValue) → item.Is p q v → (r : Text) × (p ++ q ≡ 91 ∷ r)
item_begins p q v h = let (r, e) = item_piece p q v h in (r ++ q, ap (λ (x : Text). x ++ q) e)

-- no text begins with a dash and with pieces that begin with a bracket
pub dash_apart : (C : Class) → ((p q : Text) (v : C.Value) → C.Is p q v → (r : Text) × (p ++ q ≡ 91 ∷ r))
    → (p q p' q' : Text) (vs : List C.Value) → p ≡ dash → 0 < length vs → (many C).Is p' q' vs → p ++ q ≡ p' ++ q' → ⊥
dash_apart C begins p q p' q' [] f l m e = omega arith
dash_apart C begins p q p' q' (v ∷ vs) f l (a, b, i, k, more) e =
    let (r, s) = begins a (b ++ q') v k in
    let t = heads 45 91 q r (sym (ap (λ (x : Text). x ++ q) f) ∙ e ∙ append_more p' a b q' i ∙ s) in omega arith

pub forgiving_det : IsDeterministic forgiving
forgiving_det p q p' q' es es' e (inl (f, g)) (inl (f', g')) = (f ∙ sym f', g ∙ sym g')
forgiving_det p q p' q' es es' e (inl (f, g)) (inr (vs, l, m, g')) =
    absurd (dash_apart item item_begins p q p' q' vs f l m e)
forgiving_det p q p' q' es es' e (inr (vs, l, m, g)) (inl (f, g')) =
    absurd (dash_apart item item_begins p' q' p q vs f l m (sym e))
forgiving_det p q p' q' es es' e (inr (vs, l, m, g)) (inr (vs', l', m', g')) =
    let s = many_det item item_det p q p' q' vs vs' e m m' in (s.0, g ∙ ap strict s.1 ∙ sym g')

-- what follows an item is shorter than the text
pub item_shorter : (t u : Text) (v : Option ElementValue) → Front item t u v → length u < length t
item_shorter t u v f =
    let (r, e) = item_piece f.piece u v f.is in
    omega (arith, ap length e, ap length f.whole, length-append f.piece u)

pub element_item : (t q : Text) (e : ElementValue) → Front element t q e → Front item t q (Some e)
element_item t q e f = record { piece = f.piece; whole = f.whole; is = f.is }

pub element_shorter : (t u : Text) (e : ElementValue) → Front element t u e → length u < length t
element_shorter t u e f = item_shorter t u (Some e) (element_item t u e f)

-- ---- one item
pub no_item : (t : Text) → NoFront element t → NoFront bracketed t → NoFront item t
no_item t n m p q (Some e) w h = n p q e w h
no_item t n m p q None w h = m p q (tt, (tt, (tt, tt))) w h.1

pub bracketed_item : (t q : Text) → NoFront element t → Front bracketed t q (tt, (tt, (tt, tt))) → Front item t q None
bracketed_item t q n f =
    record { piece = f.piece; whole = f.whole; is = (subst (λ (x : Text). NoFront element x) f.whole n, f.is) }

-- ---- the strict elements among items
pub strict_append : (vs ws : List (Option ElementValue)) → strict (vs ++ ws) ≡ strict vs ++ strict ws
strict_append = filter_map-append (λ item. item)

-- strict elements, as items
pub strict_some : (es : List ElementValue) → es ≡ strict (map Some es)
strict_some [] = refl
strict_some (e ∷ es) = ap (λ (x : List ElementValue). e ∷ x) (strict_some es)

-- ---- the list

pub no_forgiving_list : (t q : Text) (vs : List (Option ElementValue)) → NoFront (exactly dash) t
    → Front (many item) t q vs
    → vs ≡ [] → NoFront forgiving t
no_forgiving_list t q vs n f z p r es e (inl (g, h)) = n p r tt e g
no_forgiving_list t q vs n f z p r es e (inr (ws, l, m, g)) =
    let s = front_same (many item) (many_det item item_det) f (record { piece = p; whole = e; is = m }) in
    let k = ap length (sym z ∙ s.1) in omega arith

-- items of which none is strict and none is broken
pub no_items : (vs : List (Option ElementValue)) → [] ≡ strict vs → false ≡ list_any is_none vs → vs ≡ []
no_items [] e f = refl
no_items (None ∷ vs) e f = cc
no_items (Some d ∷ vs) e f = cc

-- ---- parameters are read back from their print
abbrev param_values : Text → Text → Values param_row
param_values name v = (name, (tt, (tt, (tt, (v, (tt, tt))))))

-- a canonical parameter is read back, whatever follows it
param_back : (name v q : Text) → IsCanonicalParam (name, v) → param.Is (bare_param_text (name, v)) q (name, v)
param_back name v q (long, each, units) =
    let is : Divides param_row (name ∷ (61 ∷ []) ∷ [] ∷ (34 ∷ []) ∷ v ∷ (34 ∷ []) ∷ []) q (param_values name v) =
    (tt, (long, each, refl), refl) also refl also (tt, refl) also refl also (units, (_, refl), refl) also refl
    also tt in
    (param_values name v, (name ∷ (61 ∷ []) ∷ [] ∷ (34 ∷ []) ∷ v ∷ (34 ∷ []) ∷ [], refl, is), refl)

-- further parameters, each after its space
more_back : (ps : List (Text × Text)) (q : Text) → AllByRecursion IsCanonicalParam ps
    → IsMore param 32 (flat_map param_text ps) q ps
more_back [] q h = refl
more_back ((name, v) ∷ ps) q (canonical, canonicals) =
    let param = param_back name v (flat_map param_text ps ++ q) canonical in
    (bare_param_text (name, v), flat_map param_text ps, refl, param, more_back ps q canonicals)

-- what is read as a parameter is canonical
param_canonical : (p q : Text) (v : Text × Text) → param.Is p q v → IsCanonicalParam v
param_canonical p q v (vs, row, e) =
    let g = row_pieces param_row (record { piece = p; whole = refl; is = row }) in
    let (_, name, name_is) = g.1.is in
    let (units, _, value_is) = g.2.2.2.2.1.is in
    rw e (rw name_is name.0, rw name_is name.1, rw value_is units)

more_canonical : (p q : Text) (vs : List (Text × Text)) → IsMore param 32 p q vs → AllByRecursion IsCanonicalParam vs
more_canonical p q [] h = tt
more_canonical p q (v ∷ vs) (a, b, e, h, more) = (param_canonical a (b ++ q) v h, more_canonical b q vs more)

list_canonical : (p q : Text) (vs : List (Text × Text)) → IsList param 32 p q vs → AllByRecursion IsCanonicalParam vs
list_canonical p q [] h = tt
list_canonical p q (v ∷ vs) (a, b, e, h, more) = (param_canonical a (b ++ q) v h, more_canonical b q vs more)

-- ---- elements

abbrev element_values : Text → List (Text × Text) → Values element_row
element_values id ps = (tt, (id, (tt, (ps, (tt, tt)))))

abbrev pub element_with : Text → List (Text × Text) → ElementValue
element_with id ps = record { id = id; params = ps }

-- a canonical element is read back, whatever follows it
element_of_parts : (id : Text) (ps : List (Text × Text)) (q : Text) → IsCanonicalElement (element_with id ps)
    → element.Is (element_text (element_with id ps)) q (element_with id ps)
element_of_parts id [] q (long, each, canonical, first) =
    let is : Divides element_row ((91 ∷ []) ∷ id ∷ [] ∷ [] ∷ (93 ∷ []) ∷ []) q (element_values id []) =
    refl also (tt, (long, each, refl), refl) also (tt, refl) also (refl, (_, refl)) also refl also tt in
    (element_values id [], ((91 ∷ []) ∷ id ∷ [] ∷ [] ∷ (93 ∷ []) ∷ [], refl, is), refl)
element_of_parts id ((name, v) ∷ ps) q (long, each, (canonical, canonicals), first) =
    let head : Text = bare_param_text (name, v) in
    let more : Text = flat_map param_text ps in
    let gap = begins_more name (61 ∷ 34 ∷ (v ++ (34 ∷ []))) more (93 ∷ []) q canonical.0 first in
    let first_is = param_back name v (more ++ (93 ∷ q)) canonical in
    let list : IsList param 32 (head ++ more) (93 ∷ q) ((name, v) ∷ ps) =
    (head, more, refl, first_is, more_back ps (93 ∷ q) canonicals) in
    let is : Divides element_row ((91 ∷ []) ∷ id ∷ (32 ∷ []) ∷ (head ++ more) ∷ (93 ∷ []) ∷ []) q
    (element_values id ((name, v) ∷ ps)) = refl also (tt, (long, each, refl), refl) also ((refl, tt), gap)
    also (list, (q, refl)) also refl also tt in
    (element_values id ((name, v) ∷ ps), ((91 ∷ []) ∷ id ∷ (32 ∷ []) ∷ (head ++ more) ∷ (93 ∷ []) ∷ [], refl, is), refl)
  where
    begins_more : (name a b c d : Text) → 0 < length name → Ends is_blank name
        → Ends is_blank ((((name ++ a) ++ b) ++ c) ++ d)
    begins_more [] a b c d l h = absurd (omega arith)
    begins_more (x ∷ name) a b c d l h = h

pub element_back : (e : ElementValue) (q : Text) → IsCanonicalElement e → element.Is (element_text e) q e
element_back e q h = element_of_parts e.id e.params q h

first_canonical : (p q : Text) (vs : List (Text × Text)) → IsList param 32 p q vs → Ends is_blank (p ++ q)
    → BeginsUnblank vs
first_canonical p q [] h e = tt
first_canonical p q (v ∷ vs) (a, b, w, (ws, row, same), more) e =
    let g = row_pieces param_row {t = a ++ (b ++ q)} {q = b ++ q} (record { piece = a; whole = refl; is = row }) in
    let (_, name, name_is) = g.1.is in
    rw (same, name_is) (front_ends g.1.piece g.0 name.0 (rw (append_more p a b q w ∙ g.1.whole) at e))
  where
    front_ends : (x y : Text) → 0 < length x → Ends is_blank (x ++ y) → Ends is_blank x
    front_ends [] y l h = tt
    front_ends (c ∷ x) y l h = h

-- what is read as an element is canonical
pub element_canonical : (p q : Text) (e : ElementValue) → element.Is p q e → IsCanonicalElement e
element_canonical p q e (vs, row, same) =
    let (_, _, (_, named, (_, gap, (after, list, _)))) = row_pieces element_row
    (record { piece = p; whole = refl; is = row }) in
    let (_, id, id_is) = named.is in
    let gap_ends = subst (λ (x : Text). Ends is_blank x) list.whole gap.is.1 in
    let params = list_canonical list.piece after (element_of vs).params list.is.0 in
    rw (same, id_is)
    (id.0, id.1, params, first_canonical list.piece after (element_of vs).params list.is.0 gap_ends)

-- no item begins at the end, nor with another character than `[`
pub no_item_nil : NoFront item []
no_item_nil p q v e h = let (r, w) = item_begins p q v h in let k = ap length (e ∙ w) in omega arith

pub no_item_before : (c : ℕ) (t : Text) → c ≢ 91 → NoFront item (c ∷ t)
no_item_before c t n p q v e h = let (r, w) = item_begins p q v h in n (heads c 91 t r (e ∙ w))

items_back : (es : List ElementValue) (q : Text) → AllByRecursion IsCanonicalElement es → NoFront item q
    → IsMany item (joined_elements es) q (map Some es)
items_back [] q h n = (refl, n)
items_back (e ∷ es) q (canonical, canonicals) n =
    let first = element_back e (joined_elements es ++ q) canonical in
    (element_text e, joined_elements es, refl, first, items_back es q canonicals n)

-- canonical elements, or none, are read back where no item follows
pub forgiving_back : (es : List ElementValue) (q : Text) → AllByRecursion IsCanonicalElement es → NoFront item q
    → forgiving.Is (elements_text es) q es
forgiving_back [] q h n = inl (refl, refl)
forgiving_back (e ∷ es) q h n = inr (map Some (e ∷ es), omega arith, items_back (e ∷ es) q h n, strict_some (e ∷ es))

pub items_canonical : (p q : Text) (vs : List (Option ElementValue)) → IsMany item p q vs
    → AllByRecursion IsCanonicalElement (strict vs)
items_canonical p q [] h = tt
items_canonical p q (None ∷ vs) (a, b, e, h, more) = items_canonical b q vs more
items_canonical p q (Some v ∷ vs) (a, b, e, h, more) = (element_canonical a (b ++ q) v h, items_canonical b q vs more)

-- what is read as a list is canonical
pub forgiving_canonical : (p q : Text) (es : List ElementValue) → forgiving.Is p q es
    → AllByRecursion IsCanonicalElement es
forgiving_canonical p q es (inl (d, e)) = rw e tt
forgiving_canonical p q es (inr (vs, l, m, e)) = rw e (items_canonical p q vs m)

-- a value and its quote
pub quoted_text : {t u v : Text} → Front quoted t u (v, (tt, tt)) → t ≡ v ++ (34 ∷ u)
quoted_text f =
    let (r, g, (s, quote, end)) = row_pieces quoted_row f in cc (g.whole, g.is.2, begins 34 r s quote, end)

-- no blank is before another character
pub no_blanks : {t q : Text} (c : ℕ) → is_blank c ≡ false → t ≡ c ∷ q → Front (run is_blank) t t tt
no_blanks c h e = record { piece = []; whole = refl; is = (tt, subst (λ (x : Text). Ends is_blank x) (sym e) h) }

-- ---- what recognised elements and lists mean is what is in their texts

-- an element that was recognised, by its parameters
pub seen_is : {id inner q : Text} {ps : List (Text × Text)} (m : OneMeaning inside inner)
    → Front inside inner q (ps, (tt, tt)) → element_with id (one_value m).0 ≡ element_with id ps
seen_is {id = id} m f = ap (λ (v : Values inside_row). element_with id v.0) (one_value-is m f)

-- a list that was recognised, by its items
pub items_are : {t q : Text} {vs : List (Option ElementValue)} (m : OneMeaning (many item) t) → Front (many item) t q vs
    → strict (one_value m) ≡ strict vs
items_are m f = ap strict (one_value-is m f)

-- a front of a text, and what the text is after it
pub left_out : (t p left : Text) → t ≡ p ++ left → t ≡ p ++ drop (length p) t
left_out t p left e = e ∙ ap (λ (x : Text). p ++ x) (sym (ap (drop (length p)) e ∙ drop-append_seam p left))

-- `-`, which is no item
pub dash_items : (t : Text) → t ≡ 45 ∷ [] → Front (many item) t t []
dash_items t e = many_here item t (λ p q v w h. no_item_before 45 [] (λ n. omega arith) p q v (sym e ∙ w) h)

pub no_items_here : (t : Text) → t ≡ [] → Front (many item) t t []
no_items_here t e = many_here item t (λ p q v w h. no_item_nil p q v (sym e ∙ w) h)

-- ---- recognised elements are canonical

unit_prop : (u : TextUnit) → IsProp (IsValueUnit u)
unit_prop (pair c) = Prim.hlevel props
unit_prop (single c) = Prim.hlevel props

pub no_unit_at_end : (u : TextUnit) (t : Text) → IsValueUnit u → unit_text u ++ t ≡ [] → ⊥
no_unit_at_end (pair c) t h e = cc
no_unit_at_end (single c) t h e = cc

value_prop : (t : Text) → IsProp (IsValue t)
value_prop t v w =
    let same : v.0 ≡ w.0 = (units_same IsValueUnit (λ c h. h.0) (λ x. x ≡ []) no_unit_at_end v.0 w.0 [] [] v.2 w.2
    refl refl
    (ap (λ (x : Text). x ++ []) (sym v.1 ∙ w.1))).0 in
    let all = is_prop→PathP (λ i. (t ≡ flat_map unit_text (same i)) × AllByRecursion IsValueUnit (same i))
    (λ i. Prim.hlevel (props, AllByRecursion-prop IsValueUnit unit_prop (same i))) (v.1, v.2) (w.1, w.2) in
    λ i. (let (whole, each) = all i in (same i, whole, each))

each_prop : (test : ℕ → Bool) (t : Text) → IsProp (Each test t)
each_prop test [] = Prim.hlevel props
each_prop test (c ∷ t) = Prim.hlevel (props, each_prop test t)

ends_prop : (test : ℕ → Bool) (t : Text) → IsProp (Ends test t)
ends_prop test [] = Prim.hlevel props
ends_prop test (c ∷ t) = Prim.hlevel props

unblank_prop : (ps : List (Text × Text)) → IsProp (BeginsUnblank ps)
unblank_prop [] = Prim.hlevel props
unblank_prop (p ∷ ps) = ends_prop is_blank p.0

pub element_prop : (e : ElementValue) → IsProp (IsCanonicalElement e)
element_prop e =
    let params = AllByRecursion-prop IsCanonicalParam
    (λ p. Prim.hlevel (props, each_prop is_name_char p.0, value_prop p.1)) e.params in
    Prim.hlevel (props, each_prop is_id_char e.id, params, unblank_prop e.params)
