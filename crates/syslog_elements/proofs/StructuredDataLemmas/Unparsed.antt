-- What is left unparsed of a list: one text, which is nothing or goes from a bracket to a bracket.
use Rattle.syslog_elements.proofs.Names.{∥∥₁_elim, append_cancel_right, IsDeterministic, elements_text, joined_elements}
use Rattle.syslog_elements.proofs.Names.{append_assoc, some_run, full_element, ElementValue, element_text, is_open_char}
use Rattle.syslog_elements.proofs.Names.{shown, many_cons, append_more, append-nil, list_before, front_same, is_id_char}
use Rattle.syslog_elements.proofs.Names.{many_here, strict, ℕ, NoFront, exactly, element, forgiving, many_det, is_blank}
use Rattle.syslog_elements.proofs.Names.{Bor, props, Option, subst, arith, length, Class, Values, Front, texted, IsMany}
use Rattle.syslog_elements.proofs.Names.{◌≡◌, ◌≢◌, ◌⊎◌, List, [], ◌++◌, Some, None, refl, Text, many, param, item, dash}
use Rattle.syslog_elements.proofs.Names.{◌<◌, inl, inr, ◌∷◌, sym, ap, ◌∙◌, map, run}
use Rattle.std.specs.List.{AllByRecursion}
use Rattle.syslog_text.{proofs.PieceLemmas.Class.front_of, specs.Pieces.Class.Divides, specs.Pieces.Class.join}
use Rattle.syslog_elements.specs.StructuredData.Canonical.{IsCanonicalElement}
use Rattle.syslog_elements.specs.StructuredData.Unparsed.{FollowsStrict, IsUnparsed, if_any, leaving}
use Rattle.syslog_elements.{proofs.StructuredDataLemmas.Walk.items_alone, specs.StructuredData.Visited.LeavesBroken}
use Rattle.syslog_elements.specs.declared.structured_data.line_list.Tally.{Tally}
use Rattle.syslog_elements.proofs.StructuredDataLemmas.Tallies.{Gone, Unbroken, gone_all, no_dash_items, own_items}
use Rattle.syslog_elements.proofs.StructuredDataLemmas.Elements.{element_back, element_det, forgiving_det, item_begins}
use Rattle.syslog_elements.proofs.StructuredDataLemmas.Elements.{no_item_nil}
use Rattle.syslog_elements.proofs.StructuredDataLemmas.Walk.{are_full_items, are_items, element_alone, full_begins}

-- ---- a text that may be empty

pub any_none : (u : Text) → None ≡ if_any u → u ≡ []
any_none [] e = refl
any_none (c ∷ u) e = cc

pub any_some : (t u : Text) → Some t ≡ if_any u → u ≡ t
any_some t [] e = cc
any_some t (c ∷ u) e = cc

-- ---- a list in printed form

no_element_nil : NoFront element []
no_element_nil p q v e is = no_item_nil p q (Some v) e is

many_back : (es : List ElementValue) → AllByRecursion IsCanonicalElement es → IsMany element (joined_elements es) [] es
many_back [] each = (refl, no_element_nil)
many_back (e ∷ es) each =
    (element_text e, joined_elements es, refl, element_back e (joined_elements es ++ []) each.0, many_back es each.1)

no_dash : (e : ElementValue) (es : List ElementValue) → joined_elements (e ∷ es) ≢ dash
no_dash e es same = cc

-- leaves nothing
pub printed_leaves : (list : Text) (es : List ElementValue) → AllByRecursion IsCanonicalElement es
    → list ≡ elements_text es → IsUnparsed list []
printed_leaves list [] each e = ∣ inl (e, refl) ∣₁
printed_leaves list (x ∷ es) each e = ∣ inr (
  (λ d. no_dash x es (sym e ∙ d)),
  (
    x ∷ es,
    subst (λ (t : Text). Front (many element) t [] (x ∷ es)) (sym e)
        (front_of (joined_elements (x ∷ es)) (sym (append-nil (joined_elements (x ∷ es)))) (many_back (x ∷ es) each)),
  ),
) ∣₁

pub nothing_leaves : (list : Text) → list ≡ [] → IsUnparsed list []
nothing_leaves list e = ∣ inr (
  (λ d. (let k = sym e ∙ d in absurd cc)),
  ([], subst (λ (t : Text). Front (many element) t [] []) (sym e) (front_of [] refl (refl, no_element_nil))),
) ∣₁

-- nor does a list of elements with parameters

elements_alone : (p q : Text) (es : List ElementValue) → IsMany full_element p q es → IsMany element p [] es
elements_alone p q [] h = (h.0, no_element_nil)
elements_alone p q (e ∷ es) (a, b, w, h, more) =
    (a, b, w, element_alone a (b ++ q) (b ++ []) e h.0, elements_alone b q es more)

first_apart : (q r : Text) → 45 ∷ q ≡ 91 ∷ r → ⊥
first_apart q r e = cc

full_no_dash : (p q : Text) (e : ElementValue) (es : List ElementValue) → IsMany full_element p q (e ∷ es) → p ≢ dash
full_no_dash p q e es (a, b, w, is, more) d =
    let (r, begins) = full_begins a (b ++ q) e is in
    first_apart q r (sym (ap (λ (x : Text). x ++ q) d) ∙ ap (λ (x : Text). x ++ q) w ∙ append_assoc a b q ∙ begins)

pub full_leaves : (p q : Text) (es : List ElementValue) → 0 < length es → IsMany full_element p q es → IsUnparsed p []
full_leaves p q [] some h = absurd (omega arith)
full_leaves p q (e ∷ es) some h =
    ∣ inr (full_no_dash p q e es h, (e ∷ es, front_of p (sym (append-nil p)) (elements_alone p q (e ∷ es) h))) ∣₁

-- ---- one text

follows_same : (list u w : Text) → FollowsStrict list u → FollowsStrict list w → u ≡ w
follows_same list u w (inl (d, e)) (inl (c, f)) = e ∙ sym f
follows_same list u w (inl (d, e)) (inr (n, f)) = absurd (n d)
follows_same list u w (inr (n, f)) (inl (d, e)) = absurd (n d)
follows_same list u w (inr (n, (es, f))) (inr (m, (fs, g))) =
    (front_same (many element) (many_det element element_det) f g).0

text_set : IsSet Text
text_set = Prim.hlevel props

pub unparsed_same : (list u w : Text) → IsUnparsed list u → IsUnparsed list w → u ≡ w
unparsed_same list u w a b =
    ∥∥₁_elim a (text_set u w) (λ f. ∥∥₁_elim b (text_set u w) (λ g. follows_same list u w f g))

pub leaving_det : IsDeterministic leaving
leaving_det p q p' q' u w e ((es, f), left) ((fs, g), right) =
    let same = (forgiving_det p q p' q' es fs e f g).0 in
    (same, unparsed_same p' u w (subst (λ (x : Text). IsUnparsed x u) same left) right)

-- what canonical elements print as, where no item follows
pub leaving_back : (es : List ElementValue) (q : Text) → AllByRecursion IsCanonicalElement es
    → forgiving.Is (elements_text es) q es
    → leaving.Is (elements_text es) q []
leaving_back es q each is = ((es, is), printed_leaves (elements_text es) es each refl)

-- ---- from a bracket to a bracket

-- the text ends in this character
abbrev pub EndsIn : ℕ → Text → Type 0
EndsIn c t = (front : Text) × (t ≡ front ++ c ∷ [])

ends_more : (c : ℕ) (p t : Text) → EndsIn c t → EndsIn c (p ++ t)
ends_more c p t (front, e) = (p ++ front, ap (λ (x : Text). p ++ x) e ∙ sym (append_assoc p front (c ∷ [])))

row_ends : (c : ℕ) (Cs : List Class) (ps : List Text) (q : Text) (vs : Values (Cs ++ (exactly (c ∷ []) ∷ [])))
    → Divides (Cs ++ (exactly (c ∷ []) ∷ [])) ps q vs → EndsIn c (join ps)
row_ends c [] [] q vs h = absurd h
row_ends c [] (p ∷ []) q vs h = ([], append-nil p ∙ h.0)
row_ends c [] (p ∷ p' ∷ ps) q vs h = absurd h.1
row_ends c (C ∷ Cs) [] q vs h = absurd h
row_ends c (C ∷ Cs) (p ∷ ps) q vs h = ends_more c p (join ps) (row_ends c Cs ps q vs.1 h.1)

-- all of an element but its last bracket
abbrev before_close : List Class
before_close =
    exactly (91 ∷ []) ∷ texted (some_run is_id_char) ∷ run is_blank ∷ list_before param 32 93 ∷ []

item_ends : (p q : Text) (v : Option ElementValue) → item.Is p q v → EndsIn 93 p
item_ends p q (Some e) (vs, (ps, same, each), is) =
    let (front, end) = row_ends 93 before_close ps q vs each in (front, same ∙ end)
item_ends p q None (none, (ps, same, each)) =
    let (front, end) = row_ends 93 (exactly (91 ∷ []) ∷ run is_open_char ∷ []) ps q _ each in (front, same ∙ end)

items_end : (p q : Text) (v : Option ElementValue) (vs : List (Option ElementValue)) → IsMany item p q (v ∷ vs)
    → EndsIn 93 p
items_end p q v [] (a, b, e, is, (none, _)) =
    let (front, end) = item_ends a (b ++ q) v is in
    (front, e ∙ ap (λ (x : Text). a ++ x) none ∙ append-nil a ∙ end)
items_end p q v (w ∷ vs) (a, b, e, is, more) =
    let (front, end) = ends_more 93 a b (items_end b q w vs more) in (front, e ∙ end)

-- such a text begins with a bracket and ends in one
pub record IsBracketed (u : Text) : Type 0 where
  pub begins : (r : Text) × (u ≡ 91 ∷ r)
  pub ends : EndsIn 93 u

items_bracketed : (u : Text) (vs : List (Option ElementValue)) → Front (many item) u [] vs → (u ≡ []) ⊎ IsBracketed u
items_bracketed u [] f = inl (f.whole ∙ append-nil f.piece ∙ f.is.0)
items_bracketed u (v ∷ vs) f =
    let (a, b, e, is, more) = f.is in
    let own = f.whole ∙ append-nil f.piece in
    let (r, first) = item_begins a (b ++ []) v is in
    let (front, last) = items_end f.piece [] v vs f.is in
    inr (record {
      begins = (r, own ∙ e ∙ ap (λ (x : Text). a ++ x) (sym (append-nil b)) ∙ first);
      ends = (front, own ∙ last);
    })

-- the strict items at the front, and those that are left
pub record LeftOfItems (p : Text) (vs : List (Option ElementValue)) : Type 0 where
  pub unparsed : Text
  pub strict_ones : List ElementValue
  pub others : List (Option ElementValue)
  pub split : vs ≡ map Some strict_ones ++ others
  pub front : Front (many element) p unparsed strict_ones
  pub left : Front (many item) unparsed [] others

pub items_leave : (p : Text) (vs : List (Option ElementValue)) → IsMany item p [] vs → LeftOfItems p vs
items_leave p [] h = record {
  unparsed = [];
  strict_ones = [];
  others = [];
  split = refl;
  front = subst (λ (t : Text). Front (many element) t [] []) (sym h.0) (front_of [] refl (refl, no_element_nil));
  left = front_of [] refl (refl, no_item_nil);
}
items_leave p (Some e ∷ vs) (a, b, w, is, more) =
    let rest = items_leave b vs more in
    record {
      unparsed = rest.unparsed;
      strict_ones = e ∷ rest.strict_ones;
      others = rest.others;
      split = ap (λ (x : List (Option ElementValue)). Some e ∷ x) rest.split;
      front = many_cons element (front_of a w (element_alone a (b ++ []) b e is)) rest.front;
      left = rest.left;
    }
items_leave p (None ∷ vs) h =
    let (a, b, w, is, more) = h in
    let whole : p ≡ a ++ (b ++ []) = w ∙ ap (λ (x : Text). a ++ x) (sym (append-nil b)) in
    record {
      unparsed = p;
      strict_ones = [];
      others = None ∷ vs;
      split = refl;
      front = many_here element p (subst (λ (x : Text). NoFront element x) (sym whole) is.0);
      left = front_of p (sym (append-nil p)) h;
    }

-- which are what is left unparsed
pub left_of_items : (p q u : Text) (vs : List (Option ElementValue)) → IsMany item p q vs → IsUnparsed p u
    → (at : LeftOfItems p vs) × (u ≡ at.unparsed)
left_of_items p q u vs are left =
    let own = items_alone p q vs are in
    let at = items_leave p vs own in
    let no_dash = no_dash_items vs (front_of p (sym (append-nil p)) own) in
    (at, unparsed_same p u at.unparsed left ∣ inr (no_dash, (at.strict_ones, at.front)) ∣₁)

pub left_bracketed : (p q u : Text) → leaving.Is p q u → (u ≡ []) ⊎ IsBracketed u
left_bracketed p q u ((es, inl (d, e)), left) = inl (unparsed_same p u [] left ∣ inl (d, refl) ∣₁)
left_bracketed p q u ((es, inr (vs, some, are, same)), left) =
    let (at, e) = left_of_items p q u vs are left in
    subst (λ (x : Text). (x ≡ []) ⊎ IsBracketed x) (sym e) (items_bracketed at.unparsed at.others at.left)

-- ---- what the walk marks as broken

-- elements stay elements where another text follows
many_alone : (p q r : Text) (es : List ElementValue) → IsMany element p q es → NoFront element r
    → IsMany element p r es
many_alone p q r [] h none = (h.0, none)
many_alone p q r (e ∷ es) (a, b, w, is, more) none =
    (a, b, w, element_alone a (b ++ q) (b ++ r) e is, many_alone b q r es more none)

-- what is left of the items that were walked
module _ {V : Type 0} {given : V → V → List ElementValue → Type 0} {text rest : Text} {old new : V} {tally : Tally}
    (s : Gone item (λ vs. strict vs) given text rest old new tally) (n : NoFront item rest) where
  all_items : Front (many item) text rest s.vs
  all_items = gone_all _ _ _ s n

  not_dash : (p : Text) → text ≡ p ++ rest → p ≢ dash
  not_dash p w d = no_dash_items s.vs (own_items all_items.whole (are_items all_items))
      (append_cancel_right all_items.piece p rest (sym all_items.whole ∙ w) ∙ d)

  leaves_by : (broken : Option (Bor (List ℕ))) → Unbroken text rest s.es broken → LeavesBroken text rest broken
  leaves_by None read =
      let f = read rest [] (many_here element rest (λ p q e w is. n p q (Some e) w is)) in
      record {
        piece = f.piece;
        whole = f.whole;
        unparsed = [];
        left = ∣ inr (
          not_dash f.piece f.whole,
          (_, front_of f.piece (sym (append-nil f.piece)) (many_alone f.piece rest [] _ f.is no_element_nil)),
        ) ∣₁;
        is = (tt, refl);
      }
  leaves_by (Some b) (utf8, none, (fs, read), (u, e)) =
      let f = read (shown b) [] (many_here element (shown b) none) in
      let whole : text ≡ (f.piece ++ u) ++ rest =
      f.whole ∙ ap (λ (x : Text). f.piece ++ x) e ∙ sym (append_assoc f.piece u rest) in
      let no_element : NoFront element u = λ p r x w is. none p (r ++ rest) x (e ∙ append_more u p r rest w)
      (element_alone p r (r ++ rest) x is) in
      record {
        piece = f.piece ++ u;
        whole = whole;
        unparsed = u;
        left = ∣ inr (
          not_dash (f.piece ++ u) whole,
          (_, front_of f.piece refl (many_alone f.piece (shown b) u _ f.is no_element)),
        ) ∣₁;
        is = (utf8, e);
      }

  pub gone_leaves : LeavesBroken text rest tally.broken
  gone_leaves = leaves_by tally.broken s.unbroken

-- nothing is left of elements with a parameter
pub full_leaves_none : {text rest : Text} {es : List ElementValue} (broken : Option (Bor (List ℕ))) → broken ≡ None
    → Front (many full_element) text rest es → LeavesBroken text rest broken
full_leaves_none {text = text} {rest = rest} {es = es} broken none f =
    subst (LeavesBroken text rest) (sym none) (record {
      piece = f.piece;
      whole = f.whole;
      unparsed = [];
      left = ∣ inr (
        no_dash_items (map Some es) (own_items f.whole (are_full_items f)),
        (es, front_of f.piece (sym (append-nil f.piece)) (elements_alone f.piece rest es f.is)),
      ) ∣₁;
      is = (tt, refl);
    })

pub any_of_some : (u : Text) → 0 < length u → Some u ≡ if_any u
any_of_some [] some = absurd (omega arith)
any_of_some (c ∷ u) some = refl
