-- The own text of a list; and a list as far as it was walked: its elements and counts, and the first broken one.
use Rattle.std.specs.Prelude.{MatchOption, is_some, not}
use Rattle.std.{proofs.lemmas.List.append_cancel_left, specs.Option.option_or}
use Rattle.syslog_elements.proofs.StructuredDataLemmas.Walk.{chars_length, flat_map_more}
use Rattle.syslog_elements.proofs.Names.{Bor, append_cancel_right, length, joined_elements, length-append}
use Rattle.syslog_elements.proofs.Names.{elements_text, has_read_more, Class, append_assoc, ElementValue, element_text}
use Rattle.syslog_elements.proofs.Names.{element_seen, ℕ, sum_by_push, IsUtf8, append-nil, front_same, and_parts, ◌≡◌}
use Rattle.syslog_elements.proofs.Names.{many_here, ◌<◌, IsWalked, NoFront, inl, element, HasRead, IsTrue, [], strict}
use Rattle.syslog_elements.proofs.Names.{Visits, Walked, Option, heads, false, subst, Some, arith, Front, shown, chars}
use Rattle.syslog_elements.proofs.Names.{None, List, ◌++◌, refl, Text, many, dash, Bool, ◌&&◌, item, true, inr, ◌∷◌}
use Rattle.syslog_elements.proofs.Names.{sym, ◌∙◌, ◌↔◌, ◌+◌, ◌≤◌, ◌⊎◌, ap, ◌≢◌, cases_Bool, and_from}
use Rattle.syslog_elements.specs.StructuredData.Visited.{IsTallied, AreItems, strict_end}
use Rattle.syslog_elements.specs.declared.structured_data.line_list.Tally.{Tally}
use Rattle.syslog_elements.proofs.StructuredDataLemmas.Elements.{element_shorter, element_det, item_begins}
use Rattle.syslog_elements.proofs.StructuredDataLemmas.Elements.{element_back, element_canonical}
use Rattle.syslog_text.proofs.{PieceLemmas.Lists.many_parts, TextLemmas.Runs.bytes}
use Rattle.syslog_text.proofs.PieceLemmas.Class.{front_longer, front_of}

-- ---- the own text of a list
module _ {t rest own : Text} (cut : t ≡ own ++ rest) where
  pub own_items : {vs : List (Option ElementValue)} → AreItems t rest vs → Front (many item) own [] vs
  own_items {vs = vs} a = subst (λ (x : Text). Front (many item) x [] vs)
      (append_cancel_right a.piece own rest (sym a.whole ∙ cut)) a.items

-- such a list is no dash
pub no_dash_items : {own : Text} (vs : List (Option ElementValue)) → Front (many item) own [] vs → own ≢ dash
no_dash_items [] f d = let k = ap length (sym d ∙ f.whole ∙ ap (λ (x : Text). x ++ []) f.is.0) in omega (arith, k)
no_dash_items (v ∷ vs) f d =
    let (u, first, rest) = many_parts item f in
    let (r, e) = item_begins first.piece u v first.is in
    let t = heads 45 91 [] r (sym d ∙ first.whole ∙ e) in omega (arith, t)

-- where the mark says otherwise, or there is no element, it is not in printed form
pub own_differs : {t rest own : Text} {vs : List (Option ElementValue)} {tally : Tally} → t ≡ own ++ rest
    → AreItems t rest vs → IsTallied t rest (strict vs) tally
    → (IsTrue tally.prints → tally.elements ≤ 0) → own ≢ elements_text (strict vs)
own_differs {t = t} {rest = rest} {own = own} {vs = vs} {tally = tally} cut items tallied unmarked =
    by_elements (strict vs) tallied
  where
    by_elements : (es : List ElementValue) → IsTallied t rest es tally → own ≢ elements_text es
    by_elements [] k e = no_dash_items vs (own_items cut items) e
    by_elements (x ∷ es) k e = elim k.lost [
      | inl marked ↦ omega (arith, k.elements, unmarked marked)
      | inr never ↦ never rest (cut ∙ ap (λ (x : Text). x ++ rest) e)
    ]

pub some_joined : (es : List ElementValue) → 0 < length es → joined_elements es ≡ elements_text es
some_joined [] l = absurd (omega arith)
some_joined (e ∷ es) l = refl

-- where it says so, the printed form is all before what is left unparsed
pub own_prints : {t rest : Text} (own unparsed : Text) (vs : List (Option ElementValue)) {tally : Tally}
    → t ≡ own ++ rest → IsTallied t rest (strict vs) tally → strict_end tally.broken rest ≡ unparsed ++ rest
    → IsTrue tally.prints
    → 0 < tally.elements → own ≡ elements_text (strict vs) ++ unparsed
own_prints {rest = rest} own unparsed vs cut tallied e marked some =
    let es = strict vs in
    let printed = some_joined es (omega (arith, tallied.elements, some)) in
    append_cancel_right own (elements_text es ++ unparsed) rest (sym cut ∙ tallied.prints marked
    ∙ ap (λ (x : Text). joined_elements es ++ x) e ∙ sym (append_assoc (joined_elements es) unparsed rest)
    ∙ ap (λ (x : Text). (x ++ unparsed) ++ rest) printed)

-- ---- how far the strict elements go: to the rest, or to the marked text, which none begins
abbrev pub Unbroken : Text → Text → List ElementValue → Option (Bor (List ℕ)) → Type 0
Unbroken text rest es broken = MatchOption broken (HasRead element text es rest) (λ b. IsUtf8 b.now
    × NoFront element (shown b) × ((fs : List ElementValue) × HasRead element text fs (shown b))
    × ((u : Text) × (shown b ≡ u ++ rest)))

extended : {b rest next : Text} (p : Text) → rest ≡ p ++ next → (u : Text) × (b ≡ u ++ rest)
    → (u : Text) × (b ≡ u ++ next)
extended {next = next} p w (u, e) = (u ++ p, e ∙ ap (λ (y : Text). u ++ y) w ∙ sym (append_assoc u p next))

unbroken_on : (text rest next : Text) (es : List ElementValue) (x : ElementValue) (broken : Option (Bor (List ℕ)))
    → Unbroken text rest es broken → Front element rest next x → Unbroken text next (es ++ (x ∷ [])) broken
unbroken_on text rest next es x None read f = has_read_more element text rest next es x read f
unbroken_on text rest next es x (Some b) (u, none, read, after) f =
    (u, none, read, extended f.piece f.whole after)

unbroken_past : (text rest next : Text) (es : List ElementValue) (broken : Option (Bor (List ℕ)))
    (s : Bor (List ℕ)) → IsUtf8 s.now → shown s ≡ rest → NoFront element rest → (p : Text) → rest ≡ p ++ next
    → Unbroken text rest es broken → Unbroken text next es (option_or broken (Some s))
unbroken_past text rest next es None s u e none p w read = (
  u,
  subst (λ (y : Text). NoFront element y) (sym e) none,
  (es, subst (λ (y : Text). HasRead element text es y) (sym e) read),
  (p, e ∙ w),
)
unbroken_past text rest next es (Some b) s u e none p w (v, other, read, after) = (v, other, read, extended p w after)

-- a broken item does not move what was printed
end_past : (broken : Option (Bor (List ℕ))) (s : Bor (List ℕ)) (rest next : Text) → shown s ≡ rest
    → strict_end broken rest ≡ strict_end (option_or broken (Some s)) next
end_past None s rest next e = sym e
end_past (Some b) s rest next e = refl

back : {rest : Text} {w : Walked} → IsWalked rest w → (more : Text)
    → element.Is (element_text (element_seen w.element)) more (element_seen w.element)
back {rest = rest} {w = w} k more =
    let x = element_seen w.element in
    element_back x more (element_canonical k.front.piece (shown w.rest) x k.front.is)

-- a strict element more, in printed form if it was walked so
module _ {text rest : Text} (es : List ElementValue) {w : Walked} (k : IsWalked rest w) where
  after : (stop : Text) → text ≡ joined_elements es ++ stop → (more : Text)
      → text ≡ joined_elements (es ++ (element_seen w.element ∷ [])) ++ more
      → stop ≡ element_text (element_seen w.element) ++ more
  after stop printed more e =
      let x = element_seen w.element in
      append_cancel_left (joined_elements es) stop (element_text x ++ more)
      (sym printed ∙ e ∙ flat_map_more element_text es x more)

  prints_on : (broken : Option (Bor (List ℕ))) → broken ≡ None → text ≡ joined_elements es ++ strict_end broken rest
      → IsTrue w.prints
      → text ≡ joined_elements (es ++ (element_seen w.element ∷ [])) ++ strict_end broken (shown w.rest)
  prints_on None n printed b = printed ∙ ap (λ (y : Text). joined_elements es ++ y) (k.prints.0 b)
      ∙ sym (flat_map_more element_text es (element_seen w.element) (shown w.rest))
  prints_on (Some b) n printed p = absurd (let k = n in cc)

  lost_on : (broken : Option (Bor (List ℕ))) → Unbroken text rest es broken
      → text ≡ joined_elements es ++ strict_end broken rest
      → ((broken ≡ None) × IsTrue w.prints)
      ⊎ ((more : Text) → text ≢ joined_elements (es ++ (element_seen w.element ∷ [])) ++ more)
  lost_on (Some b) (u, none, read, end) printed = inr (λ more e.
      none (element_text (element_seen w.element)) more (element_seen w.element) (after (shown b) printed more e)
      (back k more))
  lost_on None read printed = elim (cases_Bool w.prints) [
    | inl b ↦ inl (refl, b)
    | inr unmarked ↦ inr (λ more e.
        let x = element_seen w.element in
        let here = after rest printed more e in
        let other = front_of (element_text x) here (back k more) in
        let there = front_same element element_det k.front other in
        let marked = k.prints.1 (here ∙ ap (λ (y : Text). element_text x ++ y) (sym there.0)) in cc)
  ]

-- ---- a list as far as it was walked: its pieces, their elements and counts, and what a visitor was given of them.
-- Without a mark of a broken element nothing was left out; elsewhere one follows the last strict element.
pub record Gone (C : Class) (view : List C.Value → List ElementValue) {V : Type 0}
    (given : V → V → List ElementValue → Type 0) (text rest : Text) (old new : V) (tally : Tally) : Type 0 where
  pub vs : List C.Value
  pub es : List ElementValue
  pub same : es ≡ view vs
  pub read : HasRead C text vs rest
  pub tallied : IsTallied text rest es tally
  pub unbroken : Unbroken text rest es tally.broken
  pub elements : tally.elements + length rest ≤ length text
  pub params : tally.params + length rest ≤ length text
  pub visits : Visits given old es new

pub none_told : (o : Option (Bor (List ℕ))) (r : Bool) → is_some o ≡ not r → IsTrue r ↔ (o ≡ None)
none_told None true e = ((λ t. refl), (λ n. refl))
none_told None false e = absurd (let k = e in cc)
none_told (Some x) true e = absurd (let k = e in cc)
none_told (Some x) false e = ((λ t. (let k = t in cc)), (λ n. (let k = n in absurd cc)))

pub visits_none : {V : Type 0} (given : V → V → List ElementValue → Type 0) (v : V) → Visits given v [] v
visits_none given v first ds h = subst (λ (x : List ElementValue). given first v x) (sym (append-nil ds)) h

module _ (C : Class) (view : List C.Value → List ElementValue) {V : Type 0}
    (given : V → V → List ElementValue → Type 0) where
  pub gone_none : (text : Text) (v : V) (tally : Tally) → [] ≡ view [] → tally.elements ≡ 0
      → tally.params ≡ 0 → IsTrue tally.prints → tally.broken ≡ None → Gone C view given text text v v tally
  gone_none text v tally z e p marked strict = record {
    vs = [];
    es = [];
    same = z;
    read = λ q ws f. f;
    tallied = record {
      elements = e;
      params = p;
      prints = λ t. ap (λ b. strict_end b text) (sym strict);
      lost = inl marked;
    };
    unbroken = subst (Unbroken text text []) (sym strict) (λ q ws f. f);
    elements = omega (arith, e);
    params = omega (arith, p);
    visits = visits_none given v;
  }

  module _ {text rest : Text} {old mid : V} {tally : Tally}
      (s : Gone C view given text rest old mid tally) where
    -- the pieces in all, where none is left
    pub gone_all : NoFront C rest → Front (many C) text rest s.vs
    gone_all n = subst (λ (x : List C.Value). Front (many C) text rest x) (append-nil s.vs)
        (s.read rest [] (many_here C rest n))

    module _ {w : Walked} (k : IsWalked rest w) where
      shorter : length (shown w.rest) < length rest
      shorter = element_shorter rest (shown w.rest) (element_seen w.element) k.front

      -- the counts stay within the text
      pub gone_within : (bytes : List ℕ) → IsUtf8 bytes → text ≡ chars bytes → (tally.elements + 1 ≤ length bytes)
          × (tally.params + length (element_seen w.element).params ≤ length bytes)
      gone_within bytes u e =
          let l = chars_length bytes u in
          let m = ap length e in
          (omega (arith, l, m, shorter, s.elements), omega (arith, l, m, s.params, k.few))

      -- an element more, whose mark is that of the walk and of the list
      pub gone_on : {tally' : Tally} {new : V} (v : C.Value)
          → view (s.vs ++ (v ∷ [])) ≡ view s.vs ++ (element_seen w.element ∷ []) → C.Is k.front.piece (shown w.rest) v
          → tally'.elements ≡ tally.elements + 1
          → tally'.params ≡ tally.params + length (element_seen w.element).params
          → tally'.broken ≡ tally.broken → (strict : Bool) → IsTrue strict ↔ (tally.broken ≡ None)
          → IsTrue tally'.prints ↔ IsTrue ((tally.prints && w.prints) && strict)
          → Visits given mid (element_seen w.element ∷ []) new
          → Gone C view given text (shown w.rest) old new tally'
      gone_on {tally' = tally'} {new = new} v z is n m o strict told p step =
          let t = s.tallied in
          let x = element_seen w.element in
          record {
            vs = s.vs ++ (v ∷ []);
            es = s.es ++ (x ∷ []);
            same = ap (λ (es : List ElementValue). es ++ (x ∷ [])) s.same ∙ sym z;
            read = has_read_more C text rest (shown w.rest) s.vs v s.read (front_of k.front.piece k.front.whole is);
            tallied = record {
              elements = omega (arith, n, t.elements, length-append s.es (x ∷ []));
              params = m ∙ omega (arith, t.params, sum_by_push (λ d. length d.params) s.es x);
              prints = λ all. (
                  let (both, d) = and_parts _ _ (p.0 all) in
                  let (a, b) = and_parts _ _ both in
                  prints_on s.es k tally.broken (told.0 d) (t.prints a) b
                  ∙ ap (λ y. joined_elements (s.es ++ (x ∷ [])) ++ strict_end y (shown w.rest)) (sym o));
              lost = elim t.lost [
                | inr never ↦ inr (λ more e.
                    never (element_text x ++ more) (e ∙ flat_map_more element_text s.es x more))
                | inl marked ↦ elim (lost_on s.es k tally.broken s.unbroken (t.prints marked)) [
                  | inr never ↦ inr never
                  | inl here ↦ inl (p.1 (and_from _ _ (and_from _ _ marked here.1) (told.1 here.0)))
                ]
              ];
            };
            unbroken = subst (Unbroken text (shown w.rest) (s.es ++ (x ∷ []))) (sym o)
                (unbroken_on text rest (shown w.rest) s.es x tally.broken s.unbroken k.front);
            elements = omega (arith, s.elements, n, shorter);
            params = omega (arith, s.params, m, k.few);
            visits = λ first ds h. subst (λ (y : List ElementValue). given first new y) (append_assoc ds s.es (x ∷ []))
                (step first (ds ++ s.es) (s.visits first ds h));
          }

    -- a piece more that is no element
    pub gone_past : {next : Text} {tally' : Tally} → NoFront element rest → (v : C.Value)
        → view (s.vs ++ (v ∷ [])) ≡ view s.vs → Front C rest next v
        → (b : Bor (List ℕ)) → IsUtf8 b.now → shown b ≡ rest
        → tally' ≡ record {
          elements = tally.elements;
          params = tally.params;
          prints = tally.prints;
          broken = option_or tally.broken (Some b);
        } → Gone C view given text next old mid tally'
    gone_past {next = next} n v z f b u e same = subst (Gone C view given text next old mid) (sym same) (record {
      vs = s.vs ++ (v ∷ []);
      es = s.es;
      same = s.same ∙ sym z;
      read = has_read_more C text rest next s.vs v s.read f;
      tallied = record {
        elements = s.tallied.elements;
        params = s.tallied.params;
        prints = λ marked. s.tallied.prints marked
            ∙ ap (λ (y : Text). joined_elements s.es ++ y) (end_past tally.broken b rest next e);
        lost = s.tallied.lost;
      };
      unbroken = unbroken_past text rest next s.es tally.broken b u e n f.piece f.whole s.unbroken;
      elements = omega (arith, s.elements, front_longer C f);
      params = omega (arith, s.params, front_longer C f);
      visits = s.visits;
    })

-- what holds of the elements of the pieces
module _ {C : Class} {view : List C.Value → List ElementValue} {V : Type 0} {given : V → V → List ElementValue → Type 0}
    {text rest : Text} {old new : V} {tally : Tally}
    (s : Gone C view given text rest old new tally) {ds : List ElementValue} (e : view s.vs ≡ ds) where
  pub gone_tallied : IsTallied text rest ds tally
  gone_tallied = subst (λ (x : List ElementValue). IsTallied text rest x tally) (s.same ∙ e) s.tallied

  pub gone_visits : Visits given old ds new
  gone_visits = subst (λ (x : List ElementValue). Visits given old x new) (s.same ∙ e) s.visits
