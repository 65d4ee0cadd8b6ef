-- Check Point's pairs: a text has one front of each class, and what is left after the first of them.
use Rattle.std.{proofs.Math.Logic.∥∥₁_elim, proofs.lemmas.List.append_cancel_left, specs.Str.IsAscii}
use Rattle.syslog_elements.proofs.Names.{◌≡◌, ◌<◌, inl, inr, ℕ, List, [], ◌∷◌, ◌++◌, Option, Some, None, refl, sym, ap}
use Rattle.syslog_elements.proofs.Names.{subst, ◌∙◌, arith, length, length-append, nat_tests, true, chars, chars-nil}
use Rattle.syslog_elements.proofs.Names.{Text, Values, Front, NoFront, IsDeterministic, exactly, optional, many, Row}
use Rattle.syslog_elements.proofs.Names.{run, some_run, texted, Each, Ends, Σ_prop, ⊥_prop, OneMeaning, one_value}
use Rattle.syslog_elements.proofs.Names.{one_value-is, AllDeterministic, ◌also◌, ◌then◌, exactly_det, some_run_det}
use Rattle.syslog_elements.proofs.Names.{many_here, run_det, begins, heads, optional_none, optional_some, quoted}
use Rattle.syslog_elements.proofs.Names.{ElementValue, strict, item, AllByRecursion, AllByRecursion-prop, BeginsUnblank}
use Rattle.syslog_elements.proofs.Names.{IsCanonicalElement, IsCanonicalParam, IsMany, IsValue, each_map, is_id_char}
use Rattle.syslog_elements.proofs.Names.{is_name_char, list_elements, quoted_row, Bool, IsDashBefore, front_same}
use Rattle.syslog_elements.proofs.Names.{texted_det, mapped_det, row_det, row_of, row_pieces, row_head, many_det}
use Rattle.syslog_elements.specs.StructuredData.Recognised.{OneInside-prop, OnePairs-prop, params_set}
use Rattle.syslog_elements.specs.{StructuredData.Unparsed.IsUnparsed, declared.structured_data.pairs.Notation.Notation}
use Rattle.syslog_text.specs.Text.{is_blank, is_tag_char}
use Rattle.syslog_text.{proofs.TextLemmas.Runs.low_ascii, specs.Text.CharClass.is_sd_name_char}
use Rattle.syslog_text.proofs.PieceLemmas.Class.{front_longer, front_of, row_cons, present_front}
use Rattle.syslog_text.proofs.PieceLemmas.Rules.{many_left, no_run, none_left, such_det}
use Rattle.syslog_elements.specs.StructuredData.Pairs.{EndsPair, IsNextParam, IsSdName, NoNextParam, inside_of, left_in}
use Rattle.syslog_elements.specs.StructuredData.Pairs.{open_row, paired, paired_element, pairs_row, with_pairs, pair_id}
use Rattle.syslog_elements.specs.StructuredData.Pairs.{pair, pair_end, pair_name, pair_of, pair_row, pairs, pairs_in}
use Rattle.syslog_elements.specs.declared.structured_data.pairs.Notation.TheVariants.{Colons, Equals}
use Rattle.std.specs.Prelude.{◌+◌, nat_lt}
use Rattle.syslog_elements.specs.declared.structured_data.rfc3164_list.DashRule.TheVariants.{BeforeBlank}
use Rattle.syslog_elements.specs.declared.structured_data.recognised.ElementList.{ElementList}
use Rattle.syslog_elements.proofs.StructuredDataLemmas.Elements.{element_prop, element_with, items_are, items_canonical}
use Rattle.syslog_elements.proofs.StructuredDataLemmas.Elements.{no_items_here, quoted_det}
use Rattle.syslog_elements.proofs.StructuredDataLemmas.Unparsed.{nothing_leaves, unparsed_same}
use Rattle.syslog_elements.proofs.StructuredDataLemmas.Walk.{items_same, no_params, not_inside, one_meaning}
use Rattle.syslog_elements.proofs.StructuredDataLemmas.Walk.{chars_length, params_less}

-- ---- one front

pub name_det : IsDeterministic pair_name
name_det = such_det (texted (some_run is_tag_char)) IsSdName (texted_det (some_run is_tag_char)
    (some_run_det is_tag_char))

semicolon_first : (b q r : Text) → 59 ∷ (b ++ q) ≡ 93 ∷ r → ⊥
semicolon_first b q r e = let h = heads 59 93 (b ++ q) r e in omega arith

ends_same : (p q p' q' : Text) → p ++ q ≡ p' ++ q' → EndsPair p q → EndsPair p' q' → p ≡ p'
ends_same p q p' q' e (inl (b, f, each, ends)) (inl (b', f', each', ends')) =
    let whole : 59 ∷ (b ++ q) ≡ 59 ∷ (b' ++ q') = cc in
    let same = (run_det is_blank b q b' q' tt tt (append_cancel_left (59 ∷ []) (b ++ q) (b' ++ q') whole) (each, ends)
    (each', ends')).0 in
    f ∙ ap (λ (x : Text). 59 ∷ x) same ∙ sym f'
ends_same p q p' q' e (inl (b, f, each, ends)) (inr (f', (r, g))) =
    absurd (semicolon_first b q r (ap (λ (x : Text). x ++ q) (sym f) ∙ e ∙ ap (λ (x : Text). x ++ q') f' ∙ g))
ends_same p q p' q' e (inr (f, (r, g))) (inl (b', f', each', ends')) =
    absurd (semicolon_first b' q' r (ap (λ (x : Text). x ++ q') (sym f') ∙ sym e ∙ ap (λ (x : Text). x ++ q) f ∙ g))
ends_same p q p' q' e (inr (f, g)) (inr (f', g')) = f ∙ sym f'

pub end_det : IsDeterministic pair_end
end_det p q p' q' v v' e h h' = (ends_same p q p' q' e h h', refl)

pub pair_row_det : AllDeterministic pair_row
pair_row_det =
    name_det also exactly_det (58 ∷ []) also exactly_det (34 ∷ []) also quoted_det also end_det also tt

pub pair_det : IsDeterministic pair
pair_det = mapped_det _ (Text × Text) pair_of (row_det pair_row pair_row_det)

pub pairs_row_det : AllDeterministic pairs_row
pairs_row_det = many_det pair pair_det also exactly_det (93 ∷ []) also tt

pub pairs_det : IsDeterministic pairs
pairs_det = row_det pairs_row pairs_row_det

pub open_row_det : AllDeterministic open_row
open_row_det = exactly_det (91 ∷ []) also pairs_det also tt

pub paired_det : IsDeterministic paired
paired_det p q p' q' es es' e (vs, is, some, blank, same) (vs', is', some', blank', same') =
    let (piece, values) = row_det open_row open_row_det p q p' q' vs vs' e is is' in
    (piece, same ∙ ap (λ (ws : Values open_row). paired_element ws.1.0.0 ∷ []) values ∙ sym same')

-- ---- what ends a pair

pub semicolon_ends : {t r q : Text} → Front (exactly (59 ∷ [])) t r tt → Front (run is_blank) r q tt
    → Front pair_end t q tt
semicolon_ends {t} {r} {q} f g = front_of (59 ∷ g.piece) (begins 59 t r f ∙ ap (λ (x : Text). 59 ∷ x) g.whole)
    (inl (g.piece, refl, g.is.0, g.is.1))

pub bracket_ends : {t r : Text} → Front (exactly (93 ∷ [])) t r tt → Front pair_end t t tt
bracket_ends {t} {r} f = front_of [] refl (inr (refl, (r, begins 93 t r f)))

pub no_end : {t : Text} → NoFront (exactly (59 ∷ [])) t → NoFront (exactly (93 ∷ [])) t → NoFront pair_end t
no_end n m p q v e (inl (b, f, each, ends)) = n (59 ∷ []) (b ++ q) tt (e ∙ ap (λ (x : Text). x ++ q) f) refl
no_end n m p q v e (inr (f, (r, g))) = m (93 ∷ []) r tt (e ∙ ap (λ (x : Text). x ++ q) f ∙ g) refl

pub ruleset pair_ends = (semicolon_ends, bracket_ends)

-- ---- lengths

-- what follows a pair is shorter
pub pair_shorter : {t u : Text} {v : Text × Text} → Front pair t u v → length u < length t
pair_shorter {t} {u} f =
    let row : Front (Row pair_row) t u f.is.0 = front_of f.piece f.whole f.is.1 in
    let (a, name, (b, colon, (c, quote, (d, value, (e, ends, same))))) = row_pieces pair_row row in
    omega (
      arith,
      front_longer pair_name name,
      ap length (begins 58 a b colon),
      front_longer (exactly (34 ∷ [])) quote,
      front_longer quoted value,
      front_longer pair_end ends,
      ap length same,
    )

-- a bracket begins no pair
bracket_name : (w q r : Text) → 0 < length w → Each is_sd_name_char w → w ++ q ≡ 93 ∷ r → ⊥
bracket_name [] q r l each e = omega arith
bracket_name (c ∷ w) q r l each e =
    let same : c ≡ 93 = heads c 93 (w ++ q) r e in
    let is : is_sd_name_char 93 ≡ true = subst (λ (x : ℕ). is_sd_name_char x ≡ true) same each.0 in cc

pub no_pair_close : {t q : Text} → Front (exactly (93 ∷ [])) t q tt → NoFront pair t
no_pair_close {t} {q} f p r v e h =
    let row : Front (Row pair_row) t r h.0 = front_of p e h.1 in
    let (a, name, more) = row_pieces pair_row row in
    let (u, is, same) = name.is.0 in
    bracket_name name.piece a q is.0 (subst (Each is_sd_name_char) same name.is.1)
    (sym name.whole ∙ begins 93 t q f)

-- ---- pairs

pub no_pairs_nil : NoFront pairs []
no_pairs_nil p q vs e h =
    let (a, list, (b, close, same)) = row_pieces pairs_row (front_of p e h) in
    omega (arith, front_longer (many pair) list, ap length (begins 93 a b close))

-- ---- what is left after the first

no_pairs_left : {t q : Text} (m : OneMeaning (inside_of Colons) t) → Front (exactly (93 ∷ [])) t q tt
    → (one_value m).0 ≡ []
no_pairs_left {t} m f = ap (λ v. v.0)
    (one_value-is m (row_of pairs_row (many_here pair t (no_pair_close f) then f then refl)))

no_pair_left : {t : Text} (m : OneMeaning (inside_of Colons) t) → NoFront (exactly (93 ∷ [])) t → NoFront pair t → ⊥
no_pair_left {t} m n k = ∥∥₁_elim m.1.0 ⊥_prop (λ x.
    let (s, list, close) = row_head (many pair) (exactly (93 ∷ []) ∷ []) x.1 in
    let (u, bracket, same) = row_pieces (exactly (93 ∷ []) ∷ []) close in
    let none = none_left m.0.0 k list in
    let here = list.whole ∙ ap (λ (y : Text). y ++ s) (nothing_read list none) in
    n (93 ∷ []) u tt (here ∙ begins 93 s u bracket) refl)
  where
    nothing_read : {t q : Text} {vs : List (Text × Text)} → (f : Front (many pair) t q vs) → vs ≡ [] → f.piece ≡ []
    nothing_read {vs = []} f e = f.is.0
    nothing_read {vs = v ∷ vs} f e = absurd cc

pairs_less : {t z : Text} {v : Text × Text} (m : OneMeaning (inside_of Colons) t) → Front pair t z v
    → (k : OneMeaning (inside_of Colons) z) × ((one_value m).0 ≡ v ∷ (one_value k).0)
pairs_less {z = z} {v = v} m f = ∥∥₁_elim m.1.0
    (Σ_prop (OneInside-prop Colons z) (λ k. params_set (one_value m).0 (v ∷ (one_value k).0))) (λ x.
    let (s, list, close) = row_head (many pair) (exactly (93 ∷ []) ∷ []) x.1 in
    let (us, e, more) = many_left pair_det m.0.0 f list in
    let rest = row_cons (many pair) (exactly (93 ∷ []) ∷ []) more close in
    let k = one_meaning (inside_of Colons) pairs_det rest in
    (k, ap (λ y. y.0) (one_value-is m x.1) ∙ e ∙ ap (λ y. v ∷ y.0) (sym (one_value-is k rest))))

-- ---- in one notation or the other

pub none_next : (n : Notation) {t q : Text} (m : OneMeaning (inside_of n) t) → Front (exactly (93 ∷ [])) t q tt
    → (one_value m).0 ≡ []
none_next Equals m f = no_params m f
none_next Colons m f = no_pairs_left m f

pub not_next : (n : Notation) {t : Text} (m : OneMeaning (inside_of n) t) → NoFront (exactly (93 ∷ [])) t
    → NoNextParam n t → ⊥
not_next Equals m none k = not_inside m none k
not_next Colons m none k = no_pair_left m none k

pub next_left : (n : Notation) {t z : Text} {v : Text × Text} (m : OneMeaning (inside_of n) t)
    → NoFront (exactly (93 ∷ [])) t → IsNextParam n t v z
    → (k : OneMeaning (inside_of n) z) × ((one_value m).0 ≡ v ∷ (one_value k).0)
next_left Equals m none (u, f, e) = params_less m none f e
next_left Colons m none f = pairs_less m f

-- ---- the element

pub one_more : {s u : Text} {v : Text × Text} (n : ℕ) (ps : List (Text × Text)) → Front pair s u v → n ≡ length ps
    → n + 1 ≡ length (ps ++ v ∷ [])
one_more {v = v} n ps f same = omega (arith, same, length-append ps (v ∷ []))

pub ruleset counted_pairs = (pair_shorter, chars_length, no_run)

pub no_paired : {t : Text} → NoFront (Row open_row) t → NoFront paired t
no_paired n p q es e (vs, is, some, blank, same) = n p q vs e is

module _ {t q : Text} {vs : Values open_row} (f : Front (Row open_row) t q vs) where
  pub no_paired_none : length vs.1.0.0 ≡ 0 → NoFront paired t
  no_paired_none none p r es e (ws, is, some, blank, means) =
      let (piece, same) = front_same (Row open_row) (row_det open_row open_row_det) f (front_of p e is) in
      omega (arith, none, some, ap (λ (xs : Values open_row). length xs.1.0.0) same)

  pub no_paired_unended : (IsDashBefore BeforeBlank q → ⊥) → NoFront paired t
  no_paired_unended n p r es e (ws, is, some, blank, same) =
      let here = front_same (Row open_row) (row_det open_row open_row_det) f (front_of p e is) in
      n (subst (IsDashBefore BeforeBlank) (sym here.0) blank)

  pub paired_front : {es : List ElementValue} → 0 < length vs.1.0.0 → IsDashBefore BeforeBlank q
      → es ≡ paired_element vs.1.0.0 ∷ [] → Front paired t q es
  paired_front some blank same = front_of f.piece f.whole (vs, f.is, some, blank, same)

-- ---- a list, and what it holds

pub no_pairs_empty : {t : Text} → t ≡ [] → NoFront pairs t
no_pairs_empty e = subst (NoFront pairs) (sym e) no_pairs_nil

pub pairs_same : {t u : Text} → t ≡ u → (m : OneMeaning (optional pairs) t) (n : OneMeaning (optional pairs) u)
    → one_value m ≡ one_value n
pairs_same {t} e m n =
    (subst (λ (x : Text). (k : OneMeaning (optional pairs) x) → one_value m ≡ one_value k) e
    (λ k. ap (λ (y : OneMeaning (optional pairs) t). one_value y) (OnePairs-prop t m k))) n

pub left_same : {t u s : Text} → t ≡ u → (m : OneMeaning (optional pairs) t) (n : OneMeaning (optional pairs) u)
    (k l : OneMeaning (many item) s) → with_pairs (one_value m) (strict (one_value k))
    ≡ with_pairs (one_value n) (strict (one_value l))
left_same e m n k l =
    ap (λ (o : Option (Values pairs_row)). with_pairs o (strict (one_value k))) (pairs_same e m n)
    ∙ ap (λ (vs : List (Option ElementValue)). with_pairs (one_value n) (strict vs)) (items_same k l)

-- those that are left where no pairs are
pub strict_left : {t u : Text} (p : OneMeaning (optional pairs) t) (k l : OneMeaning (many item) u) → NoFront pairs t
    → with_pairs (one_value p) (strict (one_value k)) ≡ strict (one_value l)
strict_left p k l none =
    ap (λ (o : Option (Values pairs_row)). with_pairs o (strict (one_value k)))
    (one_value-is p (optional_none pairs none))
    ∙ ap strict (items_same k l)

pub after_item : {t u : Text} {es : List ElementValue} {e : ElementValue} (p : OneMeaning (optional pairs) t)
    (k l : OneMeaning (many item) u) → NoFront pairs t → es ≡ e ∷ strict (one_value k)
    → es ≡ e ∷ with_pairs (one_value p) (strict (one_value l))
after_item {e = e} p k l none same = same ∙ ap (λ (x : List ElementValue). e ∷ x) (sym (strict_left p l k none))

-- and after the pairs
pub after_pairs : {t q u s : Text} {ps : List (Text × Text)} (p : OneMeaning (optional pairs) t)
    (n : OneMeaning (optional pairs) u) (k l : OneMeaning (many item) s) (e : ElementValue)
    → Front pairs t q (ps, (tt, tt)) → u ≡ [] → e ≡ paired_element ps
    → with_pairs (one_value p) (strict (one_value k)) ≡ e ∷ with_pairs (one_value n) (strict (one_value l))
after_pairs {ps = ps} p n k l e f none same =
    ap (λ (o : Option (Values pairs_row)). with_pairs o (strict (one_value k))) (one_value-is p (optional_some pairs f))
    ∙ ap (λ (es : List ElementValue). paired_element ps ∷ es) (sym (strict_left n l k (no_pairs_empty none)))
    ∙ ap (λ (x : ElementValue). x ∷ with_pairs (one_value n) (strict (one_value l))) (sym same)

pub no_pairs_in : (bs us : List ℕ) → IsUnparsed (chars bs) (chars us) → NoFront pairs (pairs_in bs us)
no_pairs_in [] us left = subst (NoFront pairs)
    (sym (unparsed_same (chars []) (chars us) [] left (nothing_leaves (chars []) chars-nil))) no_pairs_nil
no_pairs_in (b ∷ bs) us left = no_pairs_nil

pub left_of_text : (bs us : List ℕ) → IsUnparsed (chars bs) (chars us) → IsUnparsed (chars bs) (left_in bs us)
left_of_text [] us left = nothing_leaves (chars []) chars-nil
left_of_text (b ∷ bs) us left = left

-- the elements of a list of the port
pub elements_are : (bs us : List ℕ) {t q : Text} {vs : List (Option ElementValue)}
    (p : OneMeaning (optional pairs) (pairs_in bs us)) (m : OneMeaning (many item) t) → IsUnparsed (chars bs) (chars us)
    → Front (many item) t q vs → with_pairs (one_value p) (strict (one_value m)) ≡ strict vs
elements_are bs us p m left f =
    ap (λ (x : Option (Values pairs_row)). with_pairs x (strict (one_value m)))
    (one_value-is p (optional_none pairs (no_pairs_in bs us left))) ∙ items_are m f

-- that of pairs
pub pairs_are : {t q u : Text} {ps : List (Text × Text)} (p : OneMeaning (optional pairs) t)
    (m : OneMeaning (many item) u)
    → u ≡ [] → Front pairs t q (ps, (tt, tt)) → with_pairs (one_value p) (strict (one_value m)) ≡ paired_element ps ∷ []
pairs_are {u = u} {ps = ps} p m none f =
    ap (λ (x : Option (Values pairs_row)). with_pairs x (strict (one_value m))) (one_value-is p (optional_some pairs f))
    ∙ ap (λ (es : List (Option ElementValue)). paired_element ps ∷ strict es) (one_value-is m (no_items_here u none))

abbrev is_low : ℕ → Bool
is_low c = nat_lt c 128

each_low : Each is_low pair_id
each_low = (
  refl,
  (
    refl,
    (refl, (refl, (refl, (refl, (refl, (refl, (refl, (refl, (refl, (refl, (refl, (refl, (refl, tt))))))))))))),
  ),
)

pub ascii_id : IsAscii pair_id
ascii_id = low_ascii is_low pair_id (λ c low. grind (arith, nat_tests)) each_low

pub seen_pairs : {t q id : Text} {ps : List (Text × Text)} (m : OneMeaning (inside_of Colons) t) → id ≡ pair_id
    → Front pairs t q (ps, (tt, tt)) → element_with id (one_value m).0 ≡ paired_element ps
seen_pairs m same f = ap (λ (x : Text). element_with x (one_value m).0) same
    ∙ ap (λ (v : Values pairs_row). paired_element v.0) (one_value-is m f)

-- the fields of a list: it has a text, or pairs

pub no_pairs_of : (bs us : List ℕ) → 0 < length bs → pairs_in bs us ≡ []
no_pairs_of [] us some = absurd (omega arith)
no_pairs_of (b ∷ bs) us some = refl

pub ruleset no_pairs_there = (no_pairs_of, chars-nil)

pub nothing_left : (bs us : List ℕ) → chars us ≡ [] → left_in bs us ≡ []
nothing_left [] us none = refl
nothing_left (b ∷ bs) us none = none

pub some_left_in : (bs us : List ℕ) → 0 < length bs → left_in bs us ≡ chars us
some_left_in [] us some = absurd (omega arith)
some_left_in (b ∷ bs) us some = refl

-- ---- the elements of a list are canonical

name_unblank : (w : Text) → 0 < length w → Each is_sd_name_char w → Ends is_blank w
name_unblank [] l each = tt
name_unblank (c ∷ w) l each = grind (arith, nat_tests, each.0)

-- a pair is a canonical parameter, whose name does not begin with a blank
pair_canonical : (p q : Text) (v : Text × Text) → pair.Is p q v → IsCanonicalParam v × Ends is_blank v.0
pair_canonical p q v (vs, row, same) =
    let (a, name, (b, colon, (c, quote, (d, value, more)))) = row_pieces pair_row (front_of {t = p ++ q} p refl row) in
    let (u, run, is) = name.is.0 in
    let (e, it, close) = row_pieces quoted_row value in
    let each : Each is_sd_name_char vs.0 = name.is.1 in
    let long : 0 < length vs.0 = subst (λ (x : Text). 0 < length x) (sym is) run.0 in
    rw same (
      (
        long,
        each_map is_sd_name_char is_name_char (λ c h. grind (arith, nat_tests)) vs.0 each,
        subst IsValue (sym it.is.2) it.is.0,
      ),
      name_unblank vs.0 long each,
    )

pairs_canonical : (p q : Text) (vs : List (Text × Text)) → IsMany pair p q vs
    → AllByRecursion IsCanonicalParam vs × BeginsUnblank vs
pairs_canonical p q [] is = (tt, tt)
pairs_canonical p q (v ∷ vs) (a, b, e, is, more) =
    let (param, ends) = pair_canonical a (b ++ q) v is in
    ((param, (pairs_canonical b q vs more).0), ends)

id_canonical : (0 < length pair_id) × Each is_id_char pair_id
id_canonical = (
  omega arith,
  (
    refl,
    (
      refl,
      (refl, (refl, (refl, (refl, (refl, (refl, (refl, (refl, (refl, (refl, (refl, (refl, (refl, tt))))))))))))),
    ),
  ),
)

element_of_pairs : (t q : Text) (vs : Values pairs_row) → Front pairs t q vs → IsCanonicalElement (paired_element vs.0)
element_of_pairs t q vs f =
    let (s, list, more) = row_pieces pairs_row f in
    let (params, ends) = pairs_canonical list.piece s vs.0 list.is in
    (id_canonical.0, id_canonical.1, params, ends)

with_canonical : {t q : Text} (o : Option (Values pairs_row)) (es : List ElementValue) → Front (optional pairs) t q o
    → AllByRecursion IsCanonicalElement es → AllByRecursion IsCanonicalElement (with_pairs o es)
with_canonical None es f all = all
with_canonical (Some vs) es f all = (element_of_pairs _ _ vs (present_front pairs f), all)

strict_canonical : (l : ElementList) → AllByRecursion IsCanonicalElement (strict (one_value l.meaning))
strict_canonical l =
    ∥∥₁_elim l.meaning.1.0 (AllByRecursion-prop IsCanonicalElement element_prop (strict (one_value l.meaning))) (λ f.
    subst (λ (vs : List (Option ElementValue)). AllByRecursion IsCanonicalElement (strict vs))
    (sym (one_value-is l.meaning f.1)) (items_canonical f.1.piece f.0 _ f.1.is))

pub are_canonical : (l : ElementList) → AllByRecursion IsCanonicalElement (list_elements l)
are_canonical l = ∥∥₁_elim l.paired.1.0 (AllByRecursion-prop IsCanonicalElement element_prop (list_elements l)) (λ f.
    subst (λ (o : Option (Values pairs_row)). AllByRecursion IsCanonicalElement
    (with_pairs o (strict (one_value l.meaning))))
    (sym (one_value-is l.paired f.1)) (with_canonical l.paired.0 (strict (one_value l.meaning)) f.1
    (strict_canonical l)))
