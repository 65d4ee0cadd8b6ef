-- Converted elements: each is in the grammar and no id comes twice, they are canonical, and are converted to
-- themselves; and how they are joined by their ids in one pass.
use Rattle.syslog_strict.proofs.Words.{◌≡◌, ◌≢◌, ℕ, Bool, true, false, List, [], ◌∷◌, ◌++◌, refl, sym, ap, ◌∙◌, arith}
use Rattle.syslog_strict.proofs.Words.{if◌then◌else◌, append-nil, inl, inr, cond, map, Option, Some, None, ap₂}
use Rattle.syslog_strict.proofs.Words.{nat_tests, IsUtf8-string_bytes, chars, bytes_eq, IsUtf8, cases_Bool}
use Rattle.syslog_strict.proofs.Words.{list_any-append, bytes_eq-Decides, get_by_text, AllByRecursion, flat_map}
use Rattle.syslog_strict.proofs.Words.{string_bytes, bytes_decides, Text, Each, Ends, ElementValue, elements_text}
use Rattle.syslog_strict.proofs.Words.{joined_elements, element_text, param_text, text_eq, all_map, converted_elements}
use Rattle.syslog_strict.proofs.Words.{is_among, params_of, HasJoined, joined_text, text_or_none, text_in, all_append}
use Rattle.syslog_strict.proofs.Words.{IsCanonicalElement, is_blank, converted_element, converted_param, converted_name}
use Rattle.syslog_strict.proofs.Words.{is_sd_char, AreDistinct, length, ◌⊎◌, joined, firsts, ids_of, ◌||◌}
use Rattle.std.proofs.{lemmas.Grind.flat_map-append, lemmas.List.map-append, lemmas.List.Elements.filter-append}
use Rattle.std.specs.{Global.Global, List.filter}
use Rattle.std.specs.Prelude.{String, is_some, not}
use Rattle.syslog_strict.proofs.GrammarLemmas.{IsSdName, IsStrictParam, IsStrictElement, elements_prints}
use Rattle.syslog_strict.proofs.NameLemmas.{cleaned_is, cleaned_same, no_text, no_text_eq}
use Rattle.syslog_strict.proofs.ValueLemmas.{value_back, value_is, value_same}
use Rattle.syslog_strict.specs.{Grammar.IsAll, Grammar.sd_elements, declared.joined.Joined.Joined}
use Rattle.syslog_pieces.proofs.Names.{one_answer}
use Rattle.syslog_text.proofs.{PieceLemmas.Class.each_map, TextLemmas.Runs.same_chars}
use Rattle.syslog_elements.proofs.StructuredDataLemmas.Elements.{forgiving_det, forgiving_back, no_item_nil}
use Rattle.syslog_elements.specs.StructuredData.Canonical.{BeginsUnblank, IsCanonicalParam}
use Rattle.syslog_text.specs.Text.CharClass.{is_name_char, is_id_char}

pub elements_some : (es : List ElementValue) → es ≢ [] → elements_text es ≡ joined_elements es
elements_some [] some = absurd (some refl)
elements_some (e ∷ es) some = refl

pub converted_some : (es : List ElementValue) → es ≢ [] → converted_elements es ≢ []
converted_some [] some = absurd (some refl)
converted_some (e ∷ es) some = λ h. cc

same_text_eq : (t : Text) → text_eq t t ≡ true
same_text_eq t = (bytes_decides t t).1 refl

-- texts are equal as lists of characters exactly where their bytes are
pub bytes_text : (x y : List ℕ) → IsUtf8 x → IsUtf8 y → bytes_eq x y ≡ text_eq (chars x) (chars y)
bytes_text x y u v =
    one_answer _ _ (bytes_eq-Decides x y) (
      λ e. same_chars x y u v ((bytes_decides (chars x) (chars y)).0 e),
      λ e. (bytes_decides (chars x) (chars y)).1 (ap chars e),
    )

-- ---- each text once

all_filter : {X : Type 0} (P : X → Type 0) (p : X → Bool) (xs : List X) → AllByRecursion P xs
    → AllByRecursion P (filter p xs)
all_filter P p [] each = tt
all_filter P p (x ∷ xs) each = elim (cases_Bool (p x)) [
  | inl e ↦ rw e (each.0, all_filter P p xs each.1)
  | inr e ↦ rw e (all_filter P p xs each.1)
]

firsts_are : (P : Text → Type 0) (ts : List Text) → AllByRecursion P ts → AllByRecursion P (firsts ts)
firsts_are P [] each = tt
firsts_are P (t ∷ ts) each = (each.0, all_filter P _ (firsts ts) (firsts_are P ts each.1))

pub firsts_distinct : (ts : List Text) → AreDistinct (firsts ts)
firsts_distinct [] = tt
firsts_distinct (t ∷ ts) = (others t (firsts ts), filtered _ (firsts ts) (firsts_distinct ts))
  where
    others : (t : Text) (ts : List Text) → AllByRecursion (λ u. u ≢ t) (filter (λ u. not (text_eq t u)) ts)
    others t [] = tt
    others t (u ∷ ts) = elim (cases_Bool (text_eq t u)) [
      | inl e ↦ rw e (others t ts)
      | inr e ↦ rw e ((λ same. no_text_eq t u e (sym same)), others t ts)
    ]

    filtered : (p : Text → Bool) (ts : List Text) → AreDistinct ts → AreDistinct (filter p ts)
    filtered p [] apart = tt
    filtered p (t ∷ ts) apart = elim (cases_Bool (p t)) [
      | inl e ↦ rw e (all_filter _ p ts apart.0, filtered p ts apart.1)
      | inr e ↦ rw e (filtered p ts apart.1)
    ]

pub firsts_same : (ts : List Text) → AreDistinct ts → firsts ts ≡ ts
firsts_same [] apart = refl
firsts_same (t ∷ ts) apart = ap (λ (us : List Text). t ∷ filter (λ u. not (text_eq t u)) us) (firsts_same ts apart.1)
    ∙ ap (λ (us : List Text). t ∷ us) (kept ts apart.0)
  where
    kept : (us : List Text) → AllByRecursion (λ u. u ≢ t) us → filter (λ u. not (text_eq t u)) us ≡ us
    kept [] each = refl
    kept (u ∷ us) each = rw (no_text t u (λ e. each.0 (sym e))) (ap (λ (x : List Text). u ∷ x) (kept us each.1))

-- one text more
pub firsts_last : (ts : List Text) (t : Text)
    → firsts (ts ++ t ∷ []) ≡ firsts ts ++ (if is_among t ts then [] else t ∷ [])
firsts_last [] t = refl
firsts_last (u ∷ ts) t =
    ap (λ (us : List Text). u ∷ filter (λ v. not (text_eq u v)) us) (firsts_last ts t)
    ∙ ap (λ (us : List Text). u ∷ us) (filter-append (λ v. not (text_eq u v)) (firsts ts) _
    ∙ ap (λ (us : List Text). filter (λ v. not (text_eq u v)) (firsts ts) ++ us) (last (is_among t ts)))
  where
    last : (b : Bool) → filter (λ v. not (text_eq u v)) (if b then [] else t ∷ [])
        ≡ (if text_eq u t || b then [] else t ∷ [])
    last true = elim (cases_Bool (text_eq u t)) [ inl e ↦ rw e refl | inr e ↦ rw e refl ]
    last false = elim (cases_Bool (text_eq u t)) [ inl e ↦ rw e refl | inr e ↦ rw e refl ]

-- ---- converted elements are in the grammar

name_is : (t : Text) → IsSdName (converted_name t)
name_is [] = cleaned_is is_sd_char 32 (63 ∷ []) refl (omega arith) (omega arith)
name_is (c ∷ t) = cleaned_is is_sd_char 32 (c ∷ t) refl (omega arith) (omega arith)

params_are : (ps : List (Text × Text)) → AllByRecursion IsStrictParam (map converted_param ps)
params_are [] = tt
params_are (p ∷ ps) = ((name_is p.0, value_is p.1), params_are ps)

elements_are : (es : List ElementValue) → AllByRecursion IsStrictElement (map converted_element es)
elements_are [] = tt
elements_are (e ∷ es) = ((name_is e.id, params_are e.params), elements_are es)

-- an element of an id, with the parameters of all elements that have it
abbrev pub of_id : List ElementValue → Text → ElementValue
of_id es id = record { id = id; params = params_of id es }

ids_are : (es : List ElementValue) → AllByRecursion IsStrictElement es → AllByRecursion IsSdName (ids_of es)
ids_are [] each = tt
ids_are (e ∷ es) each = (each.0.0, ids_are es each.1)

params_of_are : (id : Text) (es : List ElementValue) → AllByRecursion IsStrictElement es
    → AllByRecursion IsStrictParam (params_of id es)
params_of_are id [] each = tt
params_of_are id (e ∷ es) each = all_append IsStrictParam _ _ (those (text_eq e.id id)) (params_of_are id es each.1)
  where
    those : (b : Bool) → AllByRecursion IsStrictParam (if b then e.params else [])
    those true = each.0.1
    those false = tt

joined_are : (es : List ElementValue) → AllByRecursion IsStrictElement es → (ids : List Text)
    → AllByRecursion IsSdName ids → AllByRecursion IsStrictElement (map (of_id es) ids)
joined_are es are [] each = tt
joined_are es are (id ∷ ids) each = ((each.0, params_of_are id es are), joined_are es are ids each.1)

ids_joined : (es : List ElementValue) (ids : List Text) → ids_of (map (of_id es) ids) ≡ ids
ids_joined es [] = refl
ids_joined es (id ∷ ids) = ap (λ (x : List Text). id ∷ x) (ids_joined es ids)

pub converted_are : (es : List ElementValue) → AllByRecursion IsStrictElement (converted_elements es)
converted_are es =
    let are = elements_are es in
    joined_are (map converted_element es) are _ (firsts_are IsSdName _ (ids_are (map converted_element es) are))

pub converted_distinct : (es : List ElementValue) → AreDistinct (ids_of (converted_elements es))
converted_distinct es = rw (ids_joined (map converted_element es) (firsts (ids_of (map converted_element es))))
    (firsts_distinct (ids_of (map converted_element es)))

-- ---- such elements stay

pub name_same : (t : Text) → IsSdName t → converted_name t ≡ t
name_same [] is = absurd (let some = is.1.0 in omega arith)
name_same (c ∷ t) is = cleaned_same is_sd_char 32 (c ∷ t) is

params_same : (ps : List (Text × Text)) → AllByRecursion IsStrictParam ps → map converted_param ps ≡ ps
params_same [] each = refl
params_same (p ∷ ps) each =
    λ i. (name_same p.0 each.0.0 i, value_same p.1 each.0.1 i) ∷ params_same ps each.1 i

elements_same : (es : List ElementValue) → AllByRecursion IsStrictElement es → map converted_element es ≡ es
elements_same [] each = refl
elements_same (e ∷ es) each = λ i.
    record { id = name_same e.id each.0.0 i; params = params_same e.params each.0.1 i } ∷ elements_same es each.1 i

joined_same : (es : List ElementValue) → AreDistinct (ids_of es) → map (of_id es) (ids_of es) ≡ es
joined_same [] apart = refl
joined_same (e ∷ es) apart = ap₂ (λ (x : ElementValue) (y : List ElementValue). x ∷ y)
    (ap (λ (x : List (Text × Text)). record { id = e.id; params = x })
    (rw (same_text_eq e.id, none es apart.0) (append-nil e.params)))
    (skipped (ids_of es) apart.0 ∙ joined_same es apart.1)
  where
    none : (us : List ElementValue) → AllByRecursion (λ u. u ≢ e.id) (ids_of us) → params_of e.id us ≡ []
    none [] others = refl
    none (u ∷ us) others = rw (no_text u.id e.id others.0) (none us others.1)

    skipped : (ids : List Text) → AllByRecursion (λ u. u ≢ e.id) ids
        → map (of_id (e ∷ es)) ids ≡ map (of_id es) ids
    skipped [] others = refl
    skipped (id ∷ ids) others = rw (no_text e.id id (λ same. others.0 (sym same)))
        (ap (λ (x : List ElementValue). of_id es id ∷ x) (skipped ids others.1))

-- elements in the grammar of which no id comes twice
pub distinct_again : (es : List ElementValue) → AllByRecursion IsStrictElement es → AreDistinct (ids_of es)
    → converted_elements es ≡ es
distinct_again es are apart = ap joined (elements_same es are) ∙ ap (map (of_id es)) (firsts_same (ids_of es) apart)
    ∙ joined_same es apart

-- ---- they are canonical

param_back : (p : Text × Text) → IsStrictParam p → IsCanonicalParam p
param_back p is =
    (is.0.1.0, each_map is_sd_char is_name_char (λ c h. grind (arith, nat_tests)) p.0 is.0.1.2, value_back p.1 is.1)

pub element_back : (e : ElementValue) → IsStrictElement e → IsCanonicalElement e
element_back e is = (
  is.0.1.0,
  each_map is_sd_char is_id_char (λ c h. grind (arith, nat_tests)) e.id is.0.1.2,
  all_map param_back e.params is.1,
  unblank e.params is.1,
)
  where
    begins : (t : Text) → Each is_sd_char t → Ends is_blank t
    begins [] each = tt
    begins (c ∷ t) each = grind (arith, nat_tests, each.0)

    unblank : (ps : List (Text × Text)) → AllByRecursion IsStrictParam ps → BeginsUnblank ps
    unblank [] each = tt
    unblank (p ∷ ps) each = begins p.0 each.0.0.1.2

-- canonical elements, if their text is elements of the grammar: then they are these
pub strict_stay : (es : List ElementValue) → AllByRecursion IsCanonicalElement es → IsAll sd_elements (elements_text es)
    → elements_text (converted_elements es) ≡ elements_text es
strict_stay es canonical (ds, (is, (some, apart))) =
    let (text, are, _) = (elements_prints (elements_text es) [] ds).0 is in
    let same : elements_text es ≡ elements_text ds = text
    ∙ sym (elements_some ds (λ e. (let k = ap length e in omega arith))) in
    let here : es ≡ ds = (forgiving_det _ [] _ [] es ds (ap (λ (t : Text). t ++ []) same)
    (forgiving_back es [] canonical no_item_nil) (forgiving_back ds [] (all_map element_back ds are) no_item_nil)).1 in
    rw here (ap elements_text (distinct_again ds are apart))

-- ---- the parameters by id
module _ (held : Joined) (seen : List ElementValue) (h : HasJoined held seen) where
  all_texts : (ids : List (String Global))
      → flat_map (λ id. 91 ∷ (text_in id ++ (text_or_none (get_by_text held.params (string_bytes id))
      ++ (93 ∷ [])))) ids
      ≡ flat_map element_text (map (of_id seen) (map (λ s. text_in s) ids))
  all_texts [] = refl
  all_texts (id ∷ ids) = ap₂ (λ (x y : Text). (91 ∷ (text_in id ++ (x ++ (93 ∷ [])))) ++ y)
      (h.params (string_bytes id) (IsUtf8-string_bytes id)) (all_texts ids)

  pub joined_is : joined_text held ≡ joined_elements (joined seen)
  joined_is = all_texts held.ids.items ∙ ap (λ ts. flat_map element_text (map (of_id seen) ts)) h.ids

-- one more text, for a test whether it came before
pub put : (a b e : Bool) → (a || cond e true b) ≡ ((a || b) || (e || false))
put a b e = grind arith

pub last_among : (t u : Text) (ts : List Text) → is_among t (ts ++ u ∷ []) ≡ (is_among t ts || (text_eq u t || false))
last_among t u ts = list_any-append (λ v. text_eq v t) ts (u ∷ [])

pub ids_last : (es : List ElementValue) (e : ElementValue) → ids_of (es ++ e ∷ []) ≡ ids_of es ++ e.id ∷ []
ids_last es e = map-append (λ (x : ElementValue). x.id) es (e ∷ [])

params_last : (id : Text) (es : List ElementValue) (e : ElementValue)
    → params_of id (es ++ e ∷ []) ≡ params_of id es ++ (if text_eq e.id id then e.params else [])
params_last id es e = flat_map-append (λ (x : ElementValue). if text_eq x.id id then x.params else []) es (e ∷ [])
    ∙ ap (λ (x : List (Text × Text)). params_of id es ++ x) (append-nil (if text_eq e.id id then e.params else []))

or_true : (a : Bool) → (a || true) ≡ true
or_true a = grind arith

or_false : (a : Bool) → (a || false) ≡ a
or_false a = grind arith

module _ (old new : Joined) (taken : List ℕ → Option (String Global)) (seen : List ElementValue) (e : ElementValue)
    (id text : String Global) (h : HasJoined old seen) (same : text_in id ≡ e.id)
    (added : text_in text ≡ text_or_none (get_by_text old.params (string_bytes id)) ++ flat_map param_text e.params)
    (ids : map (λ s. text_in s) new.ids.items ≡ map (λ s. text_in s) old.ids.items
    ++ (if is_some (get_by_text old.params (string_bytes id)) then [] else text_in id ∷ []))
    (took : (q : List ℕ) → taken q ≡ cond (bytes_eq (string_bytes id) q) None (get_by_text old.params q))
    (put' : (q : List ℕ) → get_by_text new.params q ≡ cond (bytes_eq (string_bytes id) q) (Some text) (taken q)) where
  its : IsUtf8 (string_bytes id)
  its = IsUtf8-string_bytes id

  -- what is there after the step, at the id and at any other
  abbrev Now : List ℕ → Type 0
  Now q = ((string_bytes id ≡ q) × (text_eq e.id (chars q) ≡ true) × (get_by_text new.params q ≡ Some text))
      ⊎ ((text_eq e.id (chars q) ≡ false) × (get_by_text new.params q ≡ get_by_text old.params q))

  now : (q : List ℕ) → IsUtf8 q → Now q
  now q v =
      let k : bytes_eq (string_bytes id) q ≡ text_eq e.id (chars q) = bytes_text (string_bytes id) q its v
      ∙ ap (λ (x : Text). text_eq x (chars q)) same in
      elim (cases_Bool (bytes_eq (string_bytes id) q)) [
        | inl b ↦ inl ((bytes_eq-Decides (string_bytes id) q).0 b, sym k ∙ b, put' q ∙ rw b refl)
        | inr b ↦ inr (sym k ∙ b, put' q ∙ rw b (took q ∙ rw b refl))
      ]

  more_known : (q : List ℕ) → IsUtf8 q
      → is_some (get_by_text new.params q) ≡ is_among (chars q) (ids_of (seen ++ e ∷ []))
  more_known q v = rw (ids_last seen e, last_among (chars q) e.id (ids_of seen)) (elim (now q v) [
    | inl (_, is, has) ↦ rw (is, has) (sym (or_true _))
    | inr (is, has) ↦ rw (is, has) (h.known q v ∙ sym (or_false _))
  ])

  more_params : (q : List ℕ) → IsUtf8 q
      → text_or_none (get_by_text new.params q) ≡ flat_map param_text (params_of (chars q) (seen ++ e ∷ []))
  more_params q v = rw (params_last (chars q) seen e, flat_map-append) (elim (now q v) [
    | inl (at, is, has) ↦ rw (is, has) (added ∙ ap (λ (x : Text). x ++ flat_map param_text e.params)
        (h.params (string_bytes id) its ∙ ap (λ (x : List ℕ). flat_map param_text (params_of (chars x) seen)) at))
    | inr (is, has) ↦ rw (is, has) (h.params q v ∙ sym (append-nil _))
  ])

  pub joined_more : HasJoined new (seen ++ e ∷ [])
  joined_more = record {
    ids = ids ∙ ap₂ (λ (x y : List Text). x ++ y) h.ids (ap₂ (λ (b : Bool) (x : Text). if b then [] else x ∷ [])
        (h.known (string_bytes id) its ∙ ap (λ (x : Text). is_among x (ids_of seen)) same) same)
        ∙ sym (firsts_last (ids_of seen) e.id) ∙ ap firsts (sym (ids_last seen e));
    known = more_known;
    params = more_params;
  }

pub all_of : {X : Type 0} (f : X → ElementValue) (seen : List ElementValue) (left whole : List X)
    → seen ++ map f left ≡ map f whole → left ≡ [] → seen ≡ map f whole
all_of f seen left whole e none = sym (append-nil seen) ∙ ap (λ x. seen ++ map f x) (sym none) ∙ e
