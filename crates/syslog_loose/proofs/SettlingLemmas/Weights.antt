-- What a message weighs: one weight, no more than its text has characters; and which texts begin with a list.
use Rattle.syslog_loose.proofs.Names.{drop_trailing_whitespace, skip_leading_whitespace, stamp_text_canonical, run_same}
use Rattle.syslog_loose.proofs.Names.{is_not_whitespace, AllDeterministic, IsCanonicalStamp, no_full_opening, no_texted}
use Rattle.syslog_loose.proofs.Names.{some_front_run, OffsetTimestamp, no_rfc3164_list, begins_no_list, division_front}
use Rattle.syslog_loose.proofs.Names.{no_full_start, is_inner_char, length-append, option_map_or, IsRfc3164List, ◌then◌}
use Rattle.syslog_loose.proofs.Names.{present_front, rfc3164_stamp, full_element, IsDashBefore, BeginsNoList, eqb_tells}
use Rattle.syslog_loose.proofs.Names.{front_longer, is_name_char, is_open_char, ElementValue, BeforeBlank, rfc3164_list}
use Rattle.syslog_loose.proofs.Names.{absent_stays, MessageValue, names_weight, opening_row, opening_det, piece_front}
use Rattle.syslog_loose.proofs.Names.{full_begins, elements_or, absent_none, rfc3164_row, is_id_char, ◌++◌, stamped_row}
use Rattle.syslog_loose.proofs.Names.{each_right, row_pieces, front_same, rest_whole, IsRead3164, month_date, start_row}
use Rattle.syslog_loose.proofs.Names.{row_cons, each_both, each_left, Names3164, MonthDate, unwrap_or, zero, rows_split}
use Rattle.syslog_loose.proofs.Names.{some_run, NoFront, is_blank, DashRule, optional, Resolves, row_head, tag_word, []}
use Rattle.syslog_loose.proofs.Names.{exactly, run_det, ◌also◌, length, row_of, texted, begins, nat_eq, no_row, Option}
use Rattle.syslog_loose.proofs.Names.{rules, false, subst, IfSome, Values, ProcId, Weighs, spaced, IsHost, Dating, Bool}
use Rattle.syslog_loose.proofs.Names.{ℕ, arith, heads, Class, Front, start, colon, Costs, month, true, List, refl, Text}
use Rattle.syslog_loose.proofs.Names.{Each, Ends, None, Some, Name, step, join, ◌≡◌, ◌≤◌, ◌⊎◌, ◌∷◌, ◌∙◌, suc, inl, inr}
use Rattle.syslog_loose.proofs.Names.{sym, Row, run, ◌<◌, not, ◌+◌, PID, ap}
use Rattle.syslog_text.proofs.PieceLemmas.Class.{row_nil, row_none_here, row_none_later, texted_front, no_front_no}
use Rattle.syslog_text.proofs.PieceLemmas.Class.{Meets, meets_here, meets_none}
use Rattle.syslog_text.proofs.PieceLemmas.Lists.{no_more, no_more_after}
use Rattle.syslog_elements.proofs.StructuredDataLemmas.Elements.{start_det, value_here, unit_goes}
use Rattle.syslog_elements.proofs.StructuredDataLemmas.Closing.{no_closing, closing_goes, quoted_goes, no_opening}
use Rattle.syslog_elements.proofs.StructuredDataLemmas.Closing.{no_quoted_short, passes_here, value_ends, value_breaks}
use Rattle.syslog_elements.proofs.StructuredDataLemmas.Closing.{value_goes}
use Rattle.syslog_elements.{proofs.StructuredDataLemmas.Walk.full_goes, specs.StructuredData.param}
use Rattle.syslog_pieces.proofs.TimestampLemmas.MonthDate.{month_begins}
use Rattle.std.{proofs.lemmas.Bool.Decides.not_from_Decides, proofs.lemmas.List.reverse-append, specs.Bool.Decides}
use Rattle.syslog_elements.specs.Bodies.Closing.{opening, quoted_row, quoted, closing}
use Rattle.syslog_elements.specs.StructuredData.Escapes.{pair, single}
use Rattle.syslog_loose.proofs.PrintedLemmas.{visible_no_blank}
use Rattle.std.proofs.lemmas.List.Sums.{suffix_len-le-length}
use Rattle.syslog_loose.specs.Settling.{end_colons, host_weight, process_weight}
use Rattle.syslog_loose.proofs.Rfc3164Lemmas.{from_list, from_blanks, to_colon, of_names}

-- ---- whether a list begins a text can be decided, piece by piece

-- it holds, or it does not
abbrev pub Decided : Type 0 → Type 0
Decided A = A ⊎ (A → ⊥)

pub decided : {A : Type 0} (b : Bool) → Decides b A → Decided A
decided true d = inl (d.0 refl)
decided false d = inr (not_from_Decides false d refl)

-- a piece of the class begins the text, or none does
abbrev Finds : Class → Text → Type 0
Finds C t = ((q : Text) × (v : C.Value) × Front C t q v) ⊎ NoFront C t

find_moved : (C : Class) (t : Text) (D : Class) (u : Text) → Meets C t D u → Finds D u → Finds C t
find_moved C t D u m (inl (q, v, f)) = (let (w, g) = m.forth q v f in inl (q, w, g))
find_moved C t D u m (inr n) = inr (meets_none C t D u m n)

-- ---- one character, runs, and rows of them
pub no_char : (c d : ℕ) (t : Text) → (d ≡ c → ⊥) → NoFront (exactly (c ∷ [])) (d ∷ t)
no_char c d t k p q v e h = k (heads d c t q (e ∙ ap (λ (x : Text). x ++ q) h))

find_char : (c : ℕ) (t : Text) → Finds (exactly (c ∷ [])) t
find_char c [] = inr (λ p q v e h. let k : [] ≡ c ∷ q = e ∙ ap (λ (x : Text). x ++ q) h in cc)
find_char c (d ∷ t) = elim (eqb_tells d c) [
  | inl r ↦ inl (t, tt, record { piece = c ∷ []; whole = ap (λ (x : ℕ). x ∷ t) r.1; is = refl })
  | inr r ↦ inr (no_char c d t r.1)
]

find_blanks : (t : Text) → Finds (run is_blank) t
find_blanks t = let (q, f) = some_front_run is_blank t in inl (q, tt, f)

find_text : (test : ℕ → Bool) (t : Text) → Finds (texted (some_run test)) t
find_text test t = let (q, f) = some_front_run test t in by f.piece q f.whole f.is.0 f.is.1
  where
    by : (p q : Text) → t ≡ p ++ q → Each test p → Ends test q → Finds (texted (some_run test)) t
    by [] q e a b = inr (no_texted (some_run test) (λ p r v f h.
        let s = ap length (run_same test p r [] q (sym f ∙ e) h.1 h.2 a b) in let l = h.0 in omega (arith, s, l)))
    by (c ∷ p) q e a b =
        inl (q, _, texted_front (some_run test) (record { piece = c ∷ p; whole = e; is = (omega arith, a, b) }))

-- of each class of a row
abbrev AllFind : List Class → Type 0
AllFind [] = Unit {0}
AllFind (C ∷ Cs) = ((t : Text) → Finds C t) × AllFind Cs

find_row : (Cs : List Class) → AllDeterministic Cs → AllFind Cs → (t : Text) → Finds (Row Cs) t
find_row [] d k t = inl (t, tt, row_nil t)
find_row (C ∷ Cs) d k t = elim (k.0 t) [
  | inl (q, v, f) ↦ elim (find_row Cs d.1 k.1 q) [
    | inl (r, vs, g) ↦ inl (r, (v, vs), row_cons C Cs f g)
    | inr n ↦ inr (row_none_later C Cs d.0 f n)
  ]
  | inr n ↦ inr (row_none_here C Cs n)
]

find_opening : (t : Text) → Finds opening t
find_opening t = find_row opening_row opening_det
    (find_text is_name_char also find_char 61 also find_blanks also find_char 34 also tt) t

-- ---- from inside a value to the end of its element

-- from a quote that closes the value
find_after : (t y : Text) → t ≡ 34 ∷ y → ((s : Text) → length s ≤ length y → Finds closing s) → Finds closing t
find_after t y e next =
    let here = passes_here closing t in
    let same = meets_here closing t in
    let quote : Front (exactly (34 ∷ [])) t y tt = record { piece = 34 ∷ []; whole = e; is = refl } in
    let f : Front quoted t y ([], (tt, tt)) = row_of quoted_row (value_here t y e then quote then refl) in
    elim (find_char 93 y) [
      | inl (q, _, g) ↦ (let (v, whole) = value_ends here same f q g in inl (q, v, whole))
      | inr m ↦ elim (find_char 32 y) [
        | inl (z, _, g) ↦ elim (find_opening z) [
          | inl (r, ws, o) ↦ find_moved closing t closing r (value_goes here same f z r ws g o)
              (next r (omega (arith, front_longer _ g, front_longer _ o)))
          | inr k ↦ inr (value_breaks here same f
              (no_more_after param 32 93 y z m (begins 32 y z g) (no_opening k)) _ refl).0
        ]
        | inr k ↦ inr (value_breaks here same f (no_more param 32 93 y m k) _ refl).0
      ]
    ]

-- from a backslash
find_escaped : (c : ℕ) (t : Text) → c ≡ 92 → ((s : Text) → length s ≤ length t → Finds closing s)
    → Finds closing (c ∷ t)
find_escaped c [] e next = inr (no_closing (c ∷ []) (no_quoted_short (c ∷ []) refl (omega arith)
    (λ r k. let q : c ≡ 34 = cc in omega (arith, e, q))))
find_escaped c (d ∷ t) e next = find_moved closing _ closing t (closing_goes (quoted_goes (unit_goes (pair d)
    (c ∷ d ∷ t) t tt (ap (λ (x : ℕ). x ∷ d ∷ t) e)))) (next t (omega arith))

find_closing : (n : ℕ) (t : Text) → length t ≤ n → Finds closing t
find_closing n [] l = inr (no_closing [] (no_quoted_short [] refl (omega arith) (λ r k. cc)))
find_closing zero (c ∷ t) l = absurd (omega arith)
find_closing (suc n) (c ∷ t) l =
    let next : (s : Text) → length s ≤ length t → Finds closing s = λ s k. find_closing n s (omega arith) in
    elim (eqb_tells c 34) [
      | inl a ↦ find_after (c ∷ t) t (ap (λ (x : ℕ). x ∷ t) a.1) next
      | inr a ↦ elim (eqb_tells c 92) [
        | inl b ↦ find_escaped c t b.1 next
        | inr b ↦ find_moved closing _ closing t
            (closing_goes (quoted_goes (unit_goes (single c) (c ∷ t) t (b.1, a.1) refl))) (next t (omega arith))
      ]
    ]

find_full : (t : Text) → Finds full_element t
find_full t = elim (find_row start_row start_det (find_char 91 also find_text is_id_char also find_blanks also tt) t) [
  | inl (u, vs, f) ↦ elim (find_opening u) [
    | inl (x, ws, g) ↦ find_moved full_element t closing x (full_goes t u vs f x ws g)
        (find_closing (length x) x (omega arith))
    | inr n ↦ inr (no_full_opening t u vs f n)
  ]
  | inr n ↦ inr (no_full_start t n)
]

-- ---- lists
dash_before_decided : (rule : DashRule) (q : Text) → Decided (IsDashBefore rule q)
dash_before_decided BeforeBlank (c ∷ q) = decided (is_blank c) ((λ h. h), (λ h. h))
dash_before_decided rule q = inl tt

dash_decided : (rule : DashRule) (t : Text) → Decided ((q : Text) → t ≡ 45 ∷ q → IsDashBefore rule q → ⊥)
dash_decided rule [] = inl (λ q e a. cc)
dash_decided rule (c ∷ t) = elim (eqb_tells c 45) [
  | inl h ↦ elim (dash_before_decided rule t) [
    | inl a ↦ inr (λ k. k t (ap (λ (x : ℕ). x ∷ t) h.1) a)
    | inr b ↦ inl (λ q e a. b (subst (λ (x : Text). IsDashBefore rule x) (let same : q ≡ t = cc in same) a))
  ]
  | inr m ↦ inl (λ q e a. m.1 (heads c 45 t q e))
]

pub list_decided : (rule : DashRule) (t : Text) → Decided (BeginsNoList rule t)
list_decided rule t = elim (find_full t) [
  | inl (q, v, f) ↦ inr (λ k. k.1 f.piece q v f.whole f.is)
  | inr n ↦ elim (dash_decided rule t) [ inl d ↦ inl (d, n) | inr d ↦ inr (λ k. d k.0) ]
]

-- ---- texts that begin with no list

-- by the first character
pub no_list_by : (rule : DashRule) (c : ℕ) (t : Text) → (c ≡ 45 → ⊥) → (c ≡ 91 → ⊥) → BeginsNoList rule (c ∷ t)
no_list_by rule c t a b =
    (λ q e k. a (heads c 45 t q e), λ p q v e h. (let s = full_begins p q v h in b (heads c 91 t s.0 (e ∙ s.1))))

-- ---- inside a process name no list begins that its bracket ends

-- no white space up to a `]`, which is there
abbrev Inner : Text → Type 0
Inner [] = ⊥
Inner (c ∷ t) = (is_not_whitespace c ≡ true) × ((c ≡ 93) ⊎ Inner t)

inner_name : (z s : Text) → Each is_inner_char z → Inner (z ++ (93 ∷ s))
inner_name [] s h = (refl, inl refl)
inner_name (c ∷ z) s h = ((each_left is_not_whitespace is_open_char (c ∷ z) h).0, inr (inner_name z s h.1))

inside : (p w : Text) → Each is_open_char p → Inner (p ++ w) → Each is_not_whitespace p × Inner w
inside [] w o i = (tt, i)
inside (c ∷ p) w o (v, inl e) = absurd (let k : false ≡ true = rw e at o.0 in cc)
inside (c ∷ p) w o (v, inr i) = (let (seen, inner) = inside p w o.1 i in ((v, seen), inner))

inner_on : {t : Text} (p w : Text) → t ≡ p ++ w → Each is_open_char p → Inner t → Each is_not_whitespace p × Inner w
inner_on p w e o i = inside p w o (subst Inner e i)

ends_blank : (t : Text) → Inner t → Ends is_blank t
ends_blank [] i = tt
ends_blank (c ∷ t) i = visible_no_blank c i.0

-- after a dash is neither a blank nor the end
no_dash : (q : Text) → Inner q → IsDashBefore BeforeBlank q → ⊥
no_dash [] i a = i
no_dash (c ∷ q) i a = let t : true ≡ false = sym a ∙ visible_no_blank c i.0 in cc

ends_run : (test : ℕ → Bool) (n r : Text) → 0 < length n → Each test n → Ends test (n ++ r) → ⊥
ends_run test [] r l h e = omega arith
ends_run test (c ∷ n) r l h e = let t : true ≡ false = sym h.0 ∙ e in cc

-- what follows an id is the bracket, or no blank and no name
no_full : (t : Text) → Inner t → NoFront full_element t
no_full t i p q v e h =
    no_full_start t (λ a u vs w s.
    let f : Front start t u vs = record { piece = a; whole = w; is = s } in
    let (_, bracket, (t2, id, (_, blanks, end))) = row_pieces start_row f in
    let after = (inner_on bracket.piece _ bracket.whole (rw bracket.is (refl, tt)) i).1 in
    let named = each_right is_not_whitespace is_name_char id.piece id.is.1.1 in
    let inner =
    (inner_on id.piece _ id.whole (each_left is_open_char (λ c. not (nat_eq c 61)) id.piece named) after).1 in
    let same = (front_same (run is_blank) (run_det is_blank) blanks
    (piece_front (run is_blank) [] t2 tt (tt, ends_blank t2 inner))).0 in
    no_full_opening t u vs f (no_row opening_row opening_det (inl (λ n r x g k.
    let here : t2 ≡ n ++ r = sym same ∙ end ∙ g in
    let (seen, _) = inner_on n r here (each_left is_open_char (λ c. not (nat_eq c 61)) n k.1.1) inner in
    ends_run is_id_char n r k.1.0 (each_both is_not_whitespace is_name_char n seen k.1.1) (rw here at id.is.1.2))))
    p q v e h) p q v e h

-- the text is the message
pub no_list_inner : (z s : Text) → Each is_inner_char z
    → Ends is_blank (z ++ (93 ∷ s)) × BeginsNoList BeforeBlank (z ++ (93 ∷ s))
no_list_inner z s h = search (rules, inner_name, no_full)

-- a text that begins with a dash and a blank begins with a list
pub dash_before : (blanks next : Text) → 0 < length blanks → Each is_blank blanks
    → IsDashBefore BeforeBlank (blanks ++ next)
dash_before [] next l k = absurd (omega arith)
dash_before (c ∷ cs) next l k = k.0

-- ---- one weight
cost_once : {A : Type 0} {n w v : ℕ} → Costs A n w → Costs A n v → w ≡ v
cost_once a b = search rules

pub free : {A : Type 0} {n w : ℕ} → Costs A n w → A → w ≡ 0
free c a = cost_once c (inl (a, refl))

pub paid : {A : Type 0} {n w : ℕ} → Costs A n w → (A → ⊥) → w ≡ n
paid c k = cost_once c (inr (k, refl))

pub at_most : {A : Type 0} {n w : ℕ} → Costs A n w → w ≤ n
at_most c = grind arith

pub once : (rule : DashRule) (m : MessageValue) (w v : ℕ) → Weighs rule m w → Weighs rule m v → w ≡ v
once rule m w v a b = omega (arith, a.total, b.total, cost_once a.stamp_is b.stamp_is, cost_once a.taken_is b.taken_is)

-- ---- some weight

-- whether the timestamp is canonical can be decided
stamp_decided : (s : Option OffsetTimestamp) → Decided (IfSome s IsCanonicalStamp)
stamp_decided None = inl tt
stamp_decided (Some s) = search rules

-- so can whether the message begins with a list although there is no element
list_free : (rule : DashRule) (es : List ElementValue) (msg : Text) → Decided (es ≡ [] → BeginsNoList rule msg)
list_free rule [] msg = elim (list_decided rule msg) [ inl b ↦ inl (λ e. b) | inr n ↦ inr (λ k. n (k refl)) ]
list_free rule (e ∷ es) msg = inl (λ z. absurd (cc))

cost : (A : Type 0) (n : ℕ) → Decided A → (w : ℕ) × Costs A n w
cost A n (inl a) = (0, inl (a, refl))
cost A n (inr k) = (n, inr (k, refl))

pub weight : (rule : DashRule) (m : MessageValue) → (w : ℕ) × Weighs rule m w
weight rule m =
    let (a, x) = cost _ 1 (stamp_decided m.timestamp) in
    let (b, y) = cost _ (length m.msg) (list_free rule m.structured_data m.msg) in
    (_, record { stamp = a; taken = b; stamp_is = x; taken_is = y; total = refl })

-- ---- the names weigh no more than the fields that they are in
-- a dash does not end in a colon
pub host_light : (h : Text) → host_weight h ≤ end_colons h + 1
host_light h = search rules

pub colon_weight : (h : Text) → end_colons h + 2 ≤ host_weight (h ++ colon)
colon_weight h = search (rules, reverse-append)

pub process_light : (p : ProcId Text) → process_weight p ≤ 1
process_light (PID n) = omega arith
process_light (Name t) = grind arith

-- the space before a text, and the text
abbrev pub field_length : Option (Option Text) → ℕ
field_length None = 0
field_length (Some None) = 0
field_length (Some (Some t)) = suc (length t)

field_light : (v : Option (Option Text)) → option_map_or host_weight (unwrap_or v None) 0 ≤ field_length v
field_light (Some (Some h)) = omega (arith, host_light h, suffix_len-le-length (λ c. nat_eq c 58) h)
field_light v = omega arith

pub fields_light : (v t : Option (Option Text)) (n : Names3164) → Resolves v t n
    → names_weight n.hostname n.procid ≤ field_length v + field_length t
fields_light =
    of_names (λ v t n. names_weight n.hostname n.procid ≤ field_length v + field_length t) (record {
      nobody = λ v t. omega arith;
      host = λ h none. omega (arith, field_light (Some (Some h)));
      lone = λ h tag id p f g. omega (arith, process_light p);
      app = λ v t none. omega (arith, field_light v);
      process = λ v t tag id p f g. omega (arith, field_light v, process_light p);
    })

-- ---- the message part
module _ (rule : DashRule) where
  list_some : (p q : Text) (es : List ElementValue) → IsRfc3164List rule p q es → 0 < length p
  list_some p q es (inl (d, a, e)) = omega (arith, ap length d)
  list_some p q [] (inr (l, h)) = absurd (omega arith)
  list_some p q (e ∷ es) (inr (l, (a, b, i, k, more))) = search rules

  -- What is left of a text from which a list may be taken: all of it, or less where a list begins it. Where that has no
  -- element, it follows a dash.
  abbrev pub Leaves : Text → Option (List ElementValue) → Text → Type 0
  Leaves t v left = (BeginsNoList rule t × (v ≡ None) × (left ≡ t))
      ⊎ ((BeginsNoList rule t → ⊥) × (length left < length t) × (elements_or v ≡ [] → (rest : Text) × (t ≡ 45 ∷ rest)
      × IsDashBefore rule rest × Front (run is_blank) rest left tt))

  leaves : {t q : Text} (v : Option (List ElementValue)) (left : Text) → Ends is_blank t
      → Front (optional (rfc3164_list rule)) t q v → Front (run is_blank) q left tt → Leaves t v left
  leaves {t = t} None left b g gap = inl (
    begins_no_list rule t (absent_none (rfc3164_list rule) g),
    refl,
    (front_same (run is_blank) (run_det is_blank) (rw (← absent_stays (rfc3164_list rule) g) at gap)
        (piece_front (run is_blank) [] t tt (tt, b))).0,
  )
  leaves {t = t} {q = q} (Some es) left b g gap = inr (
    λ n. no_front_no (rfc3164_list rule) (no_rfc3164_list rule t n) (present_front (rfc3164_list rule) g),
    omega (arith, list_some g.piece q es g.is, front_longer _ gap, ap length g.whole, length-append g.piece q),
    λ e. elim g.is [
      | inl (d, before, _) ↦ (q, g.whole ∙ ap (λ (x : Text). x ++ q) d, before, gap)
      | inr (l, _) ↦ absurd (omega (arith, l, ap length e))
    ],
  )

  module _ (t u : Text) (vs : Values (from_blanks rule)) (gap : Front (run is_blank) t u tt)
      (d : Front (Row (from_blanks rule)) t [] vs) where
    -- what is read after blanks
    pub list_read : Leaves u vs.1.0 vs.1.1.1.0
    list_read =
        let (q, list, (_, more, (_, end, _))) =
        row_pieces (from_list rule) (step (run is_blank) (from_list rule) (run_det is_blank) gap d) in
        leaves vs.1.0 vs.1.1.1.0 gap.is.1 list (subst (λ (x : Text). Front (run is_blank) q x tt) (rest_whole end) more)

    -- where it begins with no list, neither does what is left
    pub left_none : BeginsNoList rule u → elements_or vs.1.0 ≡ [] → BeginsNoList rule vs.1.1.1.0
    left_none n e = elim list_read [ inl (_, _, same) ↦ rw same n | inr (began, _, _) ↦ absurd (began n) ]

  pub message_short : (t : Text) (vs : Values (from_blanks rule)) → Front (Row (from_blanks rule)) t [] vs
      → length vs.1.1.1.0 ≤ length t
  message_short t vs d =
      let (u, gap, _) = row_head (run is_blank) (from_list rule) d in
      elim (list_read t u vs gap d) [
        | inl (_, _, e) ↦ omega (arith, ap length e, front_longer _ gap)
        | inr (_, l, _) ↦ omega (arith, l, front_longer _ gap)
      ]

-- ---- the trimmed text
skip_shorter : (cs : Text) → length (skip_leading_whitespace cs) ≤ length cs
skip_shorter [] = omega arith
skip_shorter (c ∷ cs) = grind (arith, skip_shorter cs)

drop_shorter : (cs : Text) → length (drop_trailing_whitespace cs) ≤ length cs
drop_shorter [] = omega arith
drop_shorter (c ∷ cs) = grind (arith, drop_shorter cs)

-- ---- the timestamp
row_some : (Cs : List Class) (p q : Text) (vs : Values (month ∷ Cs)) → (Row (month ∷ Cs)).Is p q vs → 0 < length p
row_some Cs p q vs ([], e, h) = absurd h
row_some Cs p q vs ([] ∷ ps, e, h) = absurd (month_begins [] (join ps ++ q) vs.0 h.0)
row_some Cs p q vs ((c ∷ x) ∷ ps, e, h) = omega (arith, ap length e)

date_some : (p q : Text) (d : MonthDate) → month_date.Is p q d → 0 < length p
date_some p q d (inl (vs, k, i)) = search row_some
date_some p q d (inr (vs, k, i)) = search row_some

stamp_light : (dating : Dating) (p q : Text) (s : Option OffsetTimestamp) (w : ℕ) → (rfc3164_stamp dating).Is p q s
    → Costs (IfSome s IsCanonicalStamp) 1 w → w ≤ length p
stamp_light dating p q None w h c = omega (arith, free c tt)
stamp_light dating p q (Some s) w (inl (text, space)) c = omega (arith, free c (stamp_text_canonical p s text))
stamp_light dating p q (Some s) w (inr (d, h, k)) c = omega (arith, at_most c, date_some p q d h)

-- ---- the names
host_length : (p q : Text) (v : Option Text) → IsHost p q v → field_length (Some v) ≤ suc (length p)
host_length p q None h = omega arith
host_length p q (Some x) h = grind arith

tag_length : (p q : Text) (v : Option Text) → tag_word.Is p q v → field_length (Some v) ≤ suc (length p)
tag_length p q None h = omega arith
tag_length p q (Some x) (l, a, b, (w, d)) = omega (arith, ap length w)

field_short : (Is : Text → Text → Option Text → Type 0) → ((p q : Text) (v : Option Text) → Is p q v → field_length
    (Some v) ≤ suc (length p)) → {t q : Text} (v : Option (Option Text)) → Front (optional
    (spaced (record { Value = Option Text; Is = Is }))) t q v → field_length v + length q ≤ length t
field_short Is short None f = omega (arith, front_longer _ f)
field_short Is short {q = q} (Some v) f = search (rules, length-append)

-- ---- the message
pub light : (rule : DashRule) (dating : Dating) (text : Text) (m : MessageValue) (w : ℕ) → IsRead3164 rule dating text m
    → Weighs rule m w → w ≤ length text
light rule dating text m w r x =
    let (n, resolves, means) = r.means in
    let y = subst (λ (z : MessageValue). Weighs rule z w) means x in
    let front_row = stamped_row dating ++ to_colon in
    let (u, front, left) = rows_split front_row (from_blanks rule)
    (division_front (rfc3164_row rule dating) r.division) in
    let (_, pri, (_, blanks, (v, stamp, (_, origin, (_, program, (_, gap, (_, mark, end))))))) =
    row_pieces front_row front in
    omega (
      arith,
      y.total,
      stamp_light dating stamp.piece v r.values.1.1.0 y.stamp stamp.is y.stamp_is,
      fields_light r.values.1.1.1.0 r.values.1.1.1.1.0 n resolves,
      field_short IsHost host_length r.values.1.1.1.0 origin,
      field_short tag_word.Is tag_length r.values.1.1.1.1.0 program,
      front_longer _ gap,
      front_longer _ mark,
      message_short rule u r.values.1.1.1.1.1.1.1 left,
      ap length end,
      at_most y.taken_is,
      ap length stamp.whole,
      length-append stamp.piece v,
      front_longer _ blanks,
      front_longer _ pri,
      drop_shorter (skip_leading_whitespace text),
      skip_shorter text,
    )
