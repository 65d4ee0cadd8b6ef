-- Which texts are read differently since the rule of the dash changed, and that the condition only grew.
use Rattle.syslog_loose.proofs.Names.{MatchBool, AllDeterministic, dash_rfc3164_list, no_rfc3164_list, rfc3164_list_det}
use Rattle.syslog_loose.proofs.Names.{◌≡◌, IsRfc3164List, BeforeAnything, optional_none, division_front, IsCanonicalFor}
use Rattle.syslog_loose.proofs.Names.{append_assoc, append-nil, ElementValue, IsDashBefore, rfc3164_list, optional_some}
use Rattle.syslog_loose.proofs.Names.{BeginsNoList, IsUnreadable, names_value, optional_det, absent_stays, MessageValue}
use Rattle.syslog_loose.proofs.Names.{◌↔◌, BeforeBlank, both_values, piece_front, IsCanonical, rfc3164_row, stamped_row}
use Rattle.syslog_loose.proofs.Names.{optional, line_value, front_same, all_joined, rows_split, IsRead3164, IsReadUnder}
use Rattle.syslog_loose.proofs.Names.{rules, eqb_tells, is_blank, dash_rule, IsLineOf, rows_join, Names3164, fields_row}
use Rattle.syslog_loose.proofs.Names.{◌++◌, trimmed, DashRule, row_det, row_cons, row_head, Protocol, Variant, Resolves}
use Rattle.syslog_loose.proofs.Names.{IsTrue, length, Option, Values, Dating, IsRead, decide, Either, RFC5424, Divides}
use Rattle.syslog_loose.proofs.Names.{Bool, true, false, List, Some, None, refl, arith, Text, Class, Front, join, shown}
use Rattle.syslog_loose.proofs.Names.{◌⊎◌, ◌∷◌, ◌≢◌, ◌∙◌, inl, inr, ℕ, [], sym, ap, Row, Ends, run, dash, Line}
use Rattle.syslog_text.proofs.PieceLemmas.Class.{firsts, lasts}
use Rattle.std.proofs.Math.Seq.{drop-append_seam}
use Rattle.syslog_loose.{proofs.LineLemmas.line_rest, specs.Bodies.View3164.FieldsAreRead}
use Rattle.syslog_loose.specs.declared.{rfc3164.NameFields.NameFields, variant.Variant.TheVariants.RFC3164}
use Rattle.syslog_loose.specs.DashChange.{ReadsDifferently, BeginsDashChange, HasDashChange3164, HasDashChange}
use Rattle.syslog_loose.specs.DashChange.{IsReadingUnder, WasUnreadable}
use Rattle.syslog_loose.proofs.Rfc3164Lemmas.{is_read, from_gap, from_list, gap_back}
use Rattle.syslog_loose.proofs.ReadingLemmas.{unversioned, versioned}
use Rattle.syslog_loose.proofs.Rfc3164Lemmas as rfc3164
use Rattle.syslog_loose.specs.declared.message.Protocol.TheVariants as protocol
use Rattle.syslog_loose.proofs.Rfc5424Lemmas as strict

-- ---- two readings

-- as RFC 3164 the text is read under each rule, and is read as another message than it was
record ReadsApart (dating : Dating) (text : Text) : Type 0 where
  pub read : (rule : DashRule) → (m : MessageValue) × IsRead3164 rule dating text m
  pub differ : (read BeforeAnything).0 ≢ (read dash_rule).0

differs_by : (variant : Variant) (dating : Dating) (text : Text) (m n : MessageValue) → IsReadUnder BeforeAnything
    variant dating text m → IsReadUnder dash_rule variant dating text n → m ≢ n → ReadsDifferently variant dating text
differs_by variant dating text m n r s differ = record {
  before = Some m;
  now = Some n;
  was_read = r;
  is_read = s;
  differ = λ e. let same : m ≡ n = cc in differ same;
}

-- ---- the condition

own_grows : (p : Protocol) (m : MessageValue) → IsCanonicalFor BeforeAnything p m → IsCanonicalFor BeforeBlank p m
own_grows protocol.RFC3164 m h = search rules
own_grows (protocol.RFC5424 version) m h = h

pub condition_grows : (m : MessageValue) → IsCanonical BeforeAnything m → IsCanonical BeforeBlank m
condition_grows m (canonical, own) = (canonical, own_grows m.protocol m own)

-- the pieces of RFC 3164 before the list
abbrev pub before_list : Dating → List Class
before_list dating = stamped_row dating ++ fields_row

pub before_det : (dating : Dating) → AllDeterministic (before_list dating)
before_det dating = all_joined (stamped_row dating) fields_row (rfc3164.stamped_det dating) rfc3164.fields_det

-- ---- lists under the two rules

dash_change_or_not : (t : Text) → BeginsDashChange t ⊎ (BeginsDashChange t → ⊥)
dash_change_or_not (c ∷ d ∷ q) = elim (eqb_tells c 45) [
  | inl (_, e) ↦ elim (decide (is_blank d)) [
    | inl b ↦ inr (λ h. cc)
    | inr b ↦ inl (record { next = d; after = q; is = ap (λ (x : ℕ). x ∷ d ∷ q) e; no_blank = b })
  ]
  | inr (_, n) ↦ inr (λ h. n cc)
]
dash_change_or_not t = inr (λ h. cc)

-- where no such dash begins the text, the rules agree
dash_before : (rule : DashRule) (q : Text) → (BeginsDashChange (45 ∷ q) → ⊥) → IsDashBefore rule q
dash_before BeforeBlank (c ∷ q) n = search rules
dash_before rule q n = tt

list_stays : (rule other : DashRule) (p q : Text) (es : List ElementValue) → (BeginsDashChange (p ++ q) → ⊥)
    → IsRfc3164List rule p q es → IsRfc3164List other p q es
list_stays rule other p q es n (inl (f, u, g)) = inl (f, dash_before other q (rw f at n), g)
list_stays rule other p q es n (inr h) = inr h

field_stays : (rule other : DashRule) (t q : Text) (es : Option (List ElementValue)) → (BeginsDashChange t → ⊥)
    → Front (optional (rfc3164_list rule)) t q es → Front (optional (rfc3164_list other)) t q es
field_stays rule other t q None n f =
    let still : (p r : Text) (es : List ElementValue) → q ≡ p ++ r → IsRfc3164List other p r es → ⊥ = λ p r es w h.
    f.is.1 p r es w (list_stays other rule p r es (rw ((absent_stays (rfc3164_list rule) f), w) at n) h) in
    record { piece = f.piece; whole = f.whole; is = (f.is.0, still) }
field_stays rule other t q (Some es) n f =
    record { piece = f.piece; whole = f.whole; is = list_stays rule other f.piece q es (rw f.whole at n) f.is }

-- ---- a reading under the old rule

-- the pieces of two rows, with the first of the second row, and the text from that one on
rows_cut : (As : List Class) (C : Class) (Bs : List Class) (vs : Values (As ++ (C ∷ Bs))) (ps : List Text) {t q : Text}
    → t ≡ join ps ++ q → Divides (As ++ (C ∷ Bs)) ps q vs
    → (before : List Text) × (p : Text) × (after : List Text) × (ps ≡ before ++ (p ∷ after))
    × (length before ≡ length As) × Front (Row As) t (join (p ∷ after) ++ q) (firsts As (C ∷ Bs) vs)
    × C.Is p (join after ++ q) (lasts As (C ∷ Bs) vs).0
rows_cut [] C Bs vs (p ∷ ps) e d =
    ([], p, ps, refl, refl, record { piece = []; whole = e; is = ([], refl, tt) }, d.0)
rows_cut (A ∷ As) C Bs vs (a ∷ ps) {q = q} e d =
    let (before, p, after, is, l, f, g) = rows_cut As C Bs vs.1 ps {t = join ps ++ q} refl d.1 in
    let first : Front A _ (join ps ++ q) vs.0 =
    record { piece = a; whole = e ∙ append_assoc a (join ps) q; is = d.0 } in
    (a ∷ before, p, after, ap (λ (x : List Text). a ∷ x) is, omega (arith, l), row_cons A As first f, g)
rows_cut As C Bs vs ps e d = absurd d

module _ (dating : Dating) (text : Text) where
  -- such a dash begins the text from the list on, or the text is read under the other rule too
  turn : (rule other : DashRule) (m : MessageValue) (r : IsRead3164 rule dating text m) → ((u : Text) × Front
      (Row (before_list dating)) (trimmed text) u (firsts (before_list dating) (from_list rule) r.values)
      × BeginsDashChange u) ⊎ IsRead3164 other dating text m
  turn rule other m r =
      let (u, a, b) = rows_split (before_list dating) (from_list rule)
      (division_front (rfc3164_row rule dating) r.division) in
      let (q, list, gap) = row_head (optional (rfc3164_list rule)) from_gap b in
      elim (dash_change_or_not u) [
        | inl d ↦ inl (u, a, d)
        | inr n ↦ inr (is_read other dating text _ _ m refl r.means (rows_join (before_list dating) (from_list other) a
            (row_cons (optional (rfc3164_list other)) from_gap (field_stays rule other u q _ n list) gap)))
      ]

  -- under the old rule the list was that dash
  is_dropped : (m : MessageValue) (r : IsRead3164 BeforeAnything dating text m) (u : Text) → Front
      (Row (before_list dating)) (trimmed text) u (firsts (before_list dating) (from_list BeforeAnything) r.values)
      → BeginsDashChange u → HasDashChange3164 dating text
  is_dropped m r u a k =
      let (before, p, ps, e, l, f, list) = rows_cut (before_list dating) (optional (rfc3164_list BeforeAnything))
      from_gap r.values r.division.pieces (r.division.whole ∙ sym (append-nil _)) r.division.each in
      let same = (front_same (Row (before_list dating)) (row_det (before_list dating) (before_det dating)) f a).0 in
      let is_dash = (optional_det (rfc3164_list BeforeAnything) (rfc3164_list_det BeforeAnything) p (join ps ++ []) dash
      (k.next ∷ k.after) _ (Some []) (sym (append_assoc p (join ps) []) ∙ same ∙ k.is) list (inl (refl, tt, refl))).0
      in
      record {
        message = m;
        read = r;
        before = before;
        list = p;
        after = ps;
        pieces = e;
        place = l;
        is_list = inl (is_dash, tt, refl);
        is_dash = is_dash;
        next = k.next;
        more = k.after;
        follows = let w = append-nil (join ps) in let v = rw is_dash at same in let z = k.is in cc;
        no_blank = k.no_blank;
      }

  -- where such a dash is dropped, the text from it on
  dropped_at : (d : HasDashChange3164 dating text) → Front (Row (before_list dating)) (trimmed text)
      (45 ∷ (d.next ∷ d.more)) (firsts (before_list dating) (from_list BeforeAnything) d.read.values)
  dropped_at d =
      let r = d.read.division in
      let (before, p, ps, e, l, f, _) = rows_cut (before_list dating) (optional (rfc3164_list BeforeAnything))
      from_gap d.read.values r.pieces (r.whole ∙ sym (append-nil _)) r.each in
      let a = drop-append_seam before (p ∷ ps) in
      let place = d.place in
      let b = drop-append_seam d.before (d.list ∷ d.after) in
      let list : p ≡ d.list = cc in
      let same : p ∷ ps ≡ d.list ∷ d.after = cc d.pieces in
      let after : ps ≡ d.after = cc in
      rw (list, after, append-nil, d.is_dash, d.follows) at f

  dash_change_of_differ : (m n : MessageValue) → IsRead3164 BeforeAnything dating text m
      → IsRead3164 BeforeBlank dating text n → (m ≡ n → ⊥) → HasDashChange3164 dating text
  dash_change_of_differ m n r s d = elim (turn BeforeAnything BeforeBlank m r) [
    | inl (u, a, k) ↦ is_dropped m r u a k
    | inr t ↦ absurd (d (rfc3164.one_message BeforeBlank dating text m n t s))
  ]

-- ---- a dash that is dropped

dash_no_list : (c : ℕ) (q : Text) → is_blank c ≡ false → BeginsNoList BeforeBlank (45 ∷ (c ∷ q))
dash_no_list c q b = search rules

module _ (dating : Dating) (text : Text) where
  -- the values of the row with these at its front, this list and this message
  abbrev with_list : Values (before_list dating) → Option (List ElementValue) → Text
      → Values (before_list dating ++ from_list BeforeBlank)
  with_list vs es msg = both_values (before_list dating) (from_list BeforeBlank) vs (es, (tt, (msg, tt)))

  module _ (vs : Values (before_list dating)) (n : Names3164) (means : Resolves vs.1.1.1.0 vs.1.1.1.1.0 n) where
    read_with : (rule : DashRule) (t msg : Text) (es : Option (List ElementValue))
        → Front (Row (before_list dating)) (trimmed text) t vs → Front (optional (rfc3164_list rule)) t msg es
        → Ends is_blank msg → IsRead3164 rule dating text (rfc3164.told rule dating (with_list vs es msg) n)
    read_with rule t msg es f list b =
        is_read rule dating text _ (with_list vs es msg) _ refl (n, means, refl)
        (rows_join (before_list dating) (from_list rule) f (row_cons (optional (rfc3164_list rule)) from_gap list
        (gap_back msg msg (piece_front (run is_blank) [] msg tt (tt, b)))))

    differ_of_dash_change : (c : ℕ) (q : Text) → Front (Row (before_list dating)) (trimmed text) (45 ∷ (c ∷ q)) vs
        → is_blank c ≡ false → ReadsApart dating text
    differ_of_dash_change c q f b =
        let t : Text = 45 ∷ (c ∷ q) in
        record {
          read = λ rule. elim rule as (λ k. (m : MessageValue) × IsRead3164 k dating text m) [
            | BeforeAnything ↦ (
              _,
              read_with BeforeAnything t (c ∷ q) (Some []) f
                  (optional_some (rfc3164_list BeforeAnything) (dash_rfc3164_list BeforeAnything t (c ∷ q) refl tt)) b,
            )
            | BeforeBlank ↦ (
              _,
              read_with BeforeBlank t t None f (optional_none (rfc3164_list BeforeBlank)
                  (no_rfc3164_list BeforeBlank t (dash_no_list c q b))) refl,
            )
          ];
          differ = λ same. let l : length (c ∷ q) ≡ length t = ap (λ (x : MessageValue). length x.msg) same in
              omega (arith, l);
        }

  differs_by_dash_change : HasDashChange3164 dating text → ReadsApart dating text
  differs_by_dash_change d =
      let (n, means, is) = d.read.means in
      differ_of_dash_change _ n means d.next d.more (dropped_at dating text d) d.no_blank

-- ---- under each variant

module _ (dating : Dating) (text : Text) where
  forth : (variant : Variant) (m n : MessageValue) → IsReadUnder BeforeAnything variant dating text m
      → IsReadUnder BeforeBlank variant dating text n → (m ≡ n → ⊥) → HasDashChange variant dating text
  forth RFC5424 m n r s d = d (strict.one_message text m n r s)
  forth RFC3164 m n r s d = dash_change_of_differ dating text m n r s d
  forth Either m n (inl r) (inl s) d = absurd (d (strict.one_message text m n r s))
  forth Either m n (inl r) (inr (none, s)) d = absurd (none r.values r.division)
  forth Either m n (inr (none, r)) (inl s) d = absurd (none s.values s.division)
  forth Either m n (inr (none, r)) (inr (also, s)) d = (none, dash_change_of_differ dating text m n r s d)

  back : (variant : Variant) → HasDashChange variant dating text → ReadsDifferently variant dating text
  back RFC5424 d = absurd d
  back RFC3164 d = let r = differs_by_dash_change dating text d in
      differs_by RFC3164 dating text _ _ (r.read BeforeAnything).1 (r.read BeforeBlank).1 r.differ
  back Either (none, d) = let r = differs_by_dash_change dating text d in
      differs_by Either dating text _ _ (inr (none, (r.read BeforeAnything).1)) (inr (none, (r.read BeforeBlank).1))
      r.differ

  -- ---- a text was read exactly where it is

  other_too : (rule other : DashRule) (m : MessageValue) → IsRead3164 rule dating text m
      → (n : MessageValue) × IsRead3164 other dating text n
  other_too rule other m r = elim (turn dating text rule other m r) [
    | inl (u, a, d) ↦ let (n, means, is) = r.means in
        (differ_of_dash_change dating text _ n means d.next d.after (rw d.is at a) d.no_blank).read other
    | inr t ↦ (m, t)
  ]

  -- so a text unreadable under one rule is so under the other
  unread_too : (rule other : DashRule) (variant : Variant) → ((m : MessageValue) → IsReadUnder other variant dating text
      m → ⊥) → (m : MessageValue) → IsReadUnder rule variant dating text m → ⊥
  unread_too rule other RFC5424 h m r = h m r
  unread_too rule other RFC3164 h m r = let (n, s) = other_too rule other m r in h n s
  unread_too rule other Either h m (inl s) = h m (inl s)
  unread_too rule other Either h m (inr (none, s)) = let (n, k) = other_too rule other m s in h n (inr (none, k))

  pub unread_alike : (variant : Variant) → WasUnreadable variant dating text ↔ IsUnreadable variant dating text
  unread_alike variant = (unread_too BeforeBlank BeforeAnything variant, unread_too BeforeAnything BeforeBlank variant)

  -- ---- readings that differ are two

  two : (variant : Variant) (before now : Option MessageValue) → IsReadingUnder BeforeAnything variant dating text
      before → IsReadingUnder BeforeBlank variant dating text now → before ≢ now → HasDashChange variant dating text
  two variant None None r s d = absurd (d refl)
  two variant None (Some n) r s d = absurd ((unread_alike variant).0 r n s)
  two variant (Some m) None r s d = absurd ((unread_alike variant).1 s m r)
  two variant (Some m) (Some n) r s d = forth variant m n r s (λ e. d (ap (λ (x : MessageValue). Some x) e))

  pub differs_where_dash_change : (variant : Variant) → ReadsDifferently variant dating text
      ↔ HasDashChange variant dating text
  differs_where_dash_change variant = (λ r. two variant r.before r.now r.was_read r.is_read r.differ, back variant)

-- ---- what the call finds

-- a text that does not parse has no such dash
pub unchanged_unread : (variant : Variant) (dating : Dating) (text : Text) → IsUnreadable variant dating text
    → HasDashChange variant dating text → ⊥
unchanged_unread RFC5424 dating text none d = d
unchanged_unread RFC3164 dating text none d = (unread_alike dating text RFC3164).1 none d.message d.read
unchanged_unread Either dating text none (strict, d) =
    (unread_alike dating text Either).1 none d.message (inr (strict, d.read))

-- and one that is read as RFC 5424 has none
pub unchanged_5424 : (variant : Variant) (dating : Dating) (text : Text) (line : Line)
    → IsRead variant dating text (line_value line) → (line.version ≡ None → ⊥) → HasDashChange variant dating text → ⊥
unchanged_5424 RFC5424 dating text line r some d = d
unchanged_5424 RFC3164 dating text line r some d = some (unversioned line r)
unchanged_5424 Either dating text line (inl r) some (strict, d) = strict r.values r.division
unchanged_5424 Either dating text line (inr (strict, r)) some d = some (unversioned line r)

-- one that is read as RFC 3164 has one where one is before the list
told_by_list : (dating : Dating) (text list : Text) (vs : Values (before_list dating)) (n : Names3164) (b : Bool)
    → Front (Row (before_list dating)) (trimmed text) list vs → Resolves vs.1.1.1.0 vs.1.1.1.1.0 n
    → MatchBool b (BeginsDashChange list) (BeginsDashChange list → ⊥) → IsTrue b ↔ HasDashChange3164 dating text
told_by_list dating text list vs n true f means h = (
  λ t. dash_change_of_differ dating text _ _ (a.read BeforeAnything).1 (a.read BeforeBlank).1 a.differ,
  λ d. refl,
)
  where
    a : ReadsApart dating text
    a = differ_of_dash_change dating text vs n means h.next h.after (rw h.is at f) h.no_blank
told_by_list dating text list vs n false f means h = (
  λ t. cc,
  λ d. let same = (front_same (Row (before_list dating)) (row_det (before_list dating) (before_det dating)) f
      (dropped_at dating text d)).0 in
      absurd (h (record { next = d.next; after = d.more; is = same; no_blank = d.no_blank })),
)

pub told_by_line : (variant : Variant) (dating : Dating) (text : Text) (line : Line) (fields : NameFields) (b : Bool)
    → IsLineOf variant dating text line → line.version ≡ None → FieldsAreRead (shown line.rest) fields
    → MatchBool b (BeginsDashChange (shown fields.rest)) (BeginsDashChange (shown fields.rest) → ⊥)
    → IsTrue b ↔ HasDashChange variant dating text
told_by_line variant dating text line fields b of none are h =
    in_variant variant of.only.read (told_by_list dating text (shown fields.rest) _ (names_value fields.names) b
    (rows_join (stamped_row dating) fields_row (line_rest line of none) are.read.front) are.read.means h)
  where
    in_variant : (variant : Variant) → IsRead variant dating text (line_value line)
        → IsTrue b ↔ HasDashChange3164 dating text → IsTrue b ↔ HasDashChange variant dating text
    in_variant RFC5424 r told = absurd (versioned line r none)
    in_variant RFC3164 r told = told
    in_variant Either (inl r) told = absurd (versioned line r none)
    in_variant Either (inr (strict, r)) told = (λ t. (strict, told.0 t), λ d. told.1 d.1)

-- ---- both clauses of the call

-- whoever finds the texts from which a dash is dropped finds those that read differently
pub differs_so : (variant : Variant) (dating : Dating) (text : Text) (b : Bool)
    → IsTrue b ↔ HasDashChange variant dating text → IsTrue b ↔ ReadsDifferently variant dating text
differs_so variant dating text b h =
    let law = differs_where_dash_change dating text variant in (λ t. law.1 (h.0 t), λ r. h.1 (law.0 r))
