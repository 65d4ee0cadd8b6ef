-- A text is divided into records in one way at most, and those that are written are read back.
use Rattle.std.proofs.Common.{◌≡◌, ◌≢◌, ◌⊎◌, ◌==◌, ℕ, Bool, true, false, List, [], ◌∷◌, ◌++◌, refl, sym, ap, subst, ◌∙◌}
use Rattle.std.proofs.Common.{inl, inr, append_assoc, arith, if◌then◌else◌}
use Rattle.std.proofs.lemmas.Grind.{flat_map-append}
use Rattle.std.proofs.lemmas.List.{append-nil}
use Rattle.std.specs.Prelude.{⊤}
use Rattle.std.specs.List.{AllByRecursion, flat_map, list_any}
use Rattle.std.proofs.lemmas.Bool.{cases_Bool, eqb-true, or_parts}
use Rattle.syslog_csv.specs.Records.{is_mark, doubled, IsField, AreLaterFields, IsRecord, IsOnlyRecord}
use Rattle.syslog_csv.specs.Records.{AreRecords}
use Rattle.syslog_csv.specs.Records.{AddsFields, field_text, record_text}

-- what may follow a field: nothing, a comma or CR
abbrev Ends : List ℕ → Type 0
Ends [] = ⊤
Ends (byte ∷ rest) = (byte ≡ 44) ⊎ (byte ≡ 13)

-- what may follow a record: nothing, or CR
abbrev RecordEnds : List ℕ → Type 0
RecordEnds [] = ⊤
RecordEnds (byte ∷ rest) = byte ≡ 13

-- ---- a field is read in one way

-- what a field between quotes says after its first quote, and what follows it; `closed` is whether a quote came that
-- closes it, unless another follows
abbrev read_quoted : Bool → List ℕ → List ℕ × List ℕ
read_quoted closed [] = ([], [])
read_quoted false (byte ∷ bytes) = if byte == 34 then read_quoted true bytes
    else (byte ∷ (read_quoted false bytes).0, (read_quoted false bytes).1)
read_quoted true (byte ∷ bytes) = if byte == 34
    then (34 ∷ (read_quoted false bytes).0, (read_quoted false bytes).1) else ([], byte ∷ bytes)

-- the bytes up to a mark, and what follows them
abbrev read_plain : List ℕ → List ℕ × List ℕ
read_plain [] = ([], [])
read_plain (byte ∷ bytes) = if is_mark byte then ([], byte ∷ bytes)
    else (byte ∷ (read_plain bytes).0, (read_plain bytes).1)

abbrev read_field : List ℕ → List ℕ × List ℕ
read_field [] = ([], [])
read_field (byte ∷ bytes) = if byte == 34 then read_quoted false bytes else read_plain (byte ∷ bytes)

quoted_read : (v x : List ℕ) → Ends x → read_quoted false (doubled v ++ (34 ∷ x)) ≡ (v, x)
quoted_read [] [] ends = refl
quoted_read [] (byte ∷ x) (inl is) = rw is refl
quoted_read [] (byte ∷ x) (inr is) = rw is refl
quoted_read (p ∷ v) x ends = elim (cases_Bool (p == 34)) [
  | inl same ↦ rw (same, quoted_read v x ends, eqb-true p 34 same) refl
  | inr other ↦ rw (other, other, quoted_read v x ends) refl
]

plain_read : (v x : List ℕ) → list_any is_mark v ≡ false → Ends x → read_plain (v ++ x) ≡ (v, x)
plain_read [] [] plain ends = refl
plain_read [] (byte ∷ x) plain (inl is) = rw is refl
plain_read [] (byte ∷ x) plain (inr is) = rw is refl
plain_read (p ∷ v) x plain ends =
    let bare : is_mark p ≡ false = (or_parts _ _ plain).0 in
    let more : list_any is_mark v ≡ false = (or_parts _ _ plain).1 in
    rw (bare, plain_read v x more ends) refl

bare_read : (v x : List ℕ) → list_any is_mark v ≡ false → Ends x → read_field (v ++ x) ≡ (v, x)
bare_read [] [] plain ends = refl
bare_read [] (byte ∷ x) plain (inl is) = rw is refl
bare_read [] (byte ∷ x) plain (inr is) = rw is refl
bare_read (p ∷ v) x plain ends =
    let other : (p == 34) ≡ false = (or_parts _ _ (or_parts _ _ (or_parts _ _ (or_parts _ _ plain).0).0).0).0 in
    rw other (rw other at (plain_read (p ∷ v) x plain ends))

field_read : (a v x : List ℕ) → IsField a v → Ends x → read_field (a ++ x) ≡ (v, x)
field_read a v x (inl is) ends = rw (is, append_assoc (doubled v) (34 ∷ []) x) (quoted_read v x ends)
field_read a v x (inr (is, plain)) ends = ap (λ (t : List ℕ). read_field (t ++ x)) is ∙ bare_read v x plain ends

field_once : (a b x y v w : List ℕ) → IsField a v → IsField b w → Ends x → Ends y → a ++ x ≡ b ++ y → (v ≡ w) × (x ≡ y)
field_once a b x y v w is also ex ey e =
    let both = sym (field_read a v x is ex) ∙ ap read_field e ∙ field_read b w y also ey in
    (ap (λ (read : List ℕ × List ℕ). read.0) both, ap (λ (read : List ℕ × List ℕ). read.1) both)

-- ---- records

ends_of : (x : List ℕ) → RecordEnds x → Ends x
ends_of [] is = tt
ends_of (byte ∷ rest) is = inr is

later_ends : (fields : List (List ℕ)) (rest x : List ℕ) → AreLaterFields rest fields → RecordEnds x → Ends (rest ++ x)
later_ends [] rest x none ends = subst (λ (l : List ℕ). Ends (l ++ x)) (sym none) (ends_of x ends)
later_ends (f ∷ fields) rest x (first, more, e, field, later) ends =
    subst (λ (l : List ℕ). Ends (l ++ x)) (sym e) (inl refl)

comma_ends : (x t : List ℕ) → RecordEnds x → x ≡ 44 ∷ t → ⊥
comma_ends x t ends e = let byte : ℕ = 44 in let same : byte ≡ 13 = subst RecordEnds e ends in omega arith

later_once : (fs gs : List (List ℕ)) (a b x y : List ℕ) → AreLaterFields a fs → AreLaterFields b gs → RecordEnds x
    → RecordEnds y → a ++ x ≡ b ++ y → (fs ≡ gs) × (x ≡ y)
later_once [] [] a b x y none bare ex ey same = (refl, rw (none, bare) at same)
later_once [] (g ∷ gs) a b x y none (second, more, h, other, after) ex ey same =
    absurd (comma_ends x ((second ++ more) ++ y) ex (rw (none, h) at same))
later_once (f ∷ fs) [] a b x y (first, rest, e, one, later) none ex ey same =
    absurd (comma_ends y ((first ++ rest) ++ x) ey (sym (rw (e, none) at same)))
later_once (f ∷ fs) (g ∷ gs) a b x y (first, rest, e, one, later) (second, more, h, other, after) ex ey same =
    let whole : (first ++ rest) ++ x ≡ (second ++ more) ++ y = let is = rw (e, h) at same in cc in
    let both = field_once first second (rest ++ x) (more ++ y) f g one other (later_ends fs rest x later ex)
    (later_ends gs more y after ey) (sym (append_assoc first rest x) ∙ whole ∙ append_assoc second more y) in
    let others = later_once fs gs rest more x y later after ex ey both.1 in (cc (both.0, others.0), others.1)

-- a record after a comma is later fields
record_once : (fs gs : List (List ℕ)) (a b x y : List ℕ) → IsRecord a fs → IsRecord b gs → RecordEnds x → RecordEnds y
    → a ++ x ≡ b ++ y → (fs ≡ gs) × (x ≡ y)
record_once [] gs a b x y none is ex ey same = absurd none
record_once (f ∷ fs) [] a b x y is none ex ey same = absurd none
record_once (f ∷ fs) (g ∷ gs) a b x y (first, rest, e, one, later) (second, more, h, other, after) ex ey same =
    let comma : List ℕ → List ℕ = λ bytes. 44 ∷ bytes in
    later_once (f ∷ fs) (g ∷ gs) (44 ∷ a) (44 ∷ b) x y (first, rest, ap comma e, one, later)
    (second, more, ap comma h, other, after) ex ey (ap comma same)

no_record_end : (first rest : List ℕ) → [] ≡ first ++ (13 ∷ 10 ∷ rest) → ⊥
no_record_end [] rest e = absurd (cc e)
no_record_end (byte ∷ first) rest e = absurd (cc e)

pub divided_once : (text : List ℕ) (records others : List (List (List ℕ))) → AreRecords text records
    → AreRecords text others → others ≡ records
divided_once text [] [] none bare = refl
divided_once text [] (o ∷ others) none (second, left, f, also, later) = absurd
    (no_record_end second left (sym none ∙ f))
divided_once text (r ∷ records) [] (first, rest, e, is, more) none = absurd (no_record_end first rest (sym none ∙ e))
divided_once text (r ∷ records) (o ∷ others) (first, rest, e, is, more) (second, left, f, also, later) =
    let both = record_once o r second first (13 ∷ 10 ∷ left) (13 ∷ 10 ∷ rest) also is refl refl (sym f ∙ e) in
    let same : left ≡ rest = cc both.1 in
    let again = divided_once rest records others more (subst (λ (l : List ℕ). AreRecords l others) same later) in
    cc (both.0, again)

-- ---- what is written

written_field : (field : List ℕ) → IsField (field_text field) field
written_field field = elim (cases_Bool (list_any is_mark field)) [
  | inl marked ↦ inl (rw marked refl)
  | inr plain ↦ inr (rw plain refl, plain)
]

written_later : (fields : List (List ℕ)) → AreLaterFields (flat_map (λ later. 44 ∷ field_text later) fields) fields
written_later [] = refl
written_later (f ∷ fields) =
    (field_text f, flat_map (λ later. 44 ∷ field_text later) fields, refl, written_field f, written_later fields)

written_record : (f : List ℕ) (fields : List (List ℕ)) → IsRecord (record_text (f ∷ fields)) (f ∷ fields)
written_record f fields =
    (field_text f, flat_map (λ later. 44 ∷ field_text later) fields, refl, written_field f, written_later fields)

pub only_record : (f : List ℕ) (fields : List (List ℕ)) → IsOnlyRecord (record_text (f ∷ fields)) (f ∷ fields)
only_record f fields = (
  written_record f fields,
  λ others is. (record_once others (f ∷ fields) _ _ [] [] is (written_record f fields) tt tt refl).0,
)

pub read_back : (records : List (List (List ℕ))) → AllByRecursion (λ fields. fields ≢ []) records
    → AreRecords (flat_map (λ fields. record_text fields ++ (13 ∷ 10 ∷ [])) records) records
read_back [] all = refl
read_back ([] ∷ records) all = absurd (all.0 refl)
read_back ((f ∷ fields) ∷ records) all = (
  record_text (f ∷ fields),
  flat_map (λ fields. record_text fields ++ (13 ∷ 10 ∷ [])) records,
  append_assoc (record_text (f ∷ fields)) (13 ∷ 10 ∷ []) _,
  written_record f fields,
  read_back records all.1,
)

-- ---- fields that are added after others

pub adds_none : (old : List ℕ) → AddsFields old old []
adds_none old = record { added = sym (append-nil old) }

-- one, which is this field, and then more
pub adds_next : (old mid new shown field : List ℕ) (fields : List (List ℕ)) → shown ≡ field
    → AddsFields old mid (shown ∷ [])
    → AddsFields mid new fields → AddsFields old new (field ∷ fields)
adds_next old mid new shown field fields is first rest = record {
  added = rest.added ∙ ap (λ (l : List ℕ). l ++ flat_map (λ later. 44 ∷ field_text later) fields) first.added
      ∙ rw (is, append-nil (field_text field)) (append_assoc old (44 ∷ field_text field) _);
}

-- a record that was written in pieces
pub record_whole : (begun one two three : List ℕ) (first : List ℕ) (fields xs ys zs : List (List ℕ))
    → begun ≡ record_text (first ∷ fields) → AddsFields begun one xs → AddsFields one two ys → AddsFields two three zs
    → three ≡ record_text (first ∷ (fields ++ (xs ++ (ys ++ zs))))
record_whole begun one two three first fields xs ys zs is a b c =
    let g : List ℕ → List ℕ = λ later. 44 ∷ field_text later in
    c.added ∙ rw (
      b.added,
      a.added,
      is,
      flat_map-append g fields (xs ++ (ys ++ zs)),
      flat_map-append g xs (ys ++ zs),
      flat_map-append g ys zs,
    )
    (simp append_assoc)
