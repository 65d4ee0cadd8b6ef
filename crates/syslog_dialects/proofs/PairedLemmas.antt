-- Check Point's element: a message is opened in one way, and keeps all but its message part.
use Rattle.syslog_dialects.proofs.Names.{[], ◌++◌, ◌also◌, ◌then◌, ◌∙◌, ◌∷◌, ◌≡◌, ◌≢◌, AllDeterministic, ap, Bor}
use Rattle.syslog_dialects.proofs.Names.{Dating, Dialect, division_front, ElementValue, Front, front_same, inl, inr}
use Rattle.syslog_dialects.proofs.Names.{is_blank, is_some, IsLeftUnparsed, IsLineOf, IsOpened, IsSome, leaves_of}
use Rattle.syslog_dialects.proofs.Names.{leaves_same, Line, line_value, List, list_elements, list_text, MatchBool}
use Rattle.syslog_dialects.proofs.Names.{MessageValue, names_row, NamesPairs, no_front_no, NoFront, None, opened_row}
use Rattle.syslog_dialects.proofs.Names.{Option, paired, protocol_of, refl, rest, rest_det, Row, row_det, row_head}
use Rattle.syslog_dialects.proofs.Names.{row_of, rows_none_here, run, seen, shown, Some, subst, sym, Text, true}
use Rattle.syslog_dialects.proofs.Names.{unique_division, unparsed_same, Values, Variant, ℕ}
use Rattle.syslog_text.specs.Pieces.View.{Reads}
use Rattle.syslog_text.proofs.PieceLemmas.Class.{row_none_here, rows_join, rows_none_later, run_det}
use Rattle.std.specs.Option.{is_none}
use Rattle.syslog_elements.specs.StructuredData.Unparsed.{if_any}
use Rattle.syslog_elements.specs.declared.structured_data.recognised.ElementList.{ElementList}
use Rattle.syslog_elements.proofs.StructuredDataLemmas.Pairs.{paired_det}
use Rattle.syslog_elements.proofs.StructuredDataLemmas.Unparsed.{any_none}
use Rattle.syslog_loose.specs.LineTexts.{IsLine5424}
use Rattle.syslog_loose.specs.declared.message.Protocol.TheVariants.{RFC3164}
use Rattle.syslog_loose.specs.Rows.{front_row}
use Rattle.syslog_loose.proofs.Rfc5424Lemmas.{front_det}
use Rattle.syslog_sent.proofs.FormLemmas.{of_forms}
use Rattle.syslog_dialects.specs.Paired.{IsPaired, Opens, with_list}

-- ---- one way

pub opened_det : AllDeterministic opened_row
opened_det = paired_det also run_det is_blank also rest_det also tt

pub names_det : AllDeterministic names_row
names_det = search of_forms depth 24

opened_front : {whole m : MessageValue} → Opens whole m → NoFront paired whole.msg → ⊥
opened_front it none =
    let (u, first, more) = row_head paired (run is_blank ∷ rest ∷ []) (division_front opened_row it.division) in
    no_front_no paired none first

opens_once : (whole m n : MessageValue) → Opens whole m → Opens whole n → n ≡ m
opens_once whole m n is too =
    let same = unique_division opened_row opened_det too.division is.division in
    too.same ∙ ap (λ (vs : Values opened_row). with_list whole vs.0 vs.1.1.0) same.1 ∙ sym is.same

pub opened_once : (dialect : Dialect) (whole m n : MessageValue) → IsOpened dialect whole m → IsOpened dialect whole n
    → n ≡ m
opened_once dialect whole m n (inl is) (inl too) = opens_once whole m n is.1 too.1
opened_once dialect whole m n (inl is) (inr too) = absurd (opened_front is.1 (too.0 is.0))
opened_once dialect whole m n (inr is) (inl too) = absurd (opened_front too.1 (is.0 too.0))
opened_once dialect whole m n (inr is) (inr too) = too.1 ∙ sym is.1

-- ---- what stays

pub opened_keeps : {A : Type 0} (part : MessageValue → A) → ((m : MessageValue) (es : List ElementValue) (msg : Text)
    → part (with_list m es msg) ≡ part m) → (dialect : Dialect) (whole m : MessageValue) → IsOpened dialect whole m
    → part m ≡ part whole
opened_keeps part keeps dialect whole m (inl (is, it)) = ap part it.same ∙ keeps whole it.elements it.msg
opened_keeps part keeps dialect whole m (inr (never, same)) = ap part same

-- ---- lines of the port

pub no_list : {A : Type 0} (es : List A) → (es ≢ [] → ⊥) → es ≡ []
no_list [] none = refl
no_list (e ∷ es) none = absurd (none (λ same. cc))

no_version : (v : Option ℕ) → protocol_of v ≡ RFC3164 → IsSome v → ⊥
no_version None e is = let none = is in cc
no_version (Some n) e is = let same = e in cc

-- a line with a version is one of RFC 5424
strict_line : (variant : Variant) (dating : Dating) (text : Text) (line : Line) → IsLineOf variant dating text line
    → IsSome line.version → IsLine5424 text line
strict_line variant dating text line of is = elim of.shows [
  | inl strict ↦ strict
  | inr loose ↦
      absurd (no_version line.version (ap (λ (m : MessageValue). m.protocol) loose.read.means.2) is)
]

module _ (variant : Variant) (dating : Dating) (text : Text) (line other : Line)
    (of : IsLineOf variant dating text line)
    (too : IsLineOf variant dating text other) (same : line_value line ≡ line_value other) where
  rests : IsSome line.version → IsSome other.version → shown line.rest ≡ shown other.rest
  rests is is_too =
      (front_same (Row front_row) (row_det front_row front_det) (strict_line variant dating text line of is).front
      (strict_line variant dating text other too is_too).front).0

  pub paired_too : IsSome line.version → IsSome other.version → IsPaired other → IsPaired line
  paired_too is is_too ((unparsed, left, some), (none, names)) = (
    (
      _,
      line.list.left,
      λ nothing. some (leaves_same variant text unparsed _
          (leaves_of variant dating text other unparsed too left) (leaves_of variant dating text line _ of
          line.list.left)
          ∙ nothing),
    ),
    (ap (λ (m : MessageValue). m.structured_data) same ∙ none, subst NamesPairs (sym (rests is is_too)) names),
  )

-- ---- what the readers return

pub no_names : {t : Text} → NoFront (Row names_row) t → NamesPairs t → ⊥
no_names none (more, vs, f) =
    no_front_no (Row (names_row ++ (paired ∷ []))) (rows_none_here names_row (paired ∷ []) none) f

pub names_told : {t after : Text} {vs : Values names_row} → Front (Row names_row) t after vs
    → (r : Option (ElementList × Bor (List ℕ))) → Reads paired (λ l. list_elements l) after r
    → MatchBool (is_some r) (NamesPairs t) (NamesPairs t → ⊥)
names_told f None none = λ (more, vs, g). no_front_no (Row (names_row ++ (paired ∷ [])))
    (rows_none_later names_row (paired ∷ []) names_det f (row_none_here paired [] none)) g
names_told f (Some x) g = (shown x.1, _, rows_join names_row (paired ∷ []) f (row_of (paired ∷ []) (g then refl)))

-- nothing is left unparsed
pub nothing_paired : (line : Line) (r : Option (Bor (List ℕ))) → is_none r ≡ true
    → (u : Text) × IsLeftUnparsed line u × (seen r ≡ if_any u) → IsPaired line → ⊥
nothing_paired line None none (u, left, same) ((w, other, some), pairs) =
    some (unparsed_same (list_text line.list) w u other left ∙ any_none u same)
nothing_paired line (Some b) none is paired = cc
