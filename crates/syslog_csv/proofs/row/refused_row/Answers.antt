use Rattle.std.proofs.Common.{◌∙◌, ◌≡◌, ◌++◌, ◌∷◌, [], ℕ, List, ap, append_assoc, codes, sym}
use Rattle.syslog_object.specs.Object.{refused_json}
use Rattle.syslog_csv.proofs.CellLemmas.{cells_of_refused, row_made}
use Rattle.syslog_csv.specs.Records.{field_text, record_text}
use Rattle.syslog_csv.proofs.row.refused_row.Goals as goal

-- the cells, by that of the message
abbrev with_message : List ℕ → List (List ℕ)
with_message line =
    [] ∷ [] ∷ [] ∷ [] ∷ [] ∷ [] ∷ [] ∷ [] ∷ [] ∷ [] ∷ [] ∷ [] ∷ [] ∷ [] ∷ line ∷ [] ∷ codes "true" ∷ [] ∷ []

joined : (empty commas mid new shown line : List ℕ) → empty ≡ [] → commas ≡ empty ++ codes ",,,,,,,,,,,,,,"
    → shown ≡ line
    → mid ≡ commas ++ field_text shown → new ≡ mid ++ codes ",,true,\r"
    → new ≡ record_text (with_message line) ++ (13 ∷ [])
joined empty commas mid new shown line none first is second third =
    third ∙ rw (second, first, none, is)
    (ap (λ (l : List ℕ). codes ",,,,,,,,,,,,,," ++ l) (sym
    (append_assoc (field_text line) (codes ",,true,") (13 ∷ []))))

pub returns : goal.returns
returns c =
    row_made (refused_json c.args.line.now) _ _ (sym (cells_of_refused c.args.line.now))
    (joined _ _ _ _ _ c.args.line.now c.in_ok-row.ensures.items c.in_ok-extend_from_slice.ensures.items
    c.as_bytes.ensures.value c.in_ok-push_field.ensures c.in_ok-extend_from_slice-2.ensures.items)
