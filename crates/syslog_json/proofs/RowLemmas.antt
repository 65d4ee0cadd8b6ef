-- The row of an object that is marked.
use Rattle.syslog_json.proofs.Names.{◌≡◌, ℕ, [], List, Option, Some, inl, inr, refl, sym, ap, subst, ◌∙◌, Json}
use Rattle.std.proofs.Common.{◌++◌, ◌∷◌, ◌-◌, None, true, cond, codes, length, map, take, append_assoc, append-nil}
use Rattle.std.proofs.lemmas.Grind.{flat_map-append}
use Rattle.std.specs.List.{flat_map}
use Rattle.std.specs.Str.{bytes_eq}
use Rattle.json.specs.Find.{get, get_member, later_or}
use Rattle.json.specs.Json.{boolean, object, Members, no_members, member}
use Rattle.json.specs.Print.{print_from}
use Rattle.syslog_text.proofs.PieceLemmas.Class.{◌also◌}
use Rattle.syslog_object.specs.Gathered.{members_of}
use Rattle.syslog_object.specs.Object.{fields_of, present}
use Rattle.syslog_csv.proofs.CellLemmas.{absent, row_made}
use Rattle.syslog_csv.specs.Records.{field_text, record_text}
use Rattle.syslog_csv.specs.Rows.{IsRowOf, cell_of, cells_of, columns}
use Rattle.syslog_json.proofs.MarkLemmas.{IsPlain, cut_last, mark_key}
use Rattle.syslog_json.specs.Marked.{and_member, marked, marked_text}

-- the columns between the first one and the last one
abbrev inner : List (List ℕ)
inner =
    codes "version" ∷ codes "dialect" ∷ codes "facility" ∷ codes "facility_code" ∷ codes "severity"
    ∷ codes "severity_code" ∷ codes "timestamp" ∷ codes "hostname" ∷ codes "appname" ∷ codes "procid" ∷ codes "msgid"
    ∷ codes "structured_data" ∷ codes "unparsed_structured_data" ∷ codes "message" ∷ codes "raw" ∷ codes "refused" ∷ []

abbrev first_cell : Json → List ℕ
first_cell value = cell_of (get (codes "protocol") value)

abbrev inner_cells : Json → List (List ℕ)
inner_cells value = map (λ column. cell_of (get column value)) inner

-- what a key has of the mark
abbrev mark_at : List ℕ → Option Json
mark_at key = cond (bytes_eq mark_key key) (Some (boolean true)) None

later_none : (o : Option Json) → o ≡ later_or o None
later_none None = refl
later_none (Some value) = refl

later_twice : (a b c : Option Json) → later_or (later_or a b) c ≡ later_or a (later_or b c)
later_twice None b c = refl
later_twice (Some value) b c = refl

get_marked : (key : List ℕ) (ms : Members)
    → get_member key (and_member ms mark_key (boolean true)) ≡ later_or (mark_at key) (get_member key ms)
get_marked key no_members = later_none (mark_at key)
get_marked key (member k j ms) =
    ap (λ (o : Option Json). later_or o (cond (bytes_eq k key) (Some j) None)) (get_marked key ms)
    ∙ later_twice (mark_at key) (get_member key ms) (cond (bytes_eq k key) (Some j) None)

marked_cells : (keys : List (List ℕ)) (ms : Members)
    → map (λ key. cell_of (get key (marked (object ms)))) keys
    ≡ map (λ key. cell_of (later_or (mark_at key) (get_member key ms))) keys
marked_cells [] ms = refl
marked_cells (key ∷ keys) ms =
    ap (λ (o : Option Json). cell_of o ∷ map (λ key. cell_of (get key (marked (object ms)))) keys) (get_marked key ms)
    ∙ ap (λ (l : List (List ℕ)). cell_of (later_or (mark_at key) (get_member key ms)) ∷ l) (marked_cells keys ms)

-- the mark has the last cell
last_marked : (ms : Members)
    → cells_of (marked (object ms)) ≡ first_cell (object ms) ∷ (inner_cells (object ms) ++ codes "true" ∷ [])
unfolding print_from
last_marked ms = marked_cells columns ms

last_field : (first last : List ℕ) (fields : List (List ℕ))
    → record_text (first ∷ (fields ++ last ∷ [])) ≡ record_text (first ∷ fields) ++ (44 ∷ field_text last)
last_field first last fields =
    let later : List ℕ → List ℕ = λ field. 44 ∷ field_text field in
    ap (λ (l : List ℕ). field_text first ++ l) (flat_map-append later fields (last ∷ []))
    ∙ ap (λ (l : List ℕ). field_text first ++ (flat_map later fields ++ (44 ∷ l))) (append-nil (field_text last))
    ∙ sym (append_assoc (field_text first) (flat_map later fields) (44 ∷ field_text last))

row_marked : (ms : Members) (bytes : List ℕ) → get_member mark_key ms ≡ None → IsRowOf (object ms) bytes
    → IsRowOf (marked (object ms)) (marked_text true bytes)
row_marked ms bytes none row =
    let first = first_cell (object ms) in
    let fields = inner_cells (object ms) in
    let begun = record_text (first ∷ fields) in
    let old : bytes ≡ (begun ++ 44 ∷ []) ++ 13 ∷ [] =
    row.text ∙ ap (λ (l : List ℕ). l ++ 13 ∷ []) (last_field first (cell_of (get_member mark_key ms)) fields)
    ∙ ap (λ (o : Option Json). (begun ++ (44 ∷ field_text (cell_of o))) ++ 13 ∷ []) none in
    let new : marked_text true bytes ≡ record_text (cells_of (marked (object ms))) ++ 13 ∷ [] =
    ap (λ (l : List ℕ). take (length l - 1) l ++ codes "true\r") old
    ∙ ap (λ (l : List ℕ). l ++ codes "true\r") (cut_last (begun ++ 44 ∷ []) 13)
    ∙ append_assoc begun (44 ∷ []) (codes "true\r")
    ∙ sym (append_assoc begun (44 ∷ codes "true") (13 ∷ []))
    ∙ ap (λ (l : List ℕ). l ++ 13 ∷ []) (sym (last_field first (codes "true") fields))
    ∙ ap (λ (l : List (List ℕ)). record_text l ++ 13 ∷ []) (sym (last_marked ms)) in
    row_made (marked (object ms)) (cells_of (marked (object ms))) (marked_text true bytes) refl new

pub marked_row : (value : Json) (bytes : List ℕ) → IsPlain value → IsRowOf value bytes
    → IsRowOf (marked value) (marked_text true bytes)
marked_row value bytes (inl (m, beside, is)) row =
    let fields = fields_of m beside in
    let none : get_member mark_key (members_of (present fields)) ≡ None = absent mark_key fields
    (refl also refl also refl also refl also refl also refl also refl also refl also refl also refl also refl also refl
    also refl also refl also refl also refl also tt) in
    subst (λ (v : Json). IsRowOf (marked v) (marked_text true bytes)) (sym is)
    (row_marked (members_of (present fields)) bytes none (subst (λ (v : Json). IsRowOf v bytes) is row))
marked_row value bytes (inr (line, is)) row =
    subst (λ (v : Json). IsRowOf (marked v) (marked_text true bytes)) (sym is)
    (row_marked _ bytes refl (subst (λ (v : Json). IsRowOf v bytes) is row))
