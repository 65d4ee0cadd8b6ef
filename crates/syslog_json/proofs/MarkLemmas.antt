-- The text of an object that is marked.
use Rattle.syslog_json.proofs.Names.{◌≡◌, ℕ, [], List, refl, sym, ap, subst, ◌∙◌, Json, IsTextOf}
use Rattle.std.proofs.Common.{◌⊎◌, ◌++◌, ◌∷◌, ◌≤◌, ◌-◌, false, true, append_assoc, arith, codes, length, take}
use Rattle.std.proofs.lemmas.List.{length-append, take_at}
use Rattle.std.proofs.lemmas.List.Elements.{All-from_recursion}
use Rattle.json.specs.Json.{boolean, object, document, Members, no_members, member}
use Rattle.json.specs.Print.{escape_byte, quoted}
use Rattle.json.specs.Tree.{depth, members_depth}
use Rattle.json.proofs.Printed.Trees.{document-print}
use Rattle.syslog_loose.specs.Message.{MessageValue}
use Rattle.syslog_object.specs.Object.{Beside, message_json, refused_json}
use Rattle.syslog_object.specs.Parts.{compact_text, members_text}
use Rattle.syslog_object.specs.Written.{HasSmallNumbers, MembersHaveSmallNumbers}
use Rattle.syslog_object.proofs.WrittenLemmas.{numbers, printable, printed}
use Rattle.syslog_json.proofs.ReadLemmas.{read_as}
use Rattle.syslog_json.specs.Marked.{HasMember, and_member, marked, marked_text}
use Rattle.syslog_json.specs.Objects.{IsReadAs}

abbrev pub mark_key : List ℕ
mark_key = codes "invalid_utf8"

-- the value of a message, or of a line that is none, which is not marked
abbrev pub IsPlain : Json → Type 0
IsPlain value = ((m : MessageValue) × (beside : Beside) × (value ≡ message_json m beside))
    ⊎ ((line : List ℕ) × (value ≡ refused_json line))

-- members after the first one, without the brace
abbrev open_members : Members → List ℕ
open_members no_members = []
open_members (member k j ms) = 44 ∷ (quoted k ++ 58 ∷ (compact_text j ++ open_members ms))

regroup : (q t o e : List ℕ) → 44 ∷ (q ++ 58 ∷ (t ++ (o ++ e))) ≡ (44 ∷ (q ++ 58 ∷ (t ++ o))) ++ e
regroup q t o e = simp append_assoc

closed : (ms : Members) → members_text true ms ≡ open_members ms ++ 125 ∷ []
closed no_members = refl
closed (member k j ms) = ap (λ (l : List ℕ). 44 ∷ (quoted k ++ 58 ∷ (compact_text j ++ l))) (closed ms)
    ∙ regroup (quoted k) (compact_text j) (open_members ms) (125 ∷ [])

added : (ms : Members) → members_text true (and_member ms mark_key (boolean true))
    ≡ open_members ms ++ members_text true (member mark_key (boolean true) no_members)
added no_members = refl
added (member k j ms) = ap (λ (l : List ℕ). 44 ∷ (quoted k ++ 58 ∷ (compact_text j ++ l))) (added ms)
    ∙ regroup (quoted k) (compact_text j) (open_members ms)
    (members_text true (member mark_key (boolean true) no_members))

mark_text : members_text true (member mark_key (boolean true) no_members) ≡ codes ",\"invalid_utf8\":true}"
unfolding escape_byte
mark_text = refl

-- the text before the members that follow the first one
front_of : (q t o e : List ℕ) → 123 ∷ (q ++ 58 ∷ (t ++ (o ++ e))) ≡ (123 ∷ (q ++ 58 ∷ (t ++ o))) ++ e
front_of q t o e = simp append_assoc

pub cut_last : (front : List ℕ) (last : ℕ) → take (length (front ++ last ∷ []) - 1) (front ++ last ∷ []) ≡ front
cut_last front last = take_at front (last ∷ []) _ (omega (arith, length-append front (last ∷ [])))

marked_object : (k : List ℕ) (j : Json) (ms : Members)
    → compact_text (marked (object (member k j ms))) ≡ marked_text false (compact_text (object (member k j ms)))
marked_object k j ms =
    let front = 123 ∷ (quoted k ++ 58 ∷ (compact_text j ++ open_members ms)) in
    let old : compact_text (object (member k j ms)) ≡ front ++ 125 ∷ [] =
    ap (λ (l : List ℕ). 123 ∷ (quoted k ++ 58 ∷ (compact_text j ++ l))) (closed ms)
    ∙ front_of (quoted k) (compact_text j) (open_members ms) (125 ∷ []) in
    let new : compact_text (marked (object (member k j ms))) ≡ front ++ codes ",\"invalid_utf8\":true}" =
    ap (λ (l : List ℕ). 123 ∷ (quoted k ++ 58 ∷ (compact_text j ++ l))) (added ms)
    ∙ front_of (quoted k) (compact_text j) (open_members ms)
    (members_text true (member mark_key (boolean true) no_members))
    ∙ ap (λ (l : List ℕ). front ++ l) mark_text in
    new ∙ ap (λ (l : List ℕ). l ++ codes ",\"invalid_utf8\":true}")
    (sym (ap (λ (l : List ℕ). take (length l - 1) l) old ∙ cut_last front 125))

-- ---- the value that is marked

small_members : (ms : Members) → MembersHaveSmallNumbers ms
    → MembersHaveSmallNumbers (and_member ms mark_key (boolean true))
small_members no_members small = (tt, tt)
small_members (member k j ms) small = (small.0, small_members ms small.1)

flat_members : (ms : Members) → members_depth (and_member ms mark_key (boolean true)) ≡ members_depth ms
flat_members no_members = omega arith
flat_members (member k j ms) = omega (arith, flat_members ms)

text_of_small : (value : Json) → HasSmallNumbers value → depth value ≤ 5 → IsTextOf value (compact_text value)
text_of_small value small shallow = record {
  read_back = ap document (printed value) ∙ document-print value (numbers value small) (omega (arith, shallow));
  compact = printed value;
  printable = All-from_recursion (λ byte. 32 ≤ byte) _ (printable value small);
  numbers = small;
  nesting = shallow;
}

marked_members : (k : List ℕ) (j : Json) (ms : Members) (bytes : List ℕ) → IsTextOf (object (member k j ms)) bytes
    → IsTextOf (marked (object (member k j ms))) (marked_text false bytes)
marked_members k j ms bytes text =
    let value = object (member k j ms) in
    let same : bytes ≡ compact_text value = text.compact ∙ sym (printed value) in
    subst (IsTextOf (marked value)) (marked_object k j ms ∙ ap (marked_text false) (sym same))
    (text_of_small (marked value) (small_members (member k j ms) text.numbers)
    (omega (arith, text.nesting, flat_members (member k j ms))))

pub marked_read : (value : Json) (bytes : List ℕ) → HasMember value → IsReadAs value bytes
    → IsReadAs (marked value) (marked_text false bytes)
marked_read value bytes (k, j, ms, is) read =
    read_as (marked value) (marked_text false bytes)
    (subst (λ (v : Json). IsTextOf (marked v) (marked_text false bytes)) (sym is)
    (marked_members k j ms bytes (subst (λ (v : Json). IsTextOf v bytes) is read.text)))
