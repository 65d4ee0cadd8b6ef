-- serde_json reads the text of a value as its own form of the value.
use Rattle.syslog_json.proofs.Names.{◌≡◌, ℕ, [], List, Option, Some, refl, sym, ap, ◌∙◌, Json, IsTextOf}
use Rattle.std.proofs.Common.{option_map, option_and_then, arith, append-nil}
use Rattle.json.specs.Json.{null, boolean, number, string, array, object, Items, no_items, Members, no_members, member}
use Rattle.json.specs.Json.{item}
use Rattle.json.{proofs.Printed.Tokens.tokens-print, specs.Lex.tokens, specs.Tree.json_tokens}
use Rattle.json.proofs.Printed.Trees.{value-json_tokens, ArePrintable-json_tokens}
use Rattle.serde_json.specs.Read.{max_depth, number_of, of_items, of_json, of_members}
use Rattle.serde_json.proofs.Numbers.{number_of-decimal}
use Rattle.syslog_object.specs.Written.{HasSmallNumbers, ItemsHaveSmallNumbers, MembersHaveSmallNumbers}
use Rattle.syslog_object.proofs.WrittenLemmas.{numbers}
use Rattle.syslog_json.specs.Objects.{IsReadAs}
use Rattle.json.specs.Json as json
use Rattle.serde_json.specs.Data as serde

mutual
  made : (j : Json) → HasSmallNumbers j → (d : serde.Data) × (of_json j ≡ Some d)
  made null h = (serde.null, refl)
  made (boolean b) h = (serde.boolean b, refl)
  made (number s) (n, small, is) = (
    serde.number (serde.unsigned n),
    ap (option_map serde.number) (ap number_of is ∙ number_of-decimal n small),
  )
  made (string s) h = (serde.string s, refl)
  made (array js) h = let (ds, e) = items_made js h in (serde.array ds, ap (option_map serde.array) e)
  made (object ms) h =
      let (ds, e) = members_made ms serde.no_members h in (serde.object ds, ap (option_map serde.object) e)

  items_made : (js : Items) → ItemsHaveSmallNumbers js → (ds : serde.Items) × (of_items js ≡ Some ds)
  items_made no_items h = (serde.no_items, refl)
  items_made (item j js) h =
      let (d, first) = made j h.0 in
      let (ds, rest) = items_made js h.1 in (serde.item d ds, rw (first, rest) refl)

  members_made : (ms : Members) (before : serde.Members) → MembersHaveSmallNumbers ms
      → (ds : serde.Members) × (of_members ms before ≡ Some ds)
  members_made no_members before h = (before, refl)
  members_made (member k j ms) before h =
      let (d, first) = made j h.0 in
      let (ds, rest) = members_made ms (serde.put k d before) h.1 in (ds, rw first rest)

abbrev converted : Option json.Json → Option serde.Data
converted o = option_and_then of_json o

pub read_as : (value : Json) (bytes : List ℕ) → IsTextOf value bytes → IsReadAs value bytes
read_as value bytes text =
    let (d, e) = made value text.numbers in
    let same : tokens bytes ≡ json_tokens value =
    ap tokens text.compact ∙ tokens-print _ (ArePrintable-json_tokens value (numbers value text.numbers)) in
    record {
      text = text;
      own = d;
      made = e;
      read_back = ap (λ o. converted (option_and_then (λ p. json.if_last p.0 p.1) o))
          (ap (json.value max_depth) (same ∙ sym (append-nil _))
          ∙ value-json_tokens value max_depth [] (omega (arith, text.nesting))) ∙ e;
    }
