-- The text of a value is what `json` prints and reads back, with small numbers and no byte below 32.
use Rattle.syslog_object.proofs.Names.{append_assoc, nat_lt, ElementValue, MessageValue, compact_text, structured_json}
use Rattle.syslog_object.proofs.Names.{append-nil, cases_Bool, element_json, element_pair, message_json, version_json}
use Rattle.syslog_object.proofs.Names.{bytes_eq, option_map, items_text, first_keys, one_or_all, values_at, param_pair}
use Rattle.syslog_object.proofs.Names.{Bool, false, subst, Option, string, quoted, escape, Protocol, items_of, gathered}
use Rattle.syslog_object.proofs.Names.{◌≡◌, true, List, [], ◌∷◌, ◌++◌, refl, ◌==◌, arith, Some, None, Json, Field}
use Rattle.syslog_object.proofs.Names.{ℕ, sym, ap, ◌∙◌, suc, ◌<◌, ◌≤◌, map, inl, inr}
use Rattle.std.proofs.Common.{zero, ◌/◌, ◌%◌, decimal}
use Rattle.std.proofs.{DigitsParse.digits_onto-nil, lemmas.Bool.cond_both, lemmas.Grind.common_steps}
use Rattle.std.specs.{Char.digit_char, List.AllByRecursion, Prelude.⊤}
use Rattle.std.{proofs.lemmas.List.Elements.All-from_recursion, specs.Fmt.digit_glyph, specs.Fmt.digits_onto}
use Rattle.json.specs.Json.{boolean, number, array, object, Items, no_items, Members, no_members, member, document}
use Rattle.json.specs.Json.{null, item}
use Rattle.json.specs.Print.{IsNumber, print, print_from, escape_byte, escape_letter}
use Rattle.json.{proofs.Printed.Decimals.IsNumber-decimal, proofs.Printed.Trees.document-print, specs.Token.Token}
use Rattle.json.specs.Tree.{HasNumbers, ItemsHaveNumbers, MembersHaveNumbers, json_tokens, items_tokens, members_tokens}
use Rattle.json.specs.Tree.{depth}
use Rattle.syslog_pieces.proofs.PriLemmas.{facility_low, severity_low}
use Rattle.syslog_loose.specs.declared.message.Protocol.TheVariants.{RFC3164, RFC5424}
use Rattle.syslog_object.specs.{Parts.comma_if, Parts.members_text, Parts.IsSmallVersion, Gathered.members_of}
use Rattle.syslog_object.specs.Written.{HasSmallNumbers, ItemsHaveSmallNumbers, MembersHaveSmallNumbers, IsTextOf}
use Rattle.syslog_text.proofs.PieceLemmas.Class.{all_append, ◌also◌}
use Rattle.syslog_object.specs.Object.{Beside, fields_of, present, refused_json}

-- ---- the numbers are numbers of JSON
mutual
  pub numbers : (j : Json) → HasSmallNumbers j → HasNumbers j
  numbers null h = tt
  numbers (boolean b) h = tt
  numbers (number s) (n, small, is) = subst IsNumber (sym is) (IsNumber-decimal n small)
  numbers (string s) h = tt
  numbers (array js) h = items_numbers js h
  numbers (object ms) h = members_numbers ms h

  items_numbers : (js : Items) → ItemsHaveSmallNumbers js → ItemsHaveNumbers js
  items_numbers no_items h = tt
  items_numbers (item j js) h = (numbers j h.0, items_numbers js h.1)

  members_numbers : (ms : Members) → MembersHaveSmallNumbers ms → MembersHaveNumbers ms
  members_numbers no_members h = tt
  members_numbers (member k j ms) h = (numbers j h.0, members_numbers ms h.1)

-- ---- what `json` prints

regroup_item : (q a b c : List ℕ) → q ++ (a ++ (b ++ c)) ≡ (q ++ (a ++ b)) ++ c
regroup_item q a b c = simp append_assoc

regroup_member : (q k a b c : List ℕ) → q ++ ((k ++ 58 ∷ []) ++ (a ++ (b ++ c))) ≡ (q ++ (k ++ 58 ∷ (a ++ b))) ++ c
regroup_member q k a b c = simp append_assoc

mutual
  unfolding print_from

  print_value : (later : Bool) (j : Json) (ts : List Token)
      → print_from later (json_tokens j ++ ts) ≡ comma_if later ++ (compact_text j ++ print_from true ts)
  print_value later null ts = refl
  print_value later (boolean b) ts = refl
  print_value later (number s) ts = refl
  print_value later (string s) ts = refl
  print_value later (array js) ts = ap (λ s. comma_if later ++ 91 ∷ s) (print_items false js ts)
  print_value later (object ms) ts = ap (λ s. comma_if later ++ 123 ∷ s) (print_members false ms ts)

  print_items : (later : Bool) (js : Items) (ts : List Token)
      → print_from later (items_tokens js ++ ts) ≡ items_text later js ++ print_from true ts
  print_items true no_items ts = refl
  print_items false no_items ts = refl
  print_items later (item j js) ts =
      let rest = items_tokens js in
      ap (print_from later) (append_assoc (json_tokens j) rest ts) ∙ print_value later j (rest ++ ts)
      ∙ ap (λ s. comma_if later ++ (compact_text j ++ s)) (print_items true js ts)
      ∙ regroup_item (comma_if later) (compact_text j) (items_text true js) (print_from true ts)

  print_members : (later : Bool) (ms : Members) (ts : List Token)
      → print_from later (members_tokens ms ++ ts) ≡ members_text later ms ++ print_from true ts
  print_members true no_members ts = refl
  print_members false no_members ts = refl
  print_members later (member k j ms) ts =
      let rest = members_tokens ms in
      ap (λ s. comma_if later ++ ((quoted k ++ 58 ∷ []) ++ s))
      (ap (print_from false) (append_assoc (json_tokens j) rest ts) ∙ print_value false j (rest ++ ts)
      ∙ ap (λ s. compact_text j ++ s) (print_members true ms ts))
      ∙ regroup_member (comma_if later) (quoted k) (compact_text j) (members_text true ms) (print_from true ts)

pub printed : (j : Json) → compact_text j ≡ print (json_tokens j)
unfolding print_from
printed j = sym (ap print (sym (append-nil (json_tokens j))) ∙ print_value false j [] ∙ append-nil (compact_text j))

-- ---- the text of a value has no byte below 32
abbrev pub Printable : List ℕ → Type 0
Printable bytes = AllByRecursion (λ byte. 32 ≤ byte) bytes

-- ---- strings

hex : (d : ℕ) → 32 ≤ digit_char d
hex d = cond_both (nat_lt d 10) _ _ (λ n. 32 ≤ n) (λ _. omega arith) (λ _. omega arith)

letter : (x : ℕ) → 0 < escape_letter x → 32 ≤ escape_letter x
letter x some = grind (arith, common_steps, some)

escaped_byte : (x : ℕ) → Printable (escape_byte x)
unfolding escape_byte
escaped_byte x = cond_both (nat_lt 0 (escape_letter x)) _ _ Printable
    (λ short. (omega arith, (letter x (grind (arith, short)), tt)))
    (λ _. cond_both (nat_lt x 32) _ _ Printable
    (λ _. omega (arith, hex (x / 16), hex (x % 16))) (λ high. (grind (arith, high), tt)))

escaped : (s : List ℕ) → Printable (escape s)
escaped [] = tt
escaped (x ∷ s) = all_append _ (escape_byte x) (escape s) (escaped_byte x) (escaped s)

in_quotes : (s : List ℕ) → Printable (quoted s)
in_quotes s = (omega arith, all_append _ (escape s) (34 ∷ []) (escaped s) (omega arith, tt))

-- ---- numbers

onto : (k n : ℕ) (acc : List ℕ) → Printable acc → Printable (digits_onto k 10 false n acc)
onto zero n acc h = h
onto (suc k) n acc h =
    let more : Printable (digit_glyph false (n % 10) ∷ acc) = (hex (n % 10), h) in
    cond_both (n / 10 == 0) _ _ Printable (λ _. more) (λ _. onto k (n / 10) _ more)

in_decimal : (n : ℕ) → Printable (decimal n)
in_decimal n = subst Printable (digits_onto-nil 10 false n) (onto 64 n [] tt)

-- ---- values

comma : (later : Bool) → Printable (comma_if later)
comma true = (omega arith, tt)
comma false = tt

mutual
  pub printable : (j : Json) → HasSmallNumbers j → Printable (compact_text j)
  printable null h = omega arith
  printable (boolean true) h = omega arith
  printable (boolean false) h = omega arith
  printable (number s) (n, small, is) = subst Printable (sym is) (in_decimal n)
  printable (string s) h = in_quotes s
  printable (array js) h = (omega arith, items false js h)
  printable (object ms) h = (omega arith, members false ms h)

  items : (later : Bool) (js : Items) → ItemsHaveSmallNumbers js → Printable (items_text later js)
  items later no_items h = (omega arith, tt)
  items later (item j js) h =
      all_append _ (comma_if later) _ (comma later)
      (all_append _ (compact_text j) _ (printable j h.0) (items true js h.1))

  members : (later : Bool) (ms : Members) → MembersHaveSmallNumbers ms → Printable (members_text later ms)
  members later no_members h = (omega arith, tt)
  members later (member k j ms) h =
      all_append _ (comma_if later) _ (comma later)
      (all_append _ (quoted k) _ (in_quotes k) (
        omega arith,
        all_append _ (compact_text j) _ (printable j h.0)
            (members true ms h.1),
      ))

-- ---- no value of a line has a large number or nests deep

-- the value has small numbers, and nests no deeper
abbrev pub IsFlat : ℕ → Json → Type 0
IsFlat n d = HasSmallNumbers d × (depth d ≤ n)

flat_object : (n : ℕ) (ps : List (List ℕ × Json)) → AllByRecursion (λ p. IsFlat n p.1) ps
    → IsFlat (suc n) (object (members_of ps))
flat_object n [] each = (tt, omega arith)
flat_object n (p ∷ ps) each =
    let rest = flat_object n ps each.1 in
    ((each.0.0, rest.0), omega (arith, each.0.1, rest.1))

flat_array : (n : ℕ) (ds : List Json) → AllByRecursion (IsFlat n) ds → IsFlat (suc n) (array (items_of ds))
flat_array n [] each = (tt, omega arith)
flat_array n (d ∷ ds) each =
    let rest = flat_array n ds each.1 in
    ((each.0.0, rest.0), omega (arith, each.0.1, rest.1))

flat_one_or_all : (n : ℕ) (ds : List Json) → AllByRecursion (IsFlat n) ds → IsFlat (suc n) (one_or_all ds)
flat_one_or_all n [] each = flat_array n [] each
flat_one_or_all n (d ∷ []) each = (each.0.0, omega (arith, each.0.1))
flat_one_or_all n (d ∷ e ∷ ds) each = flat_array n (d ∷ e ∷ ds) each

each_value : (P : Json → Type 0) (key : List ℕ) (ps : List (List ℕ × Json)) → AllByRecursion (λ p. P p.1) ps
    → AllByRecursion P (values_at key ps)
each_value P key [] each = tt
each_value P key (p ∷ ps) each =
    let rest = each_value P key ps each.1 in
    elim (cases_Bool (bytes_eq key p.0)) [ inl same ↦ rw same (each.0, rest) | inr other ↦ rw other rest ]

flat_keys : (n : ℕ) (ps : List (List ℕ × Json)) (ks : List (List ℕ)) → AllByRecursion (λ p. IsFlat n p.1) ps
    → AllByRecursion (λ (p : List ℕ × Json). IsFlat (suc n) p.1) (map (λ k. (k, one_or_all (values_at k ps))) ks)
flat_keys n ps [] each = tt
flat_keys n ps (k ∷ ks) each =
    (flat_one_or_all n (values_at k ps) (each_value (IsFlat n) k ps each), flat_keys n ps ks each)

flat_gathered : (n : ℕ) (ps : List (List ℕ × Json)) → AllByRecursion (λ p. IsFlat n p.1) ps
    → IsFlat (suc (suc n)) (gathered ps)
flat_gathered n ps each = flat_object (suc n) _ (flat_keys n ps (first_keys ps) each)

each_mapped : {X : Type 0} (P : List ℕ × Json → Type 0) (f : X → List ℕ × Json) → ((x : X) → P (f x))
    → (xs : List X) → AllByRecursion P (map f xs)
each_mapped P f each [] = tt
each_mapped P f each (x ∷ xs) = (each x, each_mapped P f each xs)

flat_element : (element : ElementValue) → IsFlat 2 (element_json element)
flat_element element = flat_gathered 0 _ (each_mapped (λ p. IsFlat 0 p.1) param_pair (λ p. (tt, omega arith))
    element.params)

-- the value, if any, has small numbers and nests no deeper
abbrev pub IsFlatField : Option Json → Type 0
IsFlatField None = ⊤
IsFlatField (Some value) = IsFlat 4 value

pub flat_structured : (elements : List ElementValue) → IsFlatField (structured_json elements)
flat_structured [] = tt
flat_structured (e ∷ es) = flat_gathered 2 (map element_pair (e ∷ es))
    (each_mapped (λ p. IsFlat 2 p.1) element_pair flat_element (e ∷ es))

flat_optional : {X : Type 0} (json : X → Json) → ((x : X) → IsFlat 4 (json x)) → (o : Option X)
    → IsFlatField (option_map json o)
flat_optional json flat None = tt
flat_optional json flat (Some x) = flat x

flat_version : (protocol : Protocol) → IsSmallVersion protocol → IsFlatField (version_json protocol)
flat_version RFC3164 small = tt
flat_version (RFC5424 version) small = ((version, small, refl), omega arith)

flat_fields : (fields : List Field) → AllByRecursion (λ f. IsFlatField f.1) fields
    → AllByRecursion (λ p. IsFlat 4 p.1) (present fields)
flat_fields [] each = tt
flat_fields ((key, None) ∷ fields) each = flat_fields fields each.1
flat_fields ((key, Some value) ∷ fields) each = (each.0, flat_fields fields each.1)

pub flat_message : (m : MessageValue) (b : Beside) → IsSmallVersion m.protocol → IsFlat 5 (message_json m b)
flat_message m b small = flat_object 4 (present (fields_of m b)) (flat_fields (fields_of m b) ((tt, omega arith) also
    flat_version m.protocol small also flat_optional _ (λ t. (tt, omega arith)) b.dialect also
    flat_optional _ (λ t. (tt, omega arith)) m.facility also
    flat_optional _ (λ f. ((_, omega (arith, facility_low f), refl), omega arith)) m.facility also
    flat_optional _ (λ t. (tt, omega arith)) m.severity also
    flat_optional _ (λ f. ((_, omega (arith, severity_low f), refl), omega arith)) m.severity also
    flat_optional _ (λ t. (tt, omega arith)) m.timestamp also flat_optional _ (λ t. (tt, omega arith)) m.hostname also
    flat_optional _ (λ t. (tt, omega arith)) m.appname also flat_optional _ (λ t. (tt, omega arith)) m.procid also
    flat_optional _ (λ t. (tt, omega arith)) m.msgid also flat_structured m.structured_data also
    flat_optional _ (λ t. (tt, omega arith)) b.unparsed also (tt, omega arith) also
    flat_optional _ (λ t. (tt, omega arith)) b.raw also tt))

-- ---- what was written is the text of its value
pub text_of_small : (j : Json) → HasSmallNumbers j → depth j ≤ 5 → IsTextOf j (compact_text j)
text_of_small j small shallow = record {
  read_back = ap document (printed j) ∙ document-print j (numbers j small) (omega (arith, shallow));
  compact = printed j;
  printable = All-from_recursion (λ byte. 32 ≤ byte) _ (printable j small);
  numbers = small;
  nesting = shallow;
}

pub text_of_message : (m : MessageValue) (b : Beside) → IsSmallVersion m.protocol
    → IsTextOf (message_json m b) (compact_text (message_json m b))
text_of_message m b small =
    let flat = flat_message m b small in text_of_small (message_json m b) flat.0 flat.1

pub text_of_refused : (line : List ℕ) → IsTextOf (refused_json line) (compact_text (refused_json line))
text_of_refused line = text_of_small (refused_json line) (tt, (tt, tt)) (omega arith)
