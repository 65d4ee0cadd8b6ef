-- What an object has at its keys.
use Rattle.std.proofs.Common.{◌≡◌, ◌∙◌, inl, inr, ℕ, Bool, true, false, List, [], ◌∷◌, Option, Some, None}
use Rattle.std.proofs.Common.{refl, sym, ap, map, not, cond, ◌||◌, bytes_eq}
use Rattle.std.proofs.lemmas.Bool.{cases_Bool, true≢false}
use Rattle.std.proofs.lemmas.Slice.Eq.{bytes_eq-Decides}
use Rattle.std.specs.List.{AllZip, filter, flat_map, list_any}
use Rattle.std.specs.Option.{option_map}
use Rattle.std.specs.Prelude.{codes}
use Rattle.json.specs.Find.{get, get_member, later_or}
use Rattle.json.specs.Json.{Json, string}
use Rattle.syslog_text.specs.Pieces.Class.{Text}
use Rattle.syslog_elements.specs.StructuredData.Element.{ElementValue}
use Rattle.syslog_elements.specs.StructuredData.Escapes.{IsUnescaped, unit_meaning}
use Rattle.syslog_elements.proofs.StructuredDataLemmas.Units.{split_there}
use Rattle.syslog_object.specs.Gathered.{first_keys, gathered, members_of, one_or_all, values_at}
use Rattle.syslog_object.specs.Object.{Field, element_pair, object_of, param_pair, structured_json, text_json}
use Rattle.syslog_object.specs.Object.{Beside, fields_of, message_json, number_json, protocol_text, timestamp_json}
use Rattle.syslog_object.specs.Object.{version_json}
use Rattle.syslog_pieces.specs.Pri.{facility_number, severity_number}
use Rattle.syslog_pieces.specs.ProcId.{procid_text}
use Rattle.syslog_loose.specs.Message.{MessageValue}
use Rattle.syslog_object.proofs.UnescapedLemmas.{bytes_unescaped}
use Rattle.syslog_kept.specs.Elements.{HasAll, HasElements, IsElementMember, IsParamMember, one_or_array}

-- ---- fields

-- the last value of the key
abbrev pub at_key : List ℕ → List Field → Option Json
at_key key [] = None
at_key key (f ∷ fs) = later_or (at_key key fs) (cond (bytes_eq f.0 key) f.1 None)

pub none_earlier : (o : Option Json) → later_or o None ≡ o
none_earlier None = refl
none_earlier (Some v) = refl

no_value : (b : Bool) → ◌≡◌ {A = Option Json} (cond b None None) None
no_value true = refl
no_value false = refl

pub field_at : (key : List ℕ) (fs : List Field) → get key (object_of fs) ≡ at_key key fs
field_at key [] = refl
field_at key ((k, None) ∷ fs) =
    field_at key fs ∙ sym (ap (later_or (at_key key fs)) (no_value (bytes_eq k key)) ∙ none_earlier (at_key key fs))
field_at key ((k, Some v) ∷ fs) = ap (λ (o : Option Json). later_or o (cond (bytes_eq k key) (Some v) None))
    (field_at key fs)

-- ---- the fields of a message
module _ (m : MessageValue) (b : Beside) where
  pub protocol_at : get (codes "protocol") (message_json m b) ≡ Some (string (protocol_text m.protocol))
  protocol_at = field_at (codes "protocol") (fields_of m b)

  pub version_at : get (codes "version") (message_json m b) ≡ version_json m.protocol
  version_at = field_at (codes "version") (fields_of m b) ∙ simp none_earlier refl

  pub dialect_at : get (codes "dialect") (message_json m b) ≡ option_map text_json b.dialect
  dialect_at = field_at (codes "dialect") (fields_of m b) ∙ simp none_earlier refl

  pub facility_at : get (codes "facility_code") (message_json m b)
      ≡ option_map (λ f. number_json (facility_number f)) m.facility
  facility_at = field_at (codes "facility_code") (fields_of m b) ∙ simp none_earlier refl

  pub severity_at : get (codes "severity_code") (message_json m b)
      ≡ option_map (λ s. number_json (severity_number s)) m.severity
  severity_at = field_at (codes "severity_code") (fields_of m b) ∙ simp none_earlier refl

  pub timestamp_at : get (codes "timestamp") (message_json m b) ≡ option_map timestamp_json m.timestamp
  timestamp_at = field_at (codes "timestamp") (fields_of m b) ∙ simp none_earlier refl

  pub hostname_at : get (codes "hostname") (message_json m b) ≡ option_map text_json m.hostname
  hostname_at = field_at (codes "hostname") (fields_of m b) ∙ simp none_earlier refl

  pub appname_at : get (codes "appname") (message_json m b) ≡ option_map text_json m.appname
  appname_at = field_at (codes "appname") (fields_of m b) ∙ simp none_earlier refl

  pub procid_at : get (codes "procid") (message_json m b) ≡ option_map (λ p. text_json (procid_text p)) m.procid
  procid_at = field_at (codes "procid") (fields_of m b) ∙ simp none_earlier refl

  pub msgid_at : get (codes "msgid") (message_json m b) ≡ option_map text_json m.msgid
  msgid_at = field_at (codes "msgid") (fields_of m b) ∙ simp none_earlier refl

  pub elements_at : get (codes "structured_data") (message_json m b) ≡ structured_json m.structured_data
  elements_at = field_at (codes "structured_data") (fields_of m b) ∙ simp none_earlier refl

  pub unparsed_at : get (codes "unparsed_structured_data") (message_json m b) ≡ option_map text_json b.unparsed
  unparsed_at = field_at (codes "unparsed_structured_data") (fields_of m b) ∙ simp none_earlier refl

  pub message_at : get (codes "message") (message_json m b) ≡ Some (text_json m.msg)
  message_at = field_at (codes "message") (fields_of m b)

-- ---- keys that may come again

flipped : (k l : List ℕ) → bytes_eq k l ≡ bytes_eq l k
flipped k l = elim (cases_Bool (bytes_eq l k)) [
  | inl same ↦ (bytes_eq-Decides k l).1 (sym ((bytes_eq-Decides l k).0 same)) ∙ sym same
  | inr other ↦ elim (cases_Bool (bytes_eq k l)) [
    | inl same ↦ absurd (true≢false (sym ((bytes_eq-Decides l k).1 (sym ((bytes_eq-Decides k l).0 same))) ∙ other))
    | inr also ↦ also ∙ sym other
  ]
]

-- whether the key is among these
abbrev is_among : List ℕ → List (List ℕ) → Bool
is_among key ks = list_any (λ k. bytes_eq k key) ks

either_some : (b : Bool) (v : Json) → later_or (cond b (Some v) None) (Some v) ≡ Some v
either_some true v = refl
either_some false v = refl

keyed : (f : List ℕ → Json) (key : List ℕ) (ks : List (List ℕ))
    → get_member key (members_of (map (λ k. (k, f k)) ks)) ≡ cond (is_among key ks) (Some (f key)) None
keyed f key [] = refl
keyed f key (k ∷ ks) = elim (cases_Bool (bytes_eq k key)) [
  | inl same ↦ let is : k ≡ key = (bytes_eq-Decides k key).0 same in
      rw (keyed f key ks, same)
      (ap (λ (x : List ℕ). later_or (cond (is_among key ks) (Some (f key)) None) (Some (f x))) is
      ∙ either_some (is_among key ks) (f key))
  | inr other ↦ rw (keyed f key ks, other) (none_earlier (cond (is_among key ks) (Some (f key)) None))
]

-- a key stays where others are left out
others_left : (key k : List ℕ) (ks : List (List ℕ)) → bytes_eq k key ≡ false
    → is_among key (filter (λ l. not (bytes_eq k l)) ks) ≡ is_among key ks
others_left key k [] other = refl
others_left key k (l ∷ ks) other = elim (cases_Bool (bytes_eq k l)) [
  | inl same ↦
      let is : l ≡ k = sym ((bytes_eq-Decides k l).0 same) in
      let apart : bytes_eq l key ≡ false = ap (λ (x : List ℕ). bytes_eq x key) is ∙ other in
      rw (same, apart) (others_left key k ks other)
  | inr apart ↦ rw apart (ap (λ (b : Bool). bytes_eq l key || b) (others_left key k ks other))
]

abbrev Pair : Type 0
Pair = List ℕ × Json

keys_among : (key : List ℕ) (ps : List Pair) → is_among key (first_keys ps) ≡ list_any (λ p. bytes_eq p.0 key) ps
keys_among key [] = refl
keys_among key (p ∷ ps) = elim (cases_Bool (bytes_eq p.0 key)) [
  | inl same ↦ rw same refl
  | inr other ↦ rw other (others_left key p.0 (first_keys ps) other ∙ keys_among key ps)
]

is_some : List Json → Bool
is_some [] = false
is_some (v ∷ vs) = true

some_there : (key : List ℕ) (ps : List Pair) → is_some (values_at key ps) ≡ list_any (λ p. bytes_eq p.0 key) ps
unfolding is_some
some_there key [] = refl
some_there key (p ∷ ps) = elim (cases_Bool (bytes_eq p.0 key)) [
  | inl same ↦ rw (flipped key p.0, same) refl
  | inr other ↦ rw (flipped key p.0, other) (some_there key ps)
]

one_of_all : (vs : List Json) → cond (is_some vs) (Some (one_or_all vs)) None ≡ one_or_array vs
unfolding is_some
one_of_all [] = refl
one_of_all (v ∷ []) = refl
one_of_all (v ∷ w ∷ vs) = refl

pub gathered_has : (ps : List Pair) → HasAll (gathered ps) ps
gathered_has ps key =
    keyed (λ k. one_or_all (values_at k ps)) key (first_keys ps)
    ∙ ap (λ (b : Bool). cond b (Some (one_or_all (values_at key ps))) None) (keys_among key ps
    ∙ sym (some_there key ps))
    ∙ one_of_all (values_at key ps)

-- ---- elements

param_member : (p : Text × Text) → IsParamMember p (param_pair p)
param_member p =
    let (units, lone, split) = split_there p.1 in
    let bare : Text = flat_map unit_meaning units in
    let is : IsUnescaped p.1 bare = record { units = units; lone = lone; split = split; means = refl } in
    (refl, (bare, is, ap string (bytes_unescaped p.1 bare is)))

param_members : (ps : List (Text × Text)) → AllZip IsParamMember ps (map param_pair ps)
param_members [] = tt
param_members (p ∷ ps) = (param_member p, param_members ps)

element_members : (es : List ElementValue) → AllZip IsElementMember es (map element_pair es)
element_members [] = tt
element_members (e ∷ es) =
    let members = map param_pair e.params in
    let here : IsElementMember e (element_pair e) = (refl, (members, param_members e.params, gathered_has members)) in
    (here, element_members es)

pub elements_there : (o : Json) (es : List ElementValue) → get (codes "structured_data") o ≡ structured_json es
    → HasElements o es
elements_there o [] is = is
elements_there o (e ∷ es) is = (
  gathered (map element_pair (e ∷ es)),
  map element_pair (e ∷ es),
  is,
  element_members (e ∷ es),
  gathered_has (map element_pair (e ∷ es)),
)
