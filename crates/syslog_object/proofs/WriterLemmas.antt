-- The fields of an object, and the object of the elements that a writer was given.
use Rattle.syslog_object.proofs
use Rattle.syslog_object.specs
use proofs.Names.{encode_utf8_all, structured_json}
use proofs.Names.{append_assoc, ElementValue, MessageValue, element_pair, message_json, element_json, ◌≡◌}
use proofs.Names.{procid_text, back_fields, compact_text, AreDistinct, option_map, map-append, param_pair, object_text}
use proofs.Names.{field_text, front_text, text_field, bytes_eq, text_json, rest_text, IsNewKey, ◌∷◌}
use proofs.Names.{Option, List, length, Result, quoted, ◌++◌, Some, None, codes, false, arith, Field, ℕ}
use proofs.Names.{refl, cond, take, drop, OnOk, [], sym, ap, ◌∙◌, map, ◌+◌, ◌<◌, Ok, Err, Bor, Text, ◌==◌}
use Rattle.std.proofs.Common.{get_or, if◌then◌else◌, slice_set}
use Rattle.std.specs.Result.{is_ok}
use Rattle.std.{proofs.Math.Seq.drop-append_seam, proofs.lemmas.List.take_more_set, specs.Result.is_err}
use Rattle.std.proofs.{lemmas.Bool.ne_eqb, lemmas.List.length-map, Math.Seq.take-append_seam}
use Rattle.syslog_pieces.specs.declared.procid.ProcId.{ProcId}
use Rattle.json.specs.Print.{escape_byte}
use specs.{Elements.elements_text, Object.Beside, Object.fields_of, Object.protocol_text, Parts.open_text}
use specs.Places.{before_member}
use specs.{Writer.element_keys}
use proofs.GatherLemmas.{Param, differs_back, distinct_gathered, open_more, pairs_of, param_json}
use proofs.GatherLemmas.{param_key, param_seen, seen_text}

-- ---- the fields of an object, one after the other

-- each field, and the brace
abbrev fields_text : List Field → List ℕ
fields_text [] = 125 ∷ []
fields_text ((key, value) ∷ fields) = field_text key value ++ fields_text fields

each_field : (fields : List Field) → rest_text fields ≡ fields_text fields
each_field [] = refl
each_field ((key, None) ∷ fields) = each_field fields
each_field ((key, Some value) ∷ fields) = simp append_assoc (rw (each_field fields) refl)

-- a field with the bytes before its text
pub named : (key prefix : List ℕ) (text : Option Text) → prefix ≡ 44 ∷ (quoted key ++ 58 ∷ 34 ∷ [])
    → text_field prefix text ≡ field_text key (option_map text_json text)
named key prefix None is = refl
named key prefix (Some text) is = rw is (simp append_assoc)

process_field : (process : Option (ProcId Text))
    → option_map text_json (option_map procid_text process) ≡ option_map (λ p. text_json (procid_text p)) process
process_field None = refl
process_field (Some p) = refl

pub two_appended : (old a b x y z : List ℕ) → a ≡ old ++ x → b ≡ a ++ y → x ++ y ≡ z → b ≡ old ++ z
two_appended old a b x y z first second both = rw (second, first, ← both) (simp append_assoc)

-- nine pieces were written
pub nine_appended : (o a b c d e f g h i p q r s t u v w x : List ℕ) → a ≡ o ++ p → b ≡ a ++ q → c ≡ b ++ r → d ≡ c ++ s
    → e ≡ d ++ t → f ≡ e ++ u → g ≡ f ++ v → h ≡ g ++ w → i ≡ h ++ x
    → i ≡ o ++ ((((((((p ++ q) ++ r) ++ s) ++ t) ++ u) ++ v) ++ w) ++ x)
nine_appended o a b c d e f g h i p q r s t u v w x e0 e1 e2 e3 e4 e5 e6 e7 e8 =
    rw (e8, e7, e6, e5, e4, e3, e2, e1, e0) (simp append_assoc)

-- the fields after the elements were written, and the brace
pub back_written : (m : MessageValue) (unparsed raw : Option Text) (old a b c now : List ℕ)
    → a ≡ old ++ text_field (codes ",\"unparsed_structured_data\":\"") unparsed
    → b ≡ a ++ text_field (codes ",\"message\":\"") (Some m.msg) → c ≡ b ++ text_field (codes ",\"raw\":\"") raw
    → now ≡ c ++ 125 ∷ [] → now ≡ old ++ rest_text (back_fields m unparsed raw)
unfolding escape_byte
back_written m unparsed raw old a b c now e0 e1 e2 e3 =
    rw (
      e3,
      e2,
      e1,
      e0,
      named (codes "unparsed_structured_data") (codes ",\"unparsed_structured_data\":\"") unparsed refl,
      named (codes "raw") (codes ",\"raw\":\"") raw refl,
      each_field (back_fields m unparsed raw),
    ) (simp append_assoc)

regroup : (k q v d f g s t ts h a pr mi sd back : List ℕ)
    → ((((((((((k ++ (q ++ v)) ++ d) ++ (f ++ g)) ++ (s ++ t)) ++ ts) ++ h) ++ a) ++ pr) ++ mi) ++ sd) ++ back
    ≡ k ++ (q ++ (v ++ (d ++ (f ++ (g ++ (s ++ (t ++ (ts ++ (h ++ (a ++ (pr ++ (mi ++ (sd ++ back)))))))))))))
regroup k q v d f g s t ts h a pr mi sd back = simp append_assoc

-- the fields before the elements, those of the elements and those after them are the whole
pub message_whole : (m : MessageValue) (b : Beside)
    → (front_text m b.dialect ++ field_text (codes "structured_data") (structured_json m.structured_data))
    ++ rest_text (back_fields m b.unparsed b.raw) ≡ compact_text (message_json m b)
unfolding escape_byte
message_whole m b =
    let field = λ (i : ℕ). get_or (fields_of m b) i ([], None) in
    let t = λ (i : ℕ). field_text (field i).0 (field i).1 in
    rw (
      named (codes "dialect") (codes ",\"dialect\":\"") b.dialect refl,
      named (codes "hostname") (codes ",\"hostname\":\"") m.hostname refl,
      named (codes "appname") (codes ",\"appname\":\"") m.appname refl,
      named (codes "procid") (codes ",\"procid\":\"") (option_map procid_text m.procid) refl,
      named (codes "msgid") (codes ",\"msgid\":\"") m.msgid refl,
      process_field m.procid,
      each_field (drop 1 (fields_of m b)),
      each_field (back_fields m b.unparsed b.raw),
    ) (regroup (codes "{\"protocol\":") (quoted (protocol_text m.protocol)) (t 1) (t 2) (t 3) (t 4) (t 5) (t 6) (t 7)
    (t 8) (t 9) (t 10) (t 11) (t 12) (fields_text (back_fields m b.unparsed b.raw)))

-- ---- one element more

new_more : (k : List ℕ) (ks : List (List ℕ)) (l : List ℕ) → IsNewKey k ks → bytes_eq k l ≡ false
    → IsNewKey k (ks ++ l ∷ [])
new_more k [] l new differs = (differs, tt)
new_more k (j ∷ js) l new differs = (new.0, new_more k js l new.1 differs)

pub distinct_more : (ks : List (List ℕ)) (l : List ℕ) → AreDistinct ks → IsNewKey l ks → AreDistinct (ks ++ l ∷ [])
distinct_more [] l distinct new = (tt, tt)
distinct_more (k ∷ ks) l distinct new =
    (new_more k ks l distinct.0 (differs_back l k new.0), distinct_more ks l distinct.1 new.1)

pub not_err : {T E P : Type 0} (r : Result T E) → is_err r ≡ false → OnOk r P → P
not_err (Ok x) e h = h
not_err (Err x) e h = absurd cc

-- the object of parameters whose names each come once
params_text : (ps : List Param) (e : ElementValue) → map param_seen ps ≡ e.params → AreDistinct (map param_key ps)
    → object_text (pairs_of param_key param_json ps) ≡ compact_text (element_json e)
params_text ps e seen distinct =
    distinct_gathered param_key param_json ps distinct
    ∙ seen_text param_seen param_pair ps ps e.params refl seen

pub text_added : (es : List ElementValue) (e : ElementValue) (old now id : List ℕ) (count : ℕ) (ps : List Param)
    → old ≡ open_text (map element_pair es) → count ≡ length es → id ≡ encode_utf8_all e.id
    → map param_seen ps ≡ e.params
    → AreDistinct (map param_key ps)
    → now ≡ old ++ (before_member count ∷ (quoted id ++ 58 ∷ object_text (pairs_of param_key param_json ps)))
    → now ≡ open_text (map element_pair (es ++ e ∷ []))
text_added es e old now id count ps held counted same seen distinct is =
    let long = length-map es element_pair in
    rw (is, held, same, params_text ps e seen distinct, map-append element_pair es (e ∷ []))
    (sym (open_more (map element_pair es) (element_pair e) count (λ zero. omega arith) (λ zero. omega arith)))

keys_more : (es : List ElementValue) (e : ElementValue)
    → element_keys (es ++ e ∷ []) ≡ element_keys es ++ encode_utf8_all e.id ∷ []
keys_more es e = map-append (λ x. (element_pair x).0) es (e ∷ [])

pub ids_added : (es : List ElementValue) (e : ElementValue) (ids : List (Bor (List ℕ))) (count : ℕ) (id : Bor (List ℕ))
    → count < length ids → map (λ s. s.now) (take count ids) ≡ element_keys es → id.now ≡ encode_utf8_all e.id
    → map (λ s. s.now) (take (count + 1) (slice_set ids count id)) ≡ element_keys (es ++ e ∷ [])
ids_added es e ids count id within held same =
    rw (take_more_set ids count id within, map-append (λ (s : Bor (List ℕ)). s.now) (take count ids) (id ∷ []))
    (rw (held, same, keys_more es e) refl)

pub keys_distinct : (es : List ElementValue) (e : ElementValue) (id : List ℕ) (keys : List (List ℕ))
    → AreDistinct (element_keys es)
    → keys ≡ element_keys es → id ≡ encode_utf8_all e.id → IsNewKey id keys → AreDistinct (element_keys (es ++ e ∷ []))
keys_distinct es e id keys distinct held same new =
    rw (keys_more es e) (distinct_more (element_keys es) _ distinct (rw (held, same) at new))

-- ---- the whole

-- bytes were appended, if there was memory
pub on_extended : {T E : Type 0} (r : Result T E) (now old more all : List ℕ)
    → now ≡ (if is_ok r then old ++ more else old) → more ≡ all → OnOk r (now ≡ old ++ all)
on_extended (Ok x) now old more all e same = e ∙ ap (λ xs. old ++ xs) same
on_extended (Err x) now old more all e same = tt

-- the fields, with the object of the elements copied to its place
pub object_of_parts : (m : MessageValue) (b : Beside) (elements front list now : List ℕ)
    → elements ≡ elements_text m.structured_data → front ≡ elements ++ front_text m b.dialect
    → list ≡ front ++ cond (length elements == 0) []
    (44 ∷ (quoted (codes "structured_data") ++ 58 ∷ take (length elements) front))
    → now ≡ list ++ rest_text (back_fields m b.unparsed b.raw)
    → drop (length elements) now ≡ compact_text (message_json m b)
object_of_parts m b elements front list now is first second third =
    let f = front_text m b.dialect in
    let back = rest_text (back_fields m b.unparsed b.raw) in
    let copied : take (length elements) front ≡ elements =
    ap (take (length elements)) first ∙ take-append_seam elements f in
    let all : now ≡ elements ++ ((f ++ listed) ++ back) =
    rw (third, second, copied, middle m.structured_data elements is, first)
    (ap (λ xs. xs ++ back) (append_assoc elements f listed) ∙ append_assoc elements (f ++ listed) back) in
    ap (drop (length elements)) all ∙ drop-append_seam elements ((f ++ listed) ++ back) ∙ message_whole m b
  where
    listed : List ℕ
    listed = field_text (codes "structured_data") (structured_json m.structured_data)

    middle : (es : List ElementValue) (bytes : List ℕ) → bytes ≡ elements_text es
        → cond (length bytes == 0) [] (44 ∷ (quoted (codes "structured_data") ++ 58 ∷ bytes))
        ≡ field_text (codes "structured_data") (structured_json es)
    middle [] bytes none = rw none refl
    middle (e ∷ es) bytes some =
        rw (some, ne_eqb (length (elements_text (e ∷ es))) 0 (λ none. absurd (omega (arith, none)))) refl
