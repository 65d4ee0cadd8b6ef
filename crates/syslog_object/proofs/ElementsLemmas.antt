-- The object of elements alone.
use Rattle.syslog_object.proofs
use Rattle.syslog_object.specs
use proofs.Names.{◌≡◌, ℕ, [], ◌∷◌, ◌++◌, List, ElementValue, ap, refl, ◌∙◌, arith}
use proofs.Names.{◌<◌, compact_text, length, element_pair, gathered, map, subst, sym}
use Rattle.std.proofs.Common.{◌≢◌}
use specs.{Elements.IsStructuredText, Elements.elements_text, Writer.AreWritten, Written.IsTextOf}
use specs.declared.writer.ObjectWriter.{ObjectWriter}
use proofs.{GatherLemmas.distinct_gathered, GatherLemmas.open_closed}
use proofs.{WrittenLemmas.flat_structured, WrittenLemmas.text_of_small}

-- the object of some elements was written
pub any_written : (old now : List ℕ) (es : List ElementValue) → (es ≡ [] → ⊥)
    → now ≡ old ++ compact_text (gathered (map element_pair es)) → now ≡ old ++ elements_text es
any_written old now [] some e = absurd (some refl)
any_written old now (x ∷ es) some e = e

pub not_empty : (es : List ElementValue) → 0 < length es → es ≢ []
not_empty [] some = absurd (omega arith)
not_empty (e ∷ es) some = λ none. cc

-- a writer that has written some elements needs the last brace
pub written_closed : (w : ObjectWriter) (es : List ElementValue) → es ≢ [] → AreWritten w es
    → w.text ++ 125 ∷ [] ≡ elements_text es
written_closed w [] some held = absurd (some refl)
written_closed w (e ∷ es) some held =
    ap (λ xs. xs ++ 125 ∷ []) held.text ∙ open_closed (map element_pair (e ∷ es)) (λ none. cc)
    ∙ distinct_gathered (λ e. (element_pair e).0) (λ e. (element_pair e).1) (e ∷ es) held.distinct

pub text_of_structured : (elements : List ElementValue) (bytes : List ℕ) → bytes ≡ elements_text elements
    → IsStructuredText elements bytes
text_of_structured [] bytes is = is
text_of_structured (e ∷ es) bytes is =
    let flat = flat_structured (e ∷ es) in
    subst (IsTextOf (gathered (map element_pair (e ∷ es)))) (sym is) (text_of_small _ flat.0 (omega (arith, flat.1)))
