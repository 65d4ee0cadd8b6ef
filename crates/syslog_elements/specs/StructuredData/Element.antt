-- Elements as values over texts, and their printed text.
use Rattle.std.specs.{List.flat_map, Prelude.List, Prelude.[], Prelude.◌∷◌, Prelude.◌++◌, Prelude.map}
use Rattle.syslog_text.specs.{Pieces.Class.Text, Text.dash}
use Rattle.syslog_elements.specs.declared.structured_data.StructuredElement.{StructuredElement}

-- an element over texts: its id, and the names and values of its parameters in order
pub record ElementValue : Type 0 where
  pub id : Text
  pub params : List (Text × Text)

abbrev pub param_value : {S : Type 0} → (S → Text) → S × S → Text × Text
param_value text p = (text p.0, text p.1)

-- the element over texts of one over S
abbrev pub element_value : {S : Type 0} → (S → Text) → StructuredElement S → ElementValue
element_value text e = record { id = text e.id; params = map (λ p. (text p.0, text p.1)) e.params.items }

-- ` name="value"`, the value as it is
abbrev pub param_text : Text × Text → Text
param_text p = 32 ∷ (p.0 ++ (61 ∷ 34 ∷ (p.1 ++ (34 ∷ []))))

-- `[id`, the parameters, `]`
abbrev pub element_text : ElementValue → Text
element_text e = 91 ∷ (e.id ++ (flat_map param_text e.params ++ (93 ∷ [])))

-- elements one after the other
abbrev pub joined_elements : List ElementValue → Text
joined_elements es = flat_map element_text es

-- elements one after the other, or `-` where there are none
abbrev pub elements_text : List ElementValue → Text
elements_text [] = dash
elements_text (e ∷ es) = flat_map element_text (e ∷ es)

-- the texts of an element: its id, and the names and values
abbrev pub element_texts : ElementValue → List Text
element_texts e = e.id ∷ flat_map (λ p. p.0 ∷ p.1 ∷ []) e.params
