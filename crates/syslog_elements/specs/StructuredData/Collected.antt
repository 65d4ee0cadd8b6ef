-- What was noted of an element's parameters, and what was collected of a list.
use Rattle.std.specs.Prelude.{◌≡◌, ◌≢◌, ◌<◌, ◌≤◌, List, [], length, map, take}
use Rattle.std.specs.Result.{MatchResult}
use Rattle.syslog_text.specs.Pieces.{Class.Text, View.shown}
use Rattle.syslog_elements.specs.StructuredData.Element.{ElementValue, element_value, param_value}
use Rattle.syslog_elements.specs.declared.structured_data.{collect.Collect.Collect, few_params.FewParams.FewParams}

-- the first of these parameters were noted; all of them, where space is left
pub record HasNoted (notes : FewParams) (ps : List (Text × Text)) : Type 0 where
  pub within : notes.count ≤ length ps
  pub first : map (param_value (λ s. shown s)) (take notes.count notes.params) ≡ take notes.count ps
  pub all : notes.count < 16 → notes.count ≡ length ps

-- these elements were collected, or an allocation for one of them failed
abbrev pub HasCollected : Collect → List ElementValue → Type 0
HasCollected c es =
    MatchResult c.elements (λ v. map (element_value (λ s. shown s)) v.items ≡ es) (λ _. es ≢ [])
