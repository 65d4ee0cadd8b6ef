-- What the caller's arrays hold while the elements of a line are put into them.
use Rattle.std.specs.Prelude.{◌≡◌, ◌≤◌, List, length}
use Rattle.syslog_elements.specs.StructuredData.Element.{ElementValue}
use Rattle.syslog_c.specs.Fields.{IsBegun, IsElement, IsParam, all_params}
use Rattle.syslog_c.specs.declared.arrays.Arrays.{Arrays}
use Rattle.syslog_c.specs.declared.fields.Fields.{Fields}
use Rattle.syslog_c.specs.declared.outcome.Outcome.{Outcome}
use Rattle.syslog_c.specs.declared.outcome.Outcome.TheVariants.{Done, NoRoom}

-- both arrays have space for these elements and their parameters
pub record HaveSpace (arrays : Arrays) (es : List ElementValue) : Type 0 where
  pub elements : length es ≤ length arrays.elements.now
  pub params : length (all_params es) ≤ length arrays.params.now

-- these elements and their parameters are at the front of the arrays, which are as they were at first after them
pub record ArePut (first now : Arrays) (es : List ElementValue) : Type 0 where
  pub count : now.count ≡ length es
  pub filled : now.filled ≡ length (all_params es)
  pub elements : IsBegun IsElement es first.elements.now now.elements.now
  pub params : IsBegun IsParam (all_params es) first.params.now now.params.now

-- they are the arrays that they were at first; and where they have space for these elements, they hold them
pub record HasPut (first now : Arrays) (es : List ElementValue) : Type 0 where
  pub same_elements : now.elements.ghost_name ≡ first.elements.ghost_name
  pub same_params : now.params.ghost_name ≡ first.params.ghost_name
  pub put : HaveSpace now es → ArePut first now es

-- whether they have space for as many elements and parameters as the fields say
abbrev pub IsFilled : Arrays → Fields → Outcome → Type 0
IsFilled arrays fields Done =
    (fields.elements ≤ length arrays.elements.now) × (fields.params ≤ length arrays.params.now)
IsFilled arrays fields NoRoom =
    (fields.elements ≤ length arrays.elements.now) → fields.params ≤ length arrays.params.now → ⊥
IsFilled arrays fields outcome = ⊥
