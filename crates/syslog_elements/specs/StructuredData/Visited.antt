-- What recognised elements and lists mean, and what a visitor was given of them.
use Rattle.std.specs.Prelude.{◌≡◌, ◌≢◌, ◌⊎◌, ◌↔◌, ℕ, List, [], ◌++◌, ◌+◌, ◌≤◌, Option, Some, None, IfSome, IsTrue}
use Rattle.std.specs.{Borrow.Bor, Prelude.length, Prelude.sum_by, Str.IsUtf8}
use Rattle.syslog_text.specs.Pieces.{Class.Text, Class.Front, Lists.many, View.shown}
use Rattle.syslog_elements.specs.StructuredData.{strict, element, item}
use Rattle.syslog_elements.specs.StructuredData.Element.{ElementValue, element_text, joined_elements}
use Rattle.syslog_elements.specs.StructuredData.{Pairs.with_pairs, Recognised.one_value, Unparsed.IsUnparsed}
use Rattle.syslog_elements.specs.declared.structured_data.{recognised.Element.Element, recognised_items.Params.Params}
use Rattle.syslog_elements.specs.declared.structured_data.recognised.ElementList.{ElementList}
use Rattle.syslog_elements.specs.declared.structured_data.recognised_items.Elements.{Elements}
use Rattle.syslog_elements.specs.declared.structured_data.{line_list.Tally.Tally, walk.Walked.Walked}

-- what a recognised element means
abbrev pub element_seen : Element → ElementValue
element_seen e = record { id = shown e.id; params = (one_value e.meaning).0 }

-- the elements of a recognised list, in order: those of its text that are strict, or that of Check Point's pairs
abbrev pub list_elements : ElementList → List ElementValue
list_elements l = with_pairs (one_value l.paired) (strict (one_value l.meaning))

-- the text of a recognised list; pairs are none of it
abbrev pub list_text : ElementList → Text
list_text l = shown l.text

-- a visitor was given these elements more
abbrev pub Visits : {V : Type 0} → (V → V → List ElementValue → Type 0) → V → List ElementValue → V → Type 0
Visits {V = V} was_given old es new =
    (first : V) (ds : List ElementValue) → was_given first old ds → was_given first new (ds ++ es)

-- the parameters that are left of an element
abbrev pub params_left : Params → List (Text × Text)
params_left it = (one_value it.meaning).0

-- the elements that are left of a list
abbrev pub elements_left : Elements → List ElementValue
elements_left it = with_pairs (one_value it.paired) (strict (one_value it.meaning))

-- the element that was walked begins the text, and the rest follows; the mark says whether it is in printed form
pub record IsWalked (text : Text) (w : Walked) : Type 0 where
  pub utf8 : IsUtf8 w.rest.now
  pub front : Front element text (shown w.rest) (element_seen w.element)
  pub prints : IsTrue w.prints ↔ (text ≡ element_text (element_seen w.element) ++ shown w.rest)
  pub few : length (element_seen w.element).params + length (shown w.rest) ≤ length text

-- the text from the first item on that is not strict; the rest, if each is strict
abbrev pub strict_end : Option (Bor (List ℕ)) → Text → Text
strict_end None rest = rest
strict_end (Some b) rest = shown b

-- The elements that are in the text before the rest were counted. Where the mark says so, their printed form is all of
-- it up to the first item that is not strict; elsewhere it does not begin the text.
pub record IsTallied (text rest : Text) (es : List ElementValue) (tally : Tally) : Type 0 where
  pub elements : tally.elements ≡ length es
  pub params : tally.params ≡ sum_by (λ e. length e.params) es
  pub prints : IsTrue tally.prints → text ≡ joined_elements es ++ strict_end tally.broken rest
  pub lost : IsTrue tally.prints ⊎ ((more : Text) → text ≢ joined_elements es ++ more)

-- the items are all of a piece of the text before the rest
pub record AreItems (text rest : Text) (vs : List (Option ElementValue)) : Type 0 where
  pub piece : Text
  pub whole : text ≡ piece ++ rest
  pub items : Front (many item) piece [] vs

-- this is before the rest, from the first item on that is not strict
abbrev pub IsBroken : Option (Bor (List ℕ)) → Text → Text → Type 0
IsBroken broken unparsed rest = IfSome broken (λ b. IsUtf8 b.now) × (strict_end broken rest ≡ unparsed ++ rest)

-- and it is what is left unparsed of the items that are in the text before the rest
pub record LeavesBroken (text rest : Text) (broken : Option (Bor (List ℕ))) : Type 0 where
  pub piece : Text
  pub whole : text ≡ piece ++ rest
  pub unparsed : Text
  pub left : IsUnparsed piece unparsed
  pub is : IsBroken broken unparsed rest
