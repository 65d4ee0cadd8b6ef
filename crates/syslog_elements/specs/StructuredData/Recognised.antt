-- What a recognised text means, where nothing of that was collected: its meaning is kept for proofs alone.
use Rattle.std.specs.Prelude.{◌≡◌, List, Option}
use Rattle.std.proofs.{Common.sym, Math.Logic.∥∥₁_elim, Math.Logic.∥∥₁_prop, Props.props}
use mathlib.Core.HLevel.{Σ_prop_path, Σ_prop, Π_prop}
use Rattle.syslog_text.specs.Pieces.{Class.Text, Class.Class, Class.Front, Class.optional, Lists.many}
use Rattle.syslog_elements.specs.StructuredData.{item, Element.ElementValue, Pairs.inside_of, Pairs.pairs}
use Rattle.syslog_elements.specs.declared.structured_data.pairs.Notation.{Notation}

-- a meaning of the front of the class that begins the text, and that there is no other
abbrev pub OneMeaning : (C : Class) → Text → Type 0
OneMeaning C text =
    (v : C.Value) × (∥ ((q : Text) × Front C text q v) ∥₁ × ((q : Text) (w : C.Value) → Front C text q w → w ≡ v))

-- a text has at most one
pub OneMeaning-prop : (C : Class) → IsSet C.Value → (text : Text) → IsProp (OneMeaning C text)
OneMeaning-prop C set text m n = Σ_prop_path
    (λ v. Σ_prop ∥∥₁_prop (λ t. Π_prop (λ q. Π_prop (λ w. Π_prop (λ f. set w v)))))
    (∥∥₁_elim n.1.0 (set m.0 n.0) (λ f. sym (m.1.1 f.0 n.0 f.1)))

pub one_value : {C : Class} {text : Text} → OneMeaning C text → C.Value
one_value m = m.0

-- whatever front there is has that meaning
pub one_value-is : {C : Class} {text q : Text} {v : C.Value} (m : OneMeaning C text) → Front C text q v
    → one_value m ≡ v
unfolding one_value
one_value-is {q = q} {v = v} m f = sym (m.1.1 q v f)

-- an element is given by its two parts
pub ElementValue-set : IsSet ElementValue
ElementValue-set = Prim.hlevel props

pub params_set : IsSet (List (Text × Text))
params_set = Prim.hlevel props

pub items_set : IsSet (List (Option ElementValue))
items_set = Prim.hlevel (props, ElementValue-set)

pub OneInside-prop : (notation : Notation) (text : Text) → IsProp (OneMeaning (inside_of notation) text)
OneInside-prop notation text = OneMeaning-prop (inside_of notation) (Prim.hlevel props) text

pub OnePairs-prop : (text : Text) → IsProp (OneMeaning (optional pairs) text)
OnePairs-prop text = OneMeaning-prop (optional pairs) (Prim.hlevel props) text

pub OneItems-prop : (text : Text) → IsProp (OneMeaning (many item) text)
OneItems-prop text = OneMeaning-prop (many item) items_set text
