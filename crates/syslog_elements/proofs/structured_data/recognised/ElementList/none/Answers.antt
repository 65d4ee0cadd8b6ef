use Rattle.syslog_elements.proofs.Names.{arith, refl, sym, chars-nil, [], ◌∙◌, subst, Text, chars}
use Rattle.syslog_elements.proofs.StructuredDataLemmas.{Elements.no_items_here, Unparsed.nothing_leaves}
use Rattle.syslog_elements.specs.StructuredData.Unparsed.{IsUnparsed}
use Rattle.syslog_elements.proofs.structured_data.recognised.ElementList.none.Goals as goal

pub new-requires : goal.new-requires
new-requires c = (
  _,
  (
    [],
    no_items_here _ chars-nil,
    refl,
    refl,
    subst (λ (x : Text). IsUnparsed (chars []) x) (sym chars-nil) (nothing_leaves (chars []) chars-nil),
    (λ some. absurd (omega (arith, some))),
    (λ flag e. (let k = sym chars-nil ∙ e in cc)),
  ),
)

pub returns-clause-elements : goal.returns-clause-elements
returns-clause-elements c = c.new.ensures.elements _ [] (no_items_here _ chars-nil)

pub returns-clause-text : goal.returns-clause-text
returns-clause-text c = c.new.ensures.text ∙ chars-nil
