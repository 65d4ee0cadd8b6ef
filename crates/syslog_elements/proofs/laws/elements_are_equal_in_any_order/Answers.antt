use Rattle.syslog_elements.proofs.Names.{ap, sym, ◌∙◌, text_of, ElementValue, element_value, element_eq}
use Rattle.std.specs.Cmp.{partial_equiv_from_equiv}
use Rattle.syslog_elements.specs.StructuredData.EqualLaws.{element_equivalence, element_eq-decides}
use Rattle.syslog_elements.proofs.laws.elements_are_equal_in_any_order.Goals as goal

pub returns-clause-exact : goal.returns-clause-exact
returns-clause-exact g c a b = element_eq-decides _ _

pub returns-clause-reflexive : goal.returns-clause-reflexive
returns-clause-reflexive g c a = element_equivalence.refl (element_value (text_of g.S.AsStr.text) a)

pub returns-clause-symmetric : goal.returns-clause-symmetric
returns-clause-symmetric g c a b e =
    let value = element_value (text_of g.S.AsStr.text) in sym (element_equivalence.symm (value a) (value b)) ∙ e

pub returns-clause-transitive : goal.returns-clause-transitive
returns-clause-transitive g c a b d e f =
    let value = element_value (text_of g.S.AsStr.text) in
    (partial_equiv_from_equiv element_equivalence).trans (value a) (value b) (value d) e f

pub returns-clause-same : goal.returns-clause-same
returns-clause-same g c a b e =
    let value = element_value (text_of g.S.AsStr.text) a in
    ap (λ (v : ElementValue). element_eq value v) (sym e) ∙ element_equivalence.refl value
