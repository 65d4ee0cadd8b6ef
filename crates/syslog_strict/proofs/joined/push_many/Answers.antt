use Rattle.syslog_strict.proofs.Words.{ap, ◌∙◌, joined_elements, converted_element, joined, arith}
use Rattle.std.proofs.lemmas.Grind.{common_steps}
use Rattle.syslog_strict.proofs.{ElementLemmas.all_of, ElementLemmas.joined_is, TextLemmas.appended}
use Rattle.syslog_strict.proofs.joined.push_many.Goals as goal

pub returns : goal.returns
returns c =
    let (seen, has, e) = c.loop-element.invariant in
    appended c.push_to.result _ _ _ _
    (joined_is _ seen has ∙ ap (λ es. joined_elements (joined es))
    (all_of converted_element seen _ _ e c.in-None.ensures.steps.0))
    c.push_to.ensures

pub loop-element-preserved : goal.loop-element-preserved
loop-element-preserved c = grind (arith, common_steps)
