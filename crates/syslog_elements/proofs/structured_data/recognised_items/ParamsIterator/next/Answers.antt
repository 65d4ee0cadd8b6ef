use Rattle.syslog_elements.proofs.Names.{rules, ap, ◌∙◌, ◌∷◌, List, Text, param_value, shown}
use Rattle.syslog_elements.proofs.StructuredDataLemmas.Pairs.{next_left, none_next, not_next}
use Rattle.syslog_elements.proofs.StructuredDataLemmas.Walk.{inside_same}
use Rattle.syslog_elements.proofs.structured_data.recognised_items.ParamsIterator.next.Goals as goal

pub returns-in-Some-clause-steps : goal.returns-in-Some-clause-steps
returns-in-Some-clause-steps c =
    let it = c.args.self.now in
    let none = none_next it.notation it.meaning c.in-Some.ensures in (none, none)

pub returns-in_err-found-clause-steps : goal.returns-in_err-found-clause-steps
returns-in_err-found-clause-steps c =
    let it = c.args.self.now in
    absurd (not_next it.notation it.meaning c.in_default.ensures c.in_err-found.ensures)

pub invariant_of-self : goal.invariant_of-self
invariant_of-self c =
    let it = c.args.self.now in
    let m = next_left it.notation it.meaning c.in_default.ensures c.in_ok-found.ensures in
    record { utf8 = search rules; meaning = m.0 }

pub returns-clause-steps : goal.returns-clause-steps
returns-clause-steps c =
    let it = c.args.self.now in
    let (k, e) = next_left it.notation it.meaning c.in_default.ensures c.in_ok-found.ensures in
    e ∙ ap (λ (ps : List (Text × Text)). param_value (λ s. shown s) c.in_ok-found.found ∷ ps)
    (inside_same it.notation k _)

pub returns-clause-goes : goal.returns-clause-goes
returns-clause-goes c = let h = returns-clause-steps c in search rules
