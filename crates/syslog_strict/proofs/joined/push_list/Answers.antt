use Rattle.syslog_strict.proofs.Words.{refl, sym, subst, ◌∙◌, list_elements}
use Rattle.syslog_strict.specs.Grammar.{IsAll, sd_elements}
use Rattle.syslog_strict.proofs.ElementLemmas.{converted_some, elements_some, strict_stay}
use Rattle.syslog_strict.proofs.TextLemmas.{appended}
use Rattle.syslog_elements.proofs.StructuredDataLemmas.Pairs.{are_canonical}
use Rattle.syslog_strict.proofs.joined.push_list.Goals as goal

pub returns-then-are_elements : goal.returns-then-are_elements
returns-then-are_elements c =
    let prints = c.in-Some.ensures.prints in
    let begins = subst (IsAll sd_elements) prints (c.if-are_elements.ensures refl) in
    appended c.push_text.result _ _ _ _
    (prints ∙ sym (strict_stay (list_elements c.args.list) (are_canonical c.args.list) begins)) c.push_text.ensures

pub returns : goal.returns
returns c = appended c.push_many.result _ _ _ _
    (sym (elements_some _ (converted_some (list_elements c.args.list) c.if-is_empty.ensures))) c.push_many.ensures
