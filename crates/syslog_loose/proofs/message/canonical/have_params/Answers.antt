use Rattle.syslog_loose.proofs.Names.{◌<◌, length, arith, text_of, element_value, false_is, nat_tests, param_value}
use Rattle.syslog_elements.proofs.StructuredDataLemmas.Closing.{all_at}
use Rattle.syslog_loose.proofs.CanonicalLemmas.{some_params}
use Rattle.syslog_loose.proofs.message.canonical.have_params.Goals as goal

pub returns-then-is_empty : goal.returns-then-is_empty
returns-then-is_empty g c =
    let at = all_at (element_value (text_of g.S.AsStr.text)) (λ e. 0 < length e.params) _
    c.loop-element.element-index _ c.loop-element-test.true c.element-item.is in
    false_is (λ h. let some = some_params (param_value (text_of g.S.AsStr.text)) _ (at h) in grind (arith, nat_tests))
