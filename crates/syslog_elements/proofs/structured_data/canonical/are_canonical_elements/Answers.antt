use Rattle.syslog_elements.proofs.Names.{IsCanonicalElement, element_value, false_is, no_truth, text_of}
use Rattle.syslog_elements.proofs.StructuredDataLemmas.Closing.{all_at}
use Rattle.syslog_elements.proofs.structured_data.canonical.are_canonical_elements.Goals as goal

pub returns-then-not-is_canonical_element : goal.returns-then-not-is_canonical_element
returns-then-not-is_canonical_element g c =
    let at = all_at (element_value (text_of g.S.AsStr.text)) IsCanonicalElement c.args.elements.now
    c.loop-element.element-index c.element-item.result c.loop-element-test.true c.element-item.is in
    false_is (λ h. no_truth (c.if-not-is_canonical_element.ensures.1 (at h)))
