use Rattle.syslog_elements.proofs.Names.{text_of, param_value, IsCanonicalParam, false_is, no_truth}
use Rattle.syslog_elements.proofs.StructuredDataLemmas.Closing.{all_at}
use Rattle.syslog_elements.proofs.structured_data.canonical.are_canonical_params.Goals as goal

pub returns-then-not-is_canonical_param : goal.returns-then-not-is_canonical_param
returns-then-not-is_canonical_param g c =
    let at = all_at (param_value (text_of g.S.AsStr.text)) IsCanonicalParam c.args.params.now c.loop-param.param-index
    c.param-item.result c.loop-param-test.true c.param-item.is in
    false_is (λ h. no_truth (c.if-not-is_canonical_param.ensures.1 (at h)))
