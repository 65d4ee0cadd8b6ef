use Rattle.syslog_elements.proofs.Names.{refl, no_truth}
use Rattle.syslog_elements.proofs.structured_data.canonical.is_canonical_param.Goals as goal

pub returns-then-is_some_of : goal.returns-then-is_some_of
returns-then-is_some_of g c =
    let n = (rw c.as_str.ensures at c.if-is_some_of.ensures).0 refl in
    let value = rw c.as_str-then-is_some_of.ensures at c.is_value.ensures in
    ((λ h. (n.0, n.1, value.0 h)), (λ h. value.1 h.2))

pub returns-else-is_some_of : goal.returns-else-is_some_of
returns-else-is_some_of g c =
    let name = rw c.as_str.ensures at c.is_some_of.ensures in
    ((λ h. absurd (no_truth (rw c.if-is_some_of.false at h))), (λ h. name.1 (h.0, h.1)))
