use Rattle.syslog_elements.proofs.Names.{refl, false_is, no_truth}
use Rattle.syslog_elements.proofs.structured_data.canonical.is_canonical_element.Goals as goal

pub returns-then-not-is_some_of : goal.returns-then-not-is_some_of
returns-then-not-is_some_of g c =
    let id = rw c.as_str.ensures at c.if-not-is_some_of.ensures in
    false_is (λ h. no_truth (id.1 (h.0, h.1)))

pub returns : goal.returns
returns g c =
    let id = rw c.as_str.ensures at c.if-not-is_some_of.ensures in
    let params = rw c.deref.ensures.value at c.if-not-are_canonical_params.ensures in
    let first = rw c.deref-2.ensures.value at c.begins_unblank_params.ensures in
    let n = id.0 refl in
    ((λ h. (n.0, n.1, params.0 refl, first.0 h)), (λ h. first.1 h.3))
