use Rattle.syslog_elements.proofs.StructuredDataLemmas.Closing.{value_further}
use Rattle.syslog_elements.proofs.structured_data.canonical.is_value.Goals as goal

pub units-preserved : goal.units-preserved
units-preserved c =
    let (next, utf8) = c.in-Some-first.ensures in
    let some = c.in-Some.ensures.0 in
    (utf8, value_further _ _ _ _ c.split_run.ensures c.units.invariant.1 _ _ some c.if-c-eq34.false _ _ next)
