use Rattle.syslog_elements.proofs.Names.{meets_none}
use Rattle.syslog_elements.proofs.StructuredDataLemmas.Closing.{unescaped_plain, past_run, value_quoted, value_on}
use Rattle.syslog_elements.proofs.structured_data.recognise.after_value.Goals as goal

pub returns-in-Some : goal.returns-in-Some
returns-in-Some c = value_quoted unescaped_plain c.split_run.ensures c.units.invariant.1 _ c.in-Some.ensures

pub returns-in_err-more : goal.returns-in_err-more
returns-in_err-more c =
    let to_end = past_run unescaped_plain c.split_run.ensures c.units.invariant.1 in
    rw c.from_residual.ensures (meets_none _ _ _ _ to_end c.in_err-more.ensures)

pub units-preserved : goal.units-preserved
units-preserved c =
    let (utf8, u) = c.in_ok-more.ensures in
    (utf8, value_on unescaped_plain c.split_run.ensures c.units.invariant.1 _ u.1 _ u.2)
