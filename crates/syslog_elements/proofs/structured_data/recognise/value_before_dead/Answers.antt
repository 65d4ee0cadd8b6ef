use Rattle.syslog_elements.proofs.Names.{arith, ◌≤◌, ◌∙◌, chars, byte_count}
use Rattle.syslog_elements.proofs.StructuredDataLemmas.Closing.{byte_count_slice, past_run, value_quoted, value_missing}
use Rattle.syslog_elements.proofs.StructuredDataLemmas.Closing.{inert_plain, value_on, value_dead, dead_on}
use Rattle.syslog_elements.proofs.structured_data.recognise.value_before_dead.Goals as goal

pub returns-in-Some : goal.returns-in-Some
returns-in-Some c = value_quoted inert_plain c.split_run.ensures c.units.invariant.1 _ c.in-Some.ensures

pub returns-in_default-unit : goal.returns-in_default-unit
returns-in_default-unit c =
    value_missing _ _ (past_run inert_plain c.split_run.ensures c.units.invariant.1) c.in_default-unit.ensures

pub returns-then-more-dead : goal.returns-then-more-dead
returns-then-more-dead c =
    let u = c.in-Some-unit.ensures.1 in
    let e = byte_count_slice c.in-Some-unit.more.now c.in-Some-unit.ensures.0 in
    let reaches : c.args.dead ≤ byte_count (chars c.in-Some-unit.more.now) = omega (arith, e, c.if-more-dead.true) in (
      value_dead inert_plain c.split_run.ensures c.units.invariant.1 u.0 u.1 _ u.2
          (u.3 ∙ c.if-last-eq93.true) c.args.dead c.units.invariant.2 reaches,
      c.requires,
    )

pub units-preserved : goal.units-preserved
units-preserved c =
    let u = c.in-Some-unit.ensures.1 in (
      c.in-Some-unit.ensures.0,
      value_on inert_plain c.split_run.ensures c.units.invariant.1 u.0 u.1 _ u.2,
      dead_on inert_plain c.split_run.ensures c.units.invariant.1 u.0 u.1 _ u.2 _ c.units.invariant.2,
    )

pub returns-in-Some-after_value : goal.returns-in-Some-after_value
returns-in-Some-after_value c =
    c.units.invariant.1.forth _ c.in-Some-after_value.ensures.0 c.in-Some-after_value.ensures.1

pub returns-in-None : goal.returns-in-None
returns-in-None c = value_missing _ _ c.units.invariant.1 c.in-None.ensures
