use Rattle.syslog_command_line.proofs.Names.{◌≡◌, of_z, rules, to_z, w32}
use Rattle.syslog_command_line.proofs.OptionLemmas.{zone_by_rule, zone_without_rule}
use Rattle.syslog_command_line.proofs.options.dates_of.Goals as goal

pub returns-in-Some-clause-zone : goal.returns-in-Some-clause-zone
returns-in-Some-clause-zone c = λ flags holds.
    zone_by_rule flags c.rule_of.result c.in-Some.zone _ c.in-Some.is c.new.ensures.zone (c.rule_of.ensures flags holds)

pub returns-in-None-clause-zone : goal.returns-in-None-clause-zone
returns-in-None-clause-zone c =
    let offset : to_z w32 (of_z w32 c.offset_of.result) ≡ c.offset_of.result = search rules in
    λ flags holds. zone_without_rule flags c.rule_of.result _ _ c.in-None.is (c.rule_of.ensures flags holds)
    (c.offset_of.ensures.value flags holds) (rw offset at c.ahead.ensures.zone)
