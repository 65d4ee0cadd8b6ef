use Rattle.syslog_c.proofs.Words.{◌≡◌, of_z, rules, to_z, w32}
use Rattle.syslog_c.proofs.OptionLemmas.{zone_at_offset, zone_named}
use Rattle.syslog_c.proofs.RowLemmas.{none_left}
use Rattle.syslog_c.proofs.rules.zone_of.Goals as goal

pub returns-then-is_empty : goal.returns-then-is_empty
returns-then-is_empty c =
    let options = c.args.options.now in
    let rule = c.text_in-rule.result.now in
    let offset : to_z w32 (of_z w32 options.offset) ≡ options.offset = search rules in
    zone_named options rule c.zone_ahead.result c.text_in-rule.ensures
    (zone_at_offset rule options.offset c.zone_ahead.result (none_left _ _ c.is_empty.ensures c.if-is_empty.true)
    (rw offset at c.zone_ahead.ensures))

pub returns : goal.returns
returns c =
    let options = c.args.options.now in
    let offset : to_z w32 (of_z w32 options.offset) ≡ options.offset = search rules in
    zone_named options c.text_in-rule.result.now c.zone_by.result c.text_in-rule.ensures
    (rw offset at c.zone_by.ensures)
