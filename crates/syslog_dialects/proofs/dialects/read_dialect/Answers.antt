use Rattle.syslog_dialects.proofs.Names.{early_forms, found_early, found_late, late_forms}
use Rattle.syslog_dialects.proofs.dialects.read_dialect.Goals as goal

pub returns-in-Some : goal.returns-in-Some
returns-in-Some c =
    found_early early_forms (late_forms c.args.is_read c.args.priority) _ c.in-Some.found c.in-Some.ensures

pub returns-in-None : goal.returns-in-None
returns-in-None c = found_late early_forms (late_forms c.args.is_read c.args.priority) _ c.read_late.result
    c.in-None.ensures c.read_late.ensures
