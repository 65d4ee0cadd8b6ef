use Rattle.syslog_loose.proofs.Names.{◌≡◌, of_z, rules, to_z, w32}
use Rattle.syslog_loose.proofs.dates.Dates.ahead.Goals as goal

pub returns-clause-zone : goal.returns-clause-zone
returns-clause-zone c =
    let same : to_z w32 (of_z w32 c.args.offset) ≡ c.args.offset = search rules in
    rw c.new.ensures.zone (rw same at c.in-Some.ensures.1)
