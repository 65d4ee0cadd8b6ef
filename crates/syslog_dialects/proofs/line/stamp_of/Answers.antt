use Rattle.syslog_dialects.proofs.Names.{◌≡◌, rules}
use Rattle.std.proofs.Common.{FitsSigned, to_z-of_z, w32}
use Rattle.syslog_dialects.proofs.SentLemmas.{never_stamped, stamped_at, stamped_there}
use Rattle.syslog_dialects.proofs.line.stamp_of.Goals as goal

pub returns-in_err-year_of : goal.returns-in_err-year_of
returns-in_err-year_of c =
    rw c.from_residual.ensures (never_stamped c.args.dates.now c.args.sent c.in_err-year_of.ensures)

pub returns-in_ok-ok-in-Some : goal.returns-in_ok-ok-in-Some
returns-in_ok-ok-in-Some c =
    let fits : FitsSigned w32 c.in_ok-year_of.field-0 = search rules in
    let at : c.in_ok-ok-in-Some.field-0.seconds ≡ c.in-Some.seconds = search rules in
    stamped_at c.args.dates.now c.args.sent c.in_ok-year_of.field-0 c.in_ok-year_of.ensures c.in_ok-ok-in-Some.field-0
    c.in-Some.seconds c.clock_stamp.result c.in-Some.is at (simp to_z-of_z at c.clock_stamp.ensures)

pub returns-in-None : goal.returns-in-None
returns-in-None c =
    let fits : FitsSigned w32 c.in_ok-year_of.field-0 = search rules in
    stamped_there c.args.dates.now c.args.sent c.in_ok-year_of.field-0 c.in_ok-year_of.ensures c.civil_stamp.result
    c.in-None.is (simp to_z-of_z at c.civil_stamp.ensures)
