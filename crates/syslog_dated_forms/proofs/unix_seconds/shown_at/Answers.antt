use Rattle.syslog_dated_forms.proofs.Names.{◌*ℤ◌, ◌≡◌, pos}
use Rattle.std.proofs.Common.{FitsSigned, rules, w64}
use Rattle.std.proofs.lemmas.Int.{to_z-of_z}
use Rattle.syslog_dated_forms.proofs.RowLemmas.{shown_fields}
use Rattle.syslog_dated_forms.proofs.unix_seconds.shown_at.Goals as goal

pub returns-in-Ok : goal.returns-in-Ok
returns-in-Ok c =
    let fits : FitsSigned w64 c.from.result = search rules in
    let value : c.in-Ok.instant.nanosecond ≡ pos c.args.seconds *ℤ pos 1_000_000_000 =
    rw (to_z-of_z, c.from.ensures) at c.in-Ok.ensures.value in
    shown_fields c.to_datetime.result c.args.seconds c.in-Ok.instant.nanosecond value c.to_datetime.ensures
