use Rattle.syslog_loose.proofs.Names.{◌≡◌, ◌∙◌, of_z, refl, rules, to_z, w32}
use Rattle.syslog_loose.proofs.reckoning.zone_ahead.Goals as goal

pub returns-in-Ok : goal.returns-in-Ok
returns-in-Ok c =
    let same : to_z w32 (of_z w32 c.args.seconds) ≡ c.args.seconds = search rules in (
      rw same at (c.in-Ok.ensures.succeeds.0 refl),
      (c.in-Ok.offset, c.in-Ok.ensures.value ∙ same, c.fixed.ensures),
    )
