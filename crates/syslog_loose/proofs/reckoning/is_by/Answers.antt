use Rattle.std.proofs.Common.{◌≡◌, ◌∙◌, arith, of_z, rules, sym, to_z, w16, w8}
use Rattle.std.proofs.lemmas.Int.{ints}
use Rattle.jiff.{proofs.Family.epoch_day_same, specs.Words.epoch_day}
use Rattle.syslog_loose.proofs.YearLemmas.{le_iff}
use Rattle.syslog_loose.proofs.reckoning.is_by.Goals as goal

pub returns-in-Ok : goal.returns-in-Ok
returns-in-Ok c =
    let month : to_z w8 (of_z w8 c.in-Ok-Ok.month) ≡ c.in-Ok-Ok.month = search rules in
    let day : to_z w8 (of_z w8 c.in-Ok-Ok.day) ≡ c.in-Ok-Ok.day = search rules in
    let year : to_z w16 (of_z w16 c.args.year) ≡ c.args.year = search rules in
    let shows = c.in-Ok.ensures.value in
    let le = le_iff (epoch_day c.in-Ok.date) (epoch_day c.args.limit) in (
      λ on. (
        c.in-Ok.date,
        (shows.0 ∙ year, shows.1 ∙ month ∙ c.in-Ok-Ok.ensures.1, shows.2 ∙ day ∙ c.in-Ok-Ok.ensures'.1),
        le.0 (sym c.le.ensures ∙ on),
      ),
      λ by.
          let same : epoch_day c.in-Ok.date ≡ epoch_day by.0 =
          epoch_day_same c.in-Ok.date by.0 (shows.0 ∙ year ∙ sym by.1.0)
          (omega (arith, ints, shows.1, month, c.in-Ok-Ok.ensures.1, by.1.1))
          (omega (arith, ints, shows.2, day, c.in-Ok-Ok.ensures'.1, by.1.2)) in
          c.le.ensures ∙ le.1 (rw same by.2),
    )
