use Rattle.syslog_c.proofs.Words.{◌≡◌, ◌∙◌, of_z, rules, to_z, w32}
use Rattle.std.proofs.Common.{w16, w8}
use Rattle.syslog_c.proofs.OptionLemmas.{converted, date_found}
use Rattle.syslog_c.proofs.rules.day_of.Goals as goal

pub returns : goal.returns
returns c =
    let options = c.args.options.now in
    let year : to_z w16 (of_z w16 c.in_ok-year.year) ≡ c.in_ok-year.year = search rules in
    let given : to_z w32 (of_z w32 options.year) ≡ options.year = search rules in
    let month : to_z w8 (of_z w8 c.in_ok-month.month) ≡ c.in_ok-month.month = search rules in
    let day : to_z w8 (of_z w8 c.in_ok-day.day) ≡ c.in_ok-day.day = search rules in
    date_found options.year options.month options.day _ _ _ c.new.result c.ok-4.result c.ok-4.ensures.value
    (year ∙ converted _ c.try_from.result _ _ c.in_ok-year.ensures.value c.try_from.ensures ∙ given)
    (month ∙ converted _ c.try_from-2.result _ _ c.in_ok-month.ensures.value c.try_from-2.ensures)
    (day ∙ converted _ c.try_from-3.result _ _ c.in_ok-day.ensures.value c.try_from-3.ensures) c.new.ensures.succeeds
    c.new.ensures.value
