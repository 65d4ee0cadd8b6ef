use Rattle.syslog_command_line.proofs.Names.{ap, not}
use Rattle.std.proofs.Common.{flat_map}
use Rattle.std.proofs.lemmas.Result.{err_from_is_err_and}
use Rattle.syslog_command_line.proofs.OptionLemmas.{by_has, no_options, text_given}
use Rattle.syslog_command_line.proofs.WordLemmas.{among_later, date_has_year}
use Rattle.syslog_command_line.specs.Options.{given_words}
use Rattle.syslog_command_line.specs.declared.flags.Flag.TheVariants.{App, Csv, Host, Latin1, NoDialects, Raw}
use Rattle.syslog_command_line.proofs.options.read_options.Goals as goal

pub returns-in_err-given : goal.returns-in_err-given
returns-in_err-given c =
    let p = err_from_is_err_and c.from_residual.result c.from_residual.ensures.1 in
    let (among, none) = c.in_err-given.ensures in
    rw (p.1, p.2) (among, no_options _ _ none)

pub returns-in_err-today : goal.returns-in_err-today
returns-in_err-today c =
    let p = err_from_is_err_and c.from_residual-in_err-today.result c.from_residual-in_err-today.ensures.1 in
    let split = c.in_ok-given.ensures in
    let (among, none) = c.in_err-today.ensures in
    rw (p.1, p.2) (
      among_later (flat_map given_words split.given) _ _ _ split.listed among,
      no_options _ _ (λ flags today are. none today (split.dated flags today are)),
    )

pub dates_of-requires : goal.dates_of-requires
dates_of-requires c = date_has_year _ _ c.in_ok-today.ensures

pub returns : goal.returns
returns c =
    let split = c.in_ok-given.ensures in (
      split.given,
      c.in_ok-today.today,
      record { rest = _; listed = split.listed; allowed = split.allowed; dated = c.in_ok-today.ensures },
      record {
        raw = by_has split.given Raw _ _ _ split.holds _ c.has.ensures (λ on text. on) (λ off. off);
        dialects = by_has split.given NoDialects _ _ _ split.holds _ c.has-2.ensures (λ on text. ap not on)
            (λ off. ap not off);
        latin1 = by_has split.given Latin1 _ _ _ split.holds _ c.has-3.ensures (λ on text. on) (λ off. off);
        csv = by_has split.given Csv _ _ _ split.holds _ c.has-4.ensures (λ on text. on) (λ off. off);
        framing = c.framing_of.ensures split.given split.holds;
        max_line = c.max_line_of.ensures split.given split.holds;
        severity = c.severity_of.ensures split.given split.holds;
        host = text_given split.given Host _ _ (split.holds.each Host) c.value.ensures;
        app = text_given split.given App _ _ (split.holds.each App) c.value-2.ensures;
        today = c.dates_of.ensures.today;
        zone = c.dates_of.ensures.zone split.given split.holds;
      },
    )
