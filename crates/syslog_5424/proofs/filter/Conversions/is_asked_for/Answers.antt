use Rattle.std.specs.Str.{chars}
use Rattle.syslog_5424.proofs.CallLemmas.{asked_chosen, none_asked}
use Rattle.syslog_5424.proofs.filter.Conversions.is_asked_for.Goals as goal

pub returns-in-Some : goal.returns-in-Some
returns-in-Some c =
    asked_chosen c.args.self.now c.args.choice.now (chars c.args.line.now) c.requires c.in-Some.found _
    c.in-Some.ensures c.is_chosen.ensures

pub returns-in-None : goal.returns-in-None
returns-in-None c = (
  λ yes. absurd (cc yes),
  λ asked. absurd (none_asked c.args.self.now c.args.choice.now (chars c.args.line.now) c.requires c.in-None.ensures
      asked),
)
