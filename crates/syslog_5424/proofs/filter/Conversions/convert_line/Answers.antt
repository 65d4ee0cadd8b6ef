use Rattle.std.specs.Str.{chars}
use Rattle.syslog_strict.specs.Pushing.{text_in}
use Rattle.syslog_5424.proofs.CallLemmas.{told}
use Rattle.syslog_5424.proofs.filter.Conversions.convert_line.Goals as goal

pub returns : goal.returns
returns c =
    told c.args.self.now (chars c.args.line.now) (text_in c.to_rfc5424_sent.new.text) c.to_rfc5424_sent.result
    c.to_rfc5424_sent.ensures
