use Rattle.std.proofs.Common.{refl}
use Rattle.syslog_sent.proofs.NamedLemmas.{told}
use Rattle.syslog_sent.specs.Selector.{is_facility}
use Rattle.syslog_sent.specs.Runs.{is_plain_char}
use Rattle.syslog_sent.proofs.selector.facility.Goals as goal

pub returns : goal.returns
returns c = told is_plain_char is_facility refl c.split.result.0 c.split.result.1 _ _ c.split.ensures
    c.is_facility.ensures c.then_some.ensures
