use Rattle.std.proofs.Common.{refl}
use Rattle.std.specs.Char.{is_not_whitespace}
use Rattle.syslog_sent.proofs.NamedLemmas.{told_both}
use Rattle.syslog_sent.specs.Selector.{is_severity}
use Rattle.syslog_sent.proofs.selector.severity.Goals as goal

pub returns : goal.returns
returns c = told_both is_not_whitespace is_severity refl c.split_run.result.0
    c.split_run.result.1 _ _ c.split_run.ensures
    c.is_severity.ensures c.then_some.ensures
