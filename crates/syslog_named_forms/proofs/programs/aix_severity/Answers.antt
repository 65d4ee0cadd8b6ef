use Rattle.syslog_named_forms.proofs.Names.{is_not_whitespace, refl, Text, told}
use Rattle.std.proofs.Common.{◌||◌}
use Rattle.syslog_named_forms.specs.Programs.{is_double_severity}
use Rattle.syslog_sent.specs.Selector.{is_severity}
use Rattle.syslog_named_forms.proofs.programs.aix_severity.Goals as goal

pub returns : goal.returns
returns c = told is_not_whitespace (λ (t : Text). is_severity t || is_double_severity t) refl c.split_run.result.0
    c.split_run.result.1 _ _ c.split_run.ensures c.is_aix_severity.ensures c.then_some.ensures
