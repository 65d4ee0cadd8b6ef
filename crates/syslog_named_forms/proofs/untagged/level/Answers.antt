use Rattle.syslog_named_forms.proofs.Names.{is_level, is_not_whitespace, refl, told}
use Rattle.syslog_named_forms.proofs.untagged.level.Goals as goal

pub returns : goal.returns
returns c = told is_not_whitespace is_level refl c.split_run.result.0 c.split_run.result.1 _ _ c.split_run.ensures
    c.is_level.ensures c.then_some.ensures
