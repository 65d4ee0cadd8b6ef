use Rattle.syslog_named_forms.proofs.Names.{is_plain_char, refl, told}
use Rattle.syslog_named_forms.specs.Unified.{is_kind}
use Rattle.syslog_named_forms.proofs.unified.kind.Goals as goal

pub returns : goal.returns
returns c = told is_plain_char is_kind refl c.split.result.0 c.split.result.1 _ _ c.split.ensures
    c.is_kind.ensures c.then_some.ensures
