use Rattle.syslog_named_forms.proofs.Names.{is_plain_char, refl, told}
use Rattle.syslog_named_forms.specs.Untagged.{is_main_topic}
use Rattle.syslog_named_forms.proofs.untagged.main_topic.Goals as goal

pub returns : goal.returns
returns c = told is_plain_char is_main_topic refl c.split.result.0 c.split.result.1 _ _ c.split.ensures
    c.is_main_topic.ensures c.then_some.ensures
