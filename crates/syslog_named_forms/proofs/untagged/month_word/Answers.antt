use Rattle.syslog_named_forms.proofs.Names.{is_month, is_plain_char, refl, told}
use Rattle.syslog_named_forms.proofs.untagged.month_word.Goals as goal

pub returns : goal.returns
returns c = told is_plain_char is_month refl c.split.result.0 c.split.result.1 _ _ c.split.ensures
    c.is_month.ensures c.then_some.ensures
