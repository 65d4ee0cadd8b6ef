use Rattle.syslog_named_forms.proofs.Names.{is_tag_char, opens_address, refl, told}
use Rattle.syslog_named_forms.proofs.devices.point_word.Goals as goal

pub returns : goal.returns
returns c = told is_tag_char opens_address refl c.split_run.result.0 c.split_run.result.1 _ _ c.split_run.ensures
    c.opens_address.ensures c.then_some.ensures
