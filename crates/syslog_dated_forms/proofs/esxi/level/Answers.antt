use Rattle.syslog_dated_forms.proofs.Names.{is_plain_char, refl}
use Rattle.syslog_sent.proofs.NamedLemmas.{told}
use Rattle.syslog_dated_forms.specs.Esxi.{is_level}
use Rattle.syslog_dated_forms.proofs.esxi.level.Goals as goal

pub returns : goal.returns
returns c = told is_plain_char is_level refl c.split.result.0 c.split.result.1 _ _ c.split.ensures
    c.is_level.ensures c.then_some.ensures
