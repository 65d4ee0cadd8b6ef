use Rattle.syslog_strict.proofs.ConversionLaws.{text_stays}
use Rattle.syslog_strict.proofs.laws.converted_text_stays.Goals as goal

pub returns-clause-text : goal.returns-clause-text
returns-clause-text c = text_stays
