use Rattle.syslog_strict.proofs.ConversionLaws.{converted_strict}
use Rattle.syslog_strict.proofs.laws.converted_text_is_in_the_grammar.Goals as goal

pub returns : goal.returns
returns c = converted_strict
