use Rattle.syslog_elements.proofs.{Names.rules, Names.nil_from_length, StructuredDataLemmas.Pairs.no_pairs_empty}
use Rattle.syslog_text.proofs.TextLemmas.Runs.{chars_empty}
use Rattle.syslog_elements.proofs.structured_data.pairs.pairs_len.Goals as goal

pub returns-then-is_empty : goal.returns-then-is_empty
returns-then-is_empty c = no_pairs_empty (nil_from_length _ (chars_empty c.args.text.now (search rules)))
