use Rattle.syslog_elements.proofs.Names.{arith}
use Rattle.syslog_elements.proofs.StructuredDataLemmas.Closing.{quoted_longer, quoted_cut, quoted_value}
use Rattle.syslog_elements.proofs.structured_data.recognise.value_before.Goals as goal

pub overflow_sub-text : goal.overflow_sub-text
overflow_sub-text c = omega (arith, quoted_longer _ _ c.utf8.text c.utf8.rest _ c.requires.1)

pub overflow_sub-text-2 : goal.overflow_sub-text-2
overflow_sub-text-2 c = omega (arith, quoted_longer _ _ c.utf8.text c.utf8.rest _ c.requires.1)

pub split_at-requires : goal.split_at-requires
split_at-requires c = quoted_cut _ _ c.utf8.text c.utf8.rest _ c.requires.1

pub returns : goal.returns
returns c = quoted_value _ _ c.utf8.text c.utf8.rest _ c.requires.1 _ c.split_at.ensures.front
