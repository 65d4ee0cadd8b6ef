use Rattle.syslog_named_forms.proofs.Names.{counted_row, Row}
use Rattle.syslog_named_forms.proofs.ReaderLemmas.{begun}
use Rattle.syslog_named_forms.proofs.graded.counted.Goals as goal

pub returns : goal.returns
returns c = begun (Row counted_row) _ _ c.counted_end.result _ c.counted_end.ensures c.untagged_from.ensures
