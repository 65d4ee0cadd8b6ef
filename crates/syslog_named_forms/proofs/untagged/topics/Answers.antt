use Rattle.syslog_named_forms.proofs.Names.{[], ◌also◌, ◌∷◌, row_reads, topics_row}
use Rattle.syslog_named_forms.proofs.Names.{of_forms}
use Rattle.syslog_named_forms.proofs.untagged.topics.Goals as goal

pub returns : goal.returns
returns c = row_reads topics_row (search of_forms depth 24) c.args.text (c.topic.result ∷ c.and_then.result ∷ [])
    (c.topic.ensures also c.and_then.ensures also tt)
