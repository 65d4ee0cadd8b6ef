use Rattle.syslog_named_forms.proofs.Names.{[], ◌also◌, ◌∷◌, later_topic_row, row_reads}
use Rattle.syslog_named_forms.proofs.Names.{of_forms}
use Rattle.syslog_named_forms.proofs.untagged.later_topic.Goals as goal

pub returns : goal.returns
returns c = row_reads later_topic_row (search of_forms depth 24) c.args.text (c.topic.result ∷ c.and_then.result ∷ [])
    (c.topic.ensures also c.and_then.ensures also tt)
