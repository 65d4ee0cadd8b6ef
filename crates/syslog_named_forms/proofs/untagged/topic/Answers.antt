use Rattle.syslog_named_forms.proofs.Names.{[], ◌also◌, ◌∷◌, row_reads, topic_row}
use Rattle.syslog_named_forms.proofs.Names.{of_forms}
use Rattle.syslog_named_forms.proofs.untagged.topic.Goals as goal

pub returns : goal.returns
returns c = row_reads topic_row (search of_forms depth 24) c.args.text (c.plain_word.result ∷ c.and_then.result ∷ [])
    (c.plain_word.ensures also c.and_then.ensures also tt)
