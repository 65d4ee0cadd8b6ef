use Rattle.syslog_named_forms.proofs.Names.{[], ◌also◌, ◌∷◌, repeats_row, row_reads}
use Rattle.syslog_named_forms.proofs.Names.{of_forms}
use Rattle.syslog_named_forms.proofs.untagged.repeats.Goals as goal

pub returns : goal.returns
returns c = row_reads repeats_row (search of_forms depth 24) c.args.text
    (c.repeats_words.result ∷ c.and_then.result ∷ c.and_then-2.result ∷ [])
    (c.repeats_words.ensures also c.and_then.ensures also c.and_then-2.ensures also tt)
