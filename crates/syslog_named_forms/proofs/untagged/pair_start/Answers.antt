use Rattle.syslog_named_forms.proofs.Names.{[], ◌also◌, ◌∷◌, pair_row, row_reads}
use Rattle.syslog_named_forms.proofs.Names.{of_forms}
use Rattle.syslog_named_forms.proofs.untagged.pair_start.Goals as goal

pub returns : goal.returns
returns c = row_reads pair_row (search of_forms depth 24) c.args.text
    (c.name_word.result ∷ c.and_then.result ∷ [])
    (c.name_word.ensures also c.and_then.ensures also tt)
