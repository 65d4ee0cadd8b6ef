use Rattle.syslog_named_forms.proofs.Names.{[], ◌also◌, ◌∷◌, dashed_row, row_reads}
use Rattle.syslog_named_forms.proofs.Names.{of_forms}
use Rattle.syslog_named_forms.proofs.untagged.dashed.Goals as goal

pub returns : goal.returns
returns c = row_reads dashed_row (search of_forms depth 24) c.args.text
    (c.four_digits.result ∷ c.and_then.result ∷ c.and_then-2.result ∷ [])
    (c.four_digits.ensures also c.and_then.ensures also c.and_then-2.ensures also tt)
