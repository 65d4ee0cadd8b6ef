use Rattle.syslog_named_forms.proofs.Names.{[], ◌also◌, ◌∷◌, row_reads, slashed_row}
use Rattle.syslog_named_forms.proofs.Names.{of_forms}
use Rattle.syslog_named_forms.proofs.untagged.slashed.Goals as goal

pub returns : goal.returns
returns c = row_reads slashed_row (search of_forms depth 24) c.args.text
    (c.four_digits.result ∷ c.and_then.result ∷ c.and_then-2.result ∷ [])
    (c.four_digits.ensures also c.and_then.ensures also c.and_then-2.ensures also tt)
