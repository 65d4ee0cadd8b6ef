use Rattle.syslog_named_forms.proofs.Names.{[], ◌also◌, ◌∷◌, kept_row, row_reads}
use Rattle.syslog_named_forms.proofs.Names.{of_forms}
use Rattle.syslog_named_forms.proofs.unified.kept.Goals as goal

pub returns : goal.returns
returns c = row_reads kept_row (search of_forms depth 24) c.args.text (c.digits.result ∷ c.and_then.result ∷ [])
    (c.digits.ensures also c.and_then.ensures also tt)
