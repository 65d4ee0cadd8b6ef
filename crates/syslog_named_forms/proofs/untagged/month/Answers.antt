use Rattle.syslog_named_forms.proofs.Names.{[], ◌also◌, ◌∷◌, month_row, row_reads}
use Rattle.syslog_named_forms.proofs.Names.{of_forms}
use Rattle.syslog_named_forms.proofs.untagged.month.Goals as goal

pub returns : goal.returns
returns c = row_reads month_row (search of_forms depth 24) c.args.text
    (c.month_word.result ∷ c.and_then.result ∷ c.and_then-2.result ∷ c.and_then-3.result ∷ c.and_then-4.result
    ∷ c.and_then-5.result ∷ [])
    (c.month_word.ensures also c.and_then.ensures also c.and_then-2.ensures also c.and_then-3.ensures
    also c.and_then-4.ensures also c.and_then-5.ensures also tt)
