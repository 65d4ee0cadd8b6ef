use Rattle.syslog_named_forms.proofs.Names.{[], ◌also◌, ◌∷◌, hardware_row, row_reads}
use Rattle.syslog_named_forms.proofs.Names.{of_forms}
use Rattle.syslog_named_forms.proofs.graded.hardware.Goals as goal

pub returns : goal.returns
returns c = row_reads hardware_row (search of_forms depth 24) c.args.text
    (c.plain_word.result ∷ c.and_then.result ∷ c.and_then-2.result ∷ c.and_then-3.result ∷ c.and_then-4.result
    ∷ c.and_then-5.result ∷ c.and_then-6.result ∷ c.and_then-7.result ∷ c.and_then-8.result ∷ c.and_then-9.result
    ∷ c.and_then-10.result ∷ [])
    (c.plain_word.ensures also c.and_then.ensures also c.and_then-2.ensures also c.and_then-3.ensures
    also c.and_then-4.ensures also c.and_then-5.ensures also c.and_then-6.ensures also c.and_then-7.ensures
    also c.and_then-8.ensures also c.and_then-9.ensures also c.and_then-10.ensures also tt)
