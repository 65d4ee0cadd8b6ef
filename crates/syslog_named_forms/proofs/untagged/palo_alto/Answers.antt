use Rattle.syslog_named_forms.proofs.Names.{[], ◌also◌, ◌∷◌, palo_alto_row, row_reads}
use Rattle.syslog_named_forms.proofs.Names.{of_forms}
use Rattle.syslog_named_forms.proofs.untagged.palo_alto.Goals as goal

pub returns : goal.returns
returns c = row_reads palo_alto_row (search of_forms depth 24) c.args.text
    (c.digits.result ∷ c.and_then.result ∷ c.and_then-2.result ∷ c.and_then-3.result ∷ c.and_then-4.result
    ∷ c.and_then-5.result ∷ c.and_then-6.result ∷ c.and_then-7.result ∷ c.and_then-8.result
    ∷ c.and_then-9.result ∷ [])
    (c.digits.ensures also c.and_then.ensures also c.and_then-2.ensures also c.and_then-3.ensures also
    c.and_then-4.ensures also c.and_then-5.ensures also c.and_then-6.ensures also c.and_then-7.ensures also
    c.and_then-8.ensures also c.and_then-9.ensures also tt)
