use Rattle.syslog_named_forms.proofs.Names.{[], ◌also◌, ◌∷◌, row_reads}
use Rattle.syslog_named_forms.proofs.Names.{of_forms}
use Rattle.syslog_named_forms.specs.Unified.{thread_row}
use Rattle.syslog_named_forms.proofs.unified.thread_end.Goals as goal

pub returns : goal.returns
returns c = row_reads thread_row (search of_forms depth 24) c.args.text
    (c.hex_mark.result ∷ c.and_then.result ∷ c.and_then-2.result ∷ c.and_then-3.result ∷ c.and_then-4.result
    ∷ c.and_then-5.result ∷ c.and_then-6.result ∷ c.and_then-7.result ∷ [])
    (c.hex_mark.ensures also c.and_then.ensures also c.and_then-2.ensures also c.and_then-3.ensures
    also c.and_then-4.ensures also c.and_then-5.ensures also c.and_then-6.ensures also c.and_then-7.ensures also tt)
