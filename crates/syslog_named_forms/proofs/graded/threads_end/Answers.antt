use Rattle.syslog_named_forms.proofs.Names.{[], ◌also◌, ◌∷◌, row_reads, threads_row}
use Rattle.syslog_named_forms.proofs.Names.{of_forms}
use Rattle.syslog_named_forms.proofs.graded.threads_end.Goals as goal

pub returns : goal.returns
returns c = row_reads threads_row (search of_forms depth 24) c.args.text
    (c.digits.result ∷ c.and_then.result ∷ c.and_then-2.result ∷ [])
    (c.digits.ensures also c.and_then.ensures also c.and_then-2.ensures also tt)
