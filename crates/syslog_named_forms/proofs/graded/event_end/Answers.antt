use Rattle.syslog_named_forms.proofs.Names.{[], ◌also◌, ◌∷◌, row_reads}
use Rattle.syslog_named_forms.specs.Graded.{event_end_row}
use Rattle.syslog_named_forms.proofs.Names.{of_forms}
use Rattle.syslog_named_forms.proofs.graded.event_end.Goals as goal

pub returns : goal.returns
returns c = row_reads event_end_row (search of_forms depth 24) c.args.text
    (c.colon.result ∷ c.and_then.result ∷ c.and_then-2.result ∷ [])
    (c.colon.ensures also c.and_then.ensures also c.and_then-2.ensures also tt)
