use Rattle.syslog_named_forms.proofs.Names.{[], ◌also◌, ◌∷◌, row_reads}
use Rattle.syslog_named_forms.specs.Untagged.{clock_row}
use Rattle.syslog_named_forms.proofs.Names.{of_forms}
use Rattle.syslog_named_forms.proofs.untagged.clock.Goals as goal

pub returns : goal.returns
returns c = row_reads clock_row (search of_forms depth 24) c.args.text
    (c.day.result ∷ c.and_then.result ∷ c.and_then-2.result ∷ c.and_then-3.result ∷ [])
    (c.day.ensures also c.and_then.ensures also c.and_then-2.ensures also c.and_then-3.ensures also tt)
