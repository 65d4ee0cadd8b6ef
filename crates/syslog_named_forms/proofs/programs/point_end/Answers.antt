use Rattle.syslog_named_forms.proofs.Names.{[], ◌also◌, ◌∷◌, point_row, row_reads}
use Rattle.syslog_named_forms.proofs.Names.{of_forms}
use Rattle.syslog_named_forms.proofs.programs.point_end.Goals as goal

pub returns : goal.returns
returns c = row_reads point_row (search of_forms depth 24) c.args.text
    (c.topic.result ∷ c.and_then.result ∷ c.and_then-2.result ∷ c.and_then-3.result ∷ [])
    (c.topic.ensures also c.and_then.ensures also c.and_then-2.ensures also c.and_then-3.ensures also tt)
