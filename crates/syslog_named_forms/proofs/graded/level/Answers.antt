use Rattle.syslog_named_forms.proofs.Names.{[], ◌also◌, ◌∷◌, always_on, is_blank, level_row, row_reads, run}
use Rattle.syslog_named_forms.proofs.Names.{of_forms}
use Rattle.syslog_named_forms.proofs.graded.level.Goals as goal

pub returns : goal.returns
returns c = row_reads level_row (search of_forms depth 24) c.args.text
    (c.open_square.result ∷ c.and_then.result ∷ c.map.result ∷ c.and_then-2.result ∷ [])
    (c.open_square.ensures also c.and_then.ensures also always_on
    (run is_blank) c.and_then.result c.map.result c.map.ensures.cases also c.and_then-2.ensures also tt)
