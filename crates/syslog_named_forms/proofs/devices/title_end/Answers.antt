use Rattle.syslog_named_forms.proofs.Names.{[], ◌also◌, ◌∷◌, row_reads, title_row}
use Rattle.syslog_named_forms.proofs.Names.{of_forms}
use Rattle.syslog_named_forms.proofs.devices.title_end.Goals as goal

pub returns : goal.returns
returns c = row_reads title_row (search of_forms depth 24) c.args.text
    (c.board.result ∷ c.and_then.result ∷ [])
    (c.board.ensures also c.and_then.ensures also tt)
