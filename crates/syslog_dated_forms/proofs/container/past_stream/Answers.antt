use Rattle.syslog_dated_forms.proofs.Names.{stream_row}
use Rattle.syslog_dated_forms.proofs.RowLemmas.{stream_row_det}
use Rattle.syslog_dated_forms.proofs.ChainLemmas.{◌next◌, chain_row, end}
use Rattle.syslog_dated_forms.proofs.container.past_stream.Goals as goal

pub returns : goal.returns
returns c = chain_row {Cs = stream_row} {x = c.args.text} stream_row_det
    (c.stream.ensures next c.and_then.ensures next c.and_then-2.ensures next end)
