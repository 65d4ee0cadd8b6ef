use Rattle.syslog_dated_forms.proofs.Names.{run_clock_row}
use Rattle.syslog_dated_forms.proofs.RowLemmas.{run_clock_row_det}
use Rattle.syslog_dated_forms.proofs.ChainLemmas.{◌next◌, chain_row, end}
use Rattle.syslog_dated_forms.proofs.undated.clock_uptime.Goals as goal

pub returns : goal.returns
returns c = chain_row {Cs = run_clock_row} {x = c.args.text} run_clock_row_det
    (c.digits.ensures next c.and_then.ensures next c.and_then-2.ensures next c.and_then-3.ensures next
    c.and_then-4.ensures next c.and_then-5.ensures next c.and_then-6.ensures next end)
