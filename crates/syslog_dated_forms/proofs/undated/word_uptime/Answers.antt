use Rattle.syslog_dated_forms.proofs.Names.{run_word_row}
use Rattle.syslog_dated_forms.proofs.RowLemmas.{run_word_row_det}
use Rattle.syslog_dated_forms.proofs.ChainLemmas.{◌next◌, chain_row, end}
use Rattle.syslog_dated_forms.proofs.undated.word_uptime.Goals as goal

pub returns : goal.returns
returns c = chain_row {Cs = run_word_row} {x = c.args.text} run_word_row_det
    (c.uptime_word.ensures next c.and_then.ensures next c.and_then-2.ensures next end)
