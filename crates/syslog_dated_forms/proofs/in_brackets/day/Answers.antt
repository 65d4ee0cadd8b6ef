use Rattle.syslog_dated_forms.proofs.Names.{day_row}
use Rattle.syslog_dated_forms.proofs.InBracketsLemmas.{day_det}
use Rattle.syslog_dated_forms.proofs.ChainLemmas.{◌next◌, chain_row, end}
use Rattle.syslog_dated_forms.proofs.in_brackets.day.Goals as goal

pub returns : goal.returns
returns c = chain_row {Cs = day_row} {x = c.args.text} day_det
    (c.weekday.ensures next c.and_then.ensures next end)
