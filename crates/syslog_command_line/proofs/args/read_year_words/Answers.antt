use Rattle.syslog_command_line.proofs.Names.{arith, sym, ◌∙◌}
use Rattle.syslog_command_line.proofs.ArgumentLemmas.{year_after}
use Rattle.syslog_command_line.proofs.args.read_year_words.Goals as goal

pub returns-in-len2 : goal.returns-in-len2
returns-in-len2 c =
    year_after c.args.args.now _ _ c.read_year-in-len2.result
    (omega (arith, c.in-len2.len_at_least, c.in-len2.len_below))
    (sym c.eq.ensures ∙ c.if-eq.true) c.read_year-in-len2.ensures
