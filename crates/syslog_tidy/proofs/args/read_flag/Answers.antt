use Rattle.syslog_tidy.proofs.Names.{sym, ◌∙◌, changed_word, refused_word}
use Rattle.syslog_tidy.proofs.ArgumentLemmas.{flag_first}
use Rattle.syslog_tidy.proofs.args.read_flag.Goals as goal

pub returns-in-len1-up-clause-split : goal.returns-in-len1-up-clause-split
returns-in-len1-up-clause-split c =
    flag_first c.args.args.now _ changed_word c.in-len1-up.len_at_least (sym c.eq.ensures ∙ c.if-eq.true)

pub returns-in-len1-up-2-clause-split : goal.returns-in-len1-up-2-clause-split
returns-in-len1-up-2-clause-split c =
    flag_first c.args.args.now _ refused_word c.in-len1-up.len_at_least (sym c.eq-2.ensures ∙ c.if-eq-2.true)
