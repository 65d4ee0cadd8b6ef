use Rattle.syslog_tidy.proofs.Names.{arith, rules, sym, ◌∙◌, changed_word}
use Rattle.syslog_tidy.proofs.ArgumentLemmas.{two_words}
use Rattle.syslog_tidy.proofs.args.read_args.Goals as goal

pub returns-in_ok-read_year-in-len2 : goal.returns-in_ok-read_year-in-len2
returns-in_ok-read_year-in-len2 c = (
  _,
  two_words c.args.args.now _ _ changed_word (omega (arith, c.in-len2.len_at_least, c.in-len2.len_below))
      (sym c.eq.ensures ∙ c.if-eq.true),
  (c.in_ok-read_year-in-len2.ensures.0, search rules),
)
