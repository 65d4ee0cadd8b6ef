use Rattle.syslog_tidy.proofs.Names.{rules, in_this_year}
use Rattle.syslog_tidy.proofs.FilterLemmas.{settles_as, unreadable_is_invalid}
use Rattle.syslog_tidy.proofs.filters.Tidy.settle_line.Goals as goal

pub returns-clause-settles : goal.returns-clause-settles
returns-clause-settles c = settles_as _ _ _ c.settle_into.result
    (in_this_year c.settle_into.ensures.settles c.args.self.now.year (search rules) (λ date y is. search (rules, is)))

pub returns-clause-refusal : goal.returns-clause-refusal
returns-clause-refusal c = unreadable_is_invalid _ _ c.settle_into.new.text c.settle_into.result
    (in_this_year c.settle_into.ensures.settles c.args.self.now.year (search rules) (λ date y is. search (rules, is)))
