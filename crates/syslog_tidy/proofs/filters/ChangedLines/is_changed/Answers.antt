use Rattle.syslog_tidy.proofs.Names.{rules, in_this_year}
use Rattle.syslog_tidy.proofs.filters.ChangedLines.is_changed.Goals as goal

pub returns : goal.returns
returns c =
    in_this_year c.reads_differently.ensures.reads c.args.self.now.year (search rules) (λ date y is. search (rules, is))
