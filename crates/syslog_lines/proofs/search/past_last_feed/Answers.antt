use Rattle.syslog_lines.proofs.Names.{◌+◌, arith}
use Rattle.syslog_lines.proofs.FeedLemmas.{none_at_all, others_on}
use Rattle.syslog_lines.proofs.search.past_last_feed.Goals as goal

pub returns-in-Some-clause-open : goal.returns-in-Some-clause-open
returns-in-Some-clause-open c = λ k low.
    others_on c.args.bytes.now c.args.from (c.in-Some.feed + 1) c.in-Some.ensures.0.after k (omega arith)

pub returns-in-None-clause-open : goal.returns-in-None-clause-open
returns-in-None-clause-open c = λ k low high.
    none_at_all c.args.bytes.now c.args.from c.requires.before c.in-None.ensures k high
