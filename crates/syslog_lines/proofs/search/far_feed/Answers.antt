use Rattle.syslog_lines.proofs.FeedLemmas.{none_at_all, none_before}
use Rattle.syslog_lines.proofs.search.far_feed.Goals as goal

pub returns-in-Some-clause-before : goal.returns-in-Some-clause-before
returns-in-Some-clause-before c =
    none_before c.args.bytes.now c.args.from c.requires.before c.in-Some.feed c.in-Some.ensures.0.before

pub returns-in-None-clause-before : goal.returns-in-None-clause-before
returns-in-None-clause-before c =
    none_at_all c.args.bytes.now c.args.from c.requires.before c.in-None.ensures
