use Rattle.syslog_text.proofs.Names.{arith}
use Rattle.syslog_text.proofs.TextLemmas.Words.{pairs_at}
use Rattle.syslog_text.proofs.text.write_ascii.two_digits.Goals as goal

pub returns-clause-ascii : goal.returns-clause-ascii
returns-clause-ascii c =
    let (tens, ones) = pairs_at c.args.n c.requires in (omega (arith, tens), (omega (arith, ones), tt))
