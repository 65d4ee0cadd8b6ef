use Rattle.syslog_pieces.proofs.Names.{arith, common_steps}
use Rattle.syslog_text.proofs.TextLemmas.Words.{last_of_more}
use Rattle.syslog_pieces.proofs.front.Ascii.+push_number.Goals as goal

pub returns-clause-text : goal.returns-clause-text
returns-clause-text t c =
    let more = last_of_more c.args.number (omega arith) (omega arith) in grind (arith, common_steps)
