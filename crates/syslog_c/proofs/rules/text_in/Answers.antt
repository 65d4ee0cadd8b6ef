use Rattle.syslog_c.proofs.Words.{◌+◌, inr}
use Rattle.std.proofs.Common.{drop}
use Rattle.syslog_lines.proofs.WholeLemmas.{first_ending}
use Rattle.syslog_c.proofs.rules.text_in.Goals as goal

pub returns-in-Some : goal.returns-in-Some
returns-in-Some c =
    let array = c.args.array.now in
    let (first, zero) = c.in-Some.ensures in
    let (free, split) = first_ending 0 array c.in-Some.end first zero in
    (free, inr (drop (c.in-Some.end + 1) array, split))
