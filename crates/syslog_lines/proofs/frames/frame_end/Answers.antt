use Rattle.syslog_lines.proofs.Names.{◌≡◌, arith}
use Rattle.syslog_lines.proofs.WholeLemmas.{ends_ending, ends_octets, goes_on_ending}
use Rattle.syslog_lines.proofs.frames.frame_end.Goals as goal

pub returns-in-Some-2-clause-ends : goal.returns-in-Some-2-clause-ends
returns-in-Some-2-clause-ends c =
    let same : c.in-Some-2.left ≡ c.in-Some.left = cc (c.in-Some-2.is, c.in-Some.is) in
    rw c.in-Some-2.is (ends_octets c.args.framing c.args.bytes.now c.in-Some-2.left (omega (arith, same)))

pub returns-in-Some-memchr-clause-ends : goal.returns-in-Some-memchr-clause-ends
returns-in-Some-memchr-clause-ends c =
    let (first, at) = rw c.ending.ensures at c.in-Some-memchr.ensures in
    rw c.in-None.is (ends_ending c.args.framing c.args.bytes.now c.in-Some-memchr.end first at)

pub returns-in-None-memchr-clause-ends : goal.returns-in-None-memchr-clause-ends
returns-in-None-memchr-clause-ends c =
    rw c.in-None.is (goes_on_ending c.args.framing c.args.bytes.now (rw c.ending.ensures at c.in-None-memchr.ensures))
