use Rattle.syslog_lines.proofs.Names.{◌≡◌, ◌+◌, ◌-◌, arith}
use Rattle.syslog_lines.proofs.WholeLemmas.{counted_cut, counted_whole}
use Rattle.syslog_lines.proofs.frames.whole_frame.Goals as goal

pub returns-then-octets-bytes-clause-whole : goal.returns-then-octets-bytes-clause-whole
returns-then-octets-bytes-clause-whole c =
    counted_cut c.args.framing c.args.bytes.now c.in-Some.head c.in-Some.octets c.in-Some.ensures.within
    c.in-Some.ensures.counted (omega arith)

pub returns-clause-whole : goal.returns-clause-whole
returns-clause-whole c =
    let size : c.in-Some.head + c.in-Some.octets - c.in-Some.head ≡ c.in-Some.octets = omega arith in
    rw size (counted_whole c.args.framing c.args.bytes.now c.in-Some.head c.in-Some.octets c.in-Some.ensures.within
    c.in-Some.ensures.counted c.if-octets-bytes.false)
