use Rattle.syslog_lines.proofs.Names.{drop, eqb-true, take_rest}
use Rattle.syslog_lines.proofs.WholeLemmas.{ended_whole, first_ending, no_ending, not_ended}
use Rattle.syslog_lines.specs.Frames.{ending_of}
use Rattle.syslog_lines.proofs.frames.ended_frame.Goals as goal

pub returns-in-Some-clause-whole : goal.returns-in-Some-clause-whole
returns-in-Some-clause-whole c =
    let rest = drop c.args.seen c.args.bytes.now in
    let (first, last) = rw (take_rest c.args.bytes.now c.args.seen, c.ending.ensures) at c.in-Some.ensures in
    ended_whole c.args.framing c.args.bytes.now c.args.seen c.requires.none c.requires.open c.in-Some.end first.high
    (first_ending (ending_of c.args.framing) rest c.in-Some.end first last).0 (eqb-true _ _ last)

pub returns-in-None-clause-whole : goal.returns-in-None-clause-whole
returns-in-None-clause-whole c =
    let none = rw (take_rest c.args.bytes.now c.args.seen, c.ending.ensures) at c.in-None.ensures in
    not_ended c.args.framing c.args.bytes.now c.args.seen c.requires.none c.requires.open
    (no_ending (ending_of c.args.framing) (drop c.args.seen c.args.bytes.now) none)
