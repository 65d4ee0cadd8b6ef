use Rattle.syslog_lines.proofs.Names.{◌≡◌, ◌+◌, ◌-◌, ℕ, List, length, drop, arith, refl, take_rest}
use Rattle.syslog_lines.proofs.DigitLemmas.{few_octets}
use Rattle.syslog_lines.proofs.WholeLemmas.{open_free}
use Rattle.syslog_lines.proofs.frames.cut_message.Goals as goal

pub overflow_sub-result : goal.overflow_sub-result
overflow_sub-result c =
    let few = few_octets c.args.framing c.args.bytes.now _ _ c.in-Some.ensures.counted c.requires in
    rw (take_rest c.args.bytes.now c.in-Some.head) (omega (arith, few))

pub returns-in-Some : goal.returns-in-Some
returns-in-Some c =
    let few = few_octets c.args.framing c.args.bytes.now _ _ c.in-Some.ensures.counted c.requires in
    let rest : List ℕ = drop c.in-Some.head c.args.bytes.now in
    let total : c.in-Some.octets ≡ length rest + (c.in-Some.octets - length rest) = omega (arith, few) in
    rw (take_rest c.args.bytes.now c.in-Some.head) (omega (arith, few), rw total at c.in-Some.ensures.counted)

pub returns-in-None : goal.returns-in-None
returns-in-None c =
    (c.in-None.ensures.counted, open_free c.args.framing c.args.bytes.now c.in-None.ensures.counted c.requires, refl)
