use Rattle.syslog_lines.proofs.Names.{arith}
use Rattle.syslog_lines.proofs.DigitLemmas.{count_ends, count_within}
use Rattle.syslog_lines.proofs.frames.octet_count.Goals as goal

pub returns-then-size-bytes-clause-counted : goal.returns-then-size-bytes-clause-counted
returns-then-size-bytes-clause-counted c = λ octets rest (on, digits, count, same). omega (
  arith,
  c.if-size-bytes.true,
  count_within c.args.bytes.now _ _ c.read_digits-size.ensures digits octets rest count same,
)

pub returns-then-bytes-size-ne32-clause-counted : goal.returns-then-bytes-size-ne32-clause-counted
returns-then-bytes-size-ne32-clause-counted c = λ octets rest (on, digits, count, same). c.if-bytes-size-ne32.true
    (count_ends c.args.bytes.now _ _ c.read_digits-size.ensures digits octets rest count same)
