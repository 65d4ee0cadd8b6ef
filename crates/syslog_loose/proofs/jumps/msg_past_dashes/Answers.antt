use Rattle.syslog_loose.proofs.Names.{ap, refl, arith, shown, no_truth, line_value, protocol_of}
use Rattle.syslog_loose.proofs.SettlingLemmas.Settles.{dashes_later}
use Rattle.syslog_loose.proofs.jumps.msg_past_dashes.Goals as goal

pub returns-then-not-has_quiet_names : goal.returns-then-not-has_quiet_names
returns-then-not-has_quiet_names c = λ variant dating input r e.
    dashes_later variant dating input (line_value c.args.line.now) r (ap protocol_of e)
    0 _ refl (λ l. absurd (omega arith))
    (λ quiet none. absurd (no_truth (c.if-not-has_quiet_names.ensures.1 quiet))) c.requires

pub returns-then-not-is_empty : goal.returns-then-not-is_empty
returns-then-not-is_empty c = λ variant dating input r e.
    dashes_later variant dating input (line_value c.args.line.now) r (ap protocol_of e)
    0 _ refl (λ l. absurd (omega arith))
    (λ quiet none. absurd (c.if-not-is_empty.ensures none)) c.requires

pub returns : goal.returns
returns c = λ variant dating input r e.
    let (n, p) = c.last_dash.ensures.passes in
    dashes_later variant dating input (line_value c.args.line.now) r (ap protocol_of e) n (shown c.last_dash.result) p
    (λ l. (c.if-not-has_quiet_names.ensures.0 refl, c.if-not-is_empty.ensures))
    (λ quiet none. c.last_dash.ensures.last) c.requires
