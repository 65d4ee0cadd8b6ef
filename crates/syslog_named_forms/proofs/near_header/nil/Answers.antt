use Rattle.syslog_named_forms.proofs.Names.{dash, exactly, exactly_det}
use Rattle.syslog_sent.proofs.ZoneLemmas.{ended_front, no_ended, not_ended}
use Rattle.syslog_named_forms.proofs.near_header.nil.Goals as goal

pub returns-in_err-rest : goal.returns-in_err-rest
returns-in_err-rest c = rw c.from_residual.ensures (no_ended (exactly dash) c.in_err-rest.ensures)

pub returns-then-not-ends_word : goal.returns-then-not-ends_word
returns-then-not-ends_word c =
    not_ended (exactly dash) (exactly_det _) c.in_ok-rest.ensures c.if-not-ends_word.ensures

pub returns : goal.returns
returns c = (tt, ended_front (exactly dash) c.in_ok-rest.ensures c.if-not-ends_word.ensures)
