use Rattle.syslog_dialects.proofs.Names.{[], ◌∷◌, exactly, exactly_det}
use Rattle.syslog_sent.proofs.ZoneLemmas.{ended_front, no_ended, not_ended}
use Rattle.syslog_dialects.proofs.ordinary.past_colon.Goals as goal

pub returns-in_err-rest : goal.returns-in_err-rest
returns-in_err-rest c = rw c.from_residual.ensures (no_ended (exactly (58 ∷ [])) c.in_err-rest.ensures)

pub returns-then-not-ends_word : goal.returns-then-not-ends_word
returns-then-not-ends_word c =
    not_ended (exactly (58 ∷ [])) (exactly_det _) c.in_ok-rest.ensures c.if-not-ends_word.ensures

pub returns : goal.returns
returns c = ended_front (exactly (58 ∷ [])) c.in_ok-rest.ensures c.if-not-ends_word.ensures
