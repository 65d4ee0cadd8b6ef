use Rattle.syslog_c.proofs.Words.{Ok, Err, ap, inr, refl, rules, IsUtf8-string_bytes}
use Rattle.std.specs.Str.{chars}
use Rattle.syslog_strict.specs.Pushing.{text_in}
use Rattle.syslog_c.proofs.LineLemmas.{not_text}
use Rattle.syslog_c.proofs.StrictLemmas.{strict_put}
use Rattle.syslog_c.proofs.strict.write_strict.Goals as goal

pub returns-in_default : goal.returns-in_default
returns-in_default c =
    inr (not_text _ _ _ _ (c.take.ensures.taken c.if-not-take.false) c.in_default.ensures (search rules) (search rules))

pub returns-in-Ok-to_rfc5424_sent : goal.returns-in-Ok-to_rfc5424_sent
returns-in-Ok-to_rfc5424_sent c =
    let value = c.as_bytes.ensures.value in
    strict_put _ _ _ _ (Ok _) (text_in c.to_rfc5424_sent.new.text) _ _ _ _
    (c.take.ensures.taken c.if-not-take.false) c.in-Ok.ensures c.in-Ok-to_rfc5424_sent.ensures
    (_, rw value (IsUtf8-string_bytes c.to_rfc5424_sent.new.text), ap chars value, c.put.ensures)

pub returns : goal.returns
returns c = strict_put _ _ _ _ (Err _) (text_in c.to_rfc5424_sent.new.text) _ _ _ _
    (c.take.ensures.taken c.if-not-take.false) c.in-Ok.ensures c.in-Err.ensures (c.outcome_of.ensures, (refl, refl))
