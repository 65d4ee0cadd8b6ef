use Rattle.syslog_strict.proofs.Words.{refl, sym, ◌∙◌}
use Rattle.syslog_strict.proofs.{NameLemmas.host_stays, TextLemmas.appended}
use Rattle.syslog_strict.proofs.names.push_host_text.Goals as goal

pub returns-then-not-ends_in_colon : goal.returns-then-not-ends_in_colon
returns-then-not-ends_in_colon c = appended c.push_text.result _ _ _ _
    (sym (host_stays c.args.host.now c.utf8.host (c.if-is_kept.ensures refl) (λ front e.
    c.if-not-ends_in_colon.ensures front (c.as_bytes.ensures.value ∙ e)))) c.push_text.ensures
