use Rattle.syslog_pieces.proofs.Names.{refl, inl, inr, no_truth}
use Rattle.syslog_pieces.proofs.ProcIdLemmas.{name_bare, number_bare}
use Rattle.syslog_pieces.proofs.procid.prints_as_named.Goals as goal

pub returns-then-leads_bare : goal.returns-then-leads_bare
returns-then-leads_bare c =
    let bare = number_bare c.args.name.now c.utf8.name _ c.in-PID.ensures in (
      (λ _. bare.1 (inl (rw c.as_bytes.ensures.value at (c.if-leads_bare.ensures.0 refl)))),
      (λ _. c.if-leads_bare.true),
    )

pub returns-else-leads_bare : goal.returns-else-leads_bare
returns-else-leads_bare c =
    let bare = number_bare c.args.name.now c.utf8.name _ c.in-PID.ensures in (
      (λ negative. bare.1 (inr (rw c.as_bytes-else-leads_bare.ensures.value at (c.begins_negative.ensures.0
          negative)))),
      (λ same. elim (bare.0 same) [
        | inl lead ↦ absurd (no_truth ((rw c.as_bytes.ensures.value at c.if-leads_bare.ensures).1 lead))
        | inr negative ↦ (rw c.as_bytes-else-leads_bare.ensures.value at c.begins_negative.ensures).1 negative
      ]),
    )

pub returns-in-Name : goal.returns-in-Name
returns-in-Name c = ((λ _. name_bare _ _ c.in-Name.ensures), (λ _. refl))
