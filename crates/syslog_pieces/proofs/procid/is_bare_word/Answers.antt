use Rattle.syslog_pieces.proofs.Names.{refl}
use Rattle.syslog_pieces.proofs.ProcIdLemmas.{bytes_bare}
use Rattle.syslog_pieces.proofs.procid.is_bare_word.Goals as goal

pub returns-then-leads_bare : goal.returns-then-leads_bare
returns-then-leads_bare c = (
  (λ _. bytes_bare c.args.name.now c.utf8.name (rw c.as_bytes.ensures.value at (c.if-leads_bare.ensures.0 refl))),
  (λ _. c.if-leads_bare.true),
)
