use Rattle.syslog_named_forms.proofs.Names.{codes}
use Rattle.syslog_sent.proofs.NamedLemmas.{no_longer}
use Rattle.syslog_named_forms.proofs.programs.forwarded_words.Goals as goal

pub returns-in_err-literal : goal.returns-in_err-literal
returns-in_err-literal c =
    rw c.from_residual.ensures (no_longer 77 (codes "essage forwarded from ") c.in_err-literal.ensures)
