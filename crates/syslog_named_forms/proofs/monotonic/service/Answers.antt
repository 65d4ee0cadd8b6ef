use Rattle.syslog_named_forms.proofs.Names.{◌∙◌, IsTrue, no_such_front, no_such_meaning, program, program_det}
use Rattle.syslog_named_forms.proofs.Names.{such_front, sym}
use Rattle.std.specs.Prelude.{◌≡◌, false, true}
use Rattle.syslog_sent.specs.Named.{ProgramText}
use Rattle.syslog_named_forms.specs.Monotonic.{is_service}
use Rattle.syslog_named_forms.proofs.monotonic.service.Goals as goal

abbrev Fits : ProgramText → Type 0
Fits p = IsTrue (is_service p)

pub returns-in_err-program : goal.returns-in_err-program
returns-in_err-program c = rw c.from_residual.ensures (no_such_front program Fits c.in_err-program.ensures)

pub returns-then-is_service : goal.returns-then-is_service
returns-then-is_service c = such_front program Fits c.in_ok-program.ensures (sym c.if-is_service.ensures)

pub returns-else-is_service : goal.returns-else-is_service
returns-else-is_service c = no_such_meaning program Fits program_det c.in_ok-program.ensures
    (λ is. (let bad : false ≡ true = c.if-is_service.ensures ∙ is in cc))
