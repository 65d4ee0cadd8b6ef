use Rattle.syslog_named_forms.proofs.Names.{no_texted, Row, threads_row}
use Rattle.syslog_named_forms.proofs.ProgramLemmas.{named}
use Rattle.syslog_named_forms.proofs.graded.threads.Goals as goal

pub returns-in_err-rest : goal.returns-in_err-rest
returns-in_err-rest c = rw c.from_residual.ensures (no_texted (Row threads_row) c.in_err-rest.ensures)

pub before-id-requires : goal.before-id-requires
before-id-requires c = let (v, f) = c.in_ok-rest.ensures in (f.piece, f.whole)

pub returns : goal.returns
returns c = let (v, f) = c.in_ok-rest.ensures in named (Row threads_row) f c.before-id.ensures
