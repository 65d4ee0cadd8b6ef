use Rattle.std.proofs.lemmas.Bool.{iff_false}
use Rattle.syslog_tidy.proofs.ArgumentLemmas.{no_task}
use Rattle.syslog_tidy.proofs.args.read_task.Goals as goal

pub returns-in_err-output : goal.returns-in_err-output
returns-in_err-output c =
    rw c.from_residual.ensures (no_task _ (iff_false c.is_alone.ensures c.if-is_alone.false)
    (iff_false c.is_alone-2.ensures c.if-is_alone-2.false) c.in_err-output.ensures)
