use Rattle.syslog_tidy.proofs.ArgumentLemmas.{no_arguments}
use Rattle.syslog_tidy.proofs.args.read_lines.Goals as goal

pub returns-in_err-year : goal.returns-in_err-year
returns-in_err-year c = rw c.from_residual.ensures
    (no_arguments _ _ _ c.read_flag-output.ensures.split c.read_flag-output.ensures.only c.in_err-year.ensures)
