use Rattle.syslog_pieces.proofs.TimestampLemmas.Decimals.{no_run_decimals, run_decimals}
use Rattle.syslog_pieces.proofs.timestamp.pairs.decimals.Goals as goal

pub returns-in_err-nanosecond : goal.returns-in_err-nanosecond
returns-in_err-nanosecond c = rw c.from_residual.ensures (no_run_decimals _ _ _ c.split_run.ensures
    (rw c.as_bytes.ensures.value at c.in_err-nanosecond.ensures))

pub returns : goal.returns
returns c = run_decimals _ _ _ c.split_run.ensures (rw c.as_bytes.ensures.value at c.in_ok-nanosecond.ensures)
