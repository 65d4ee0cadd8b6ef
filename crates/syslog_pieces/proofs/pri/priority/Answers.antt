use Rattle.syslog_pieces.proofs.Names.{inl, ◌past◌, rules, priority_row, row_of}
use Rattle.syslog_pieces.proofs.PriLemmas.{as_priority, no_priority}
use Rattle.syslog_pieces.proofs.pri.priority.Goals as goal

pub returns-in_err-rest : goal.returns-in_err-rest
returns-in_err-rest c = rw c.from_residual.ensures (no_priority (inl c.in_err-rest.ensures))

pub returns-in_err-value : goal.returns-in_err-value
returns-in_err-value c = rw c.from_residual-in_err-value.ensures (no_priority (search rules))

pub returns-in_err-rest-2 : goal.returns-in_err-rest-2
returns-in_err-rest-2 c =
    rw c.from_residual-in_err-rest-2.ensures (no_priority (c.in_ok-rest.ensures past (search rules)))

pub returns : goal.returns
returns c = as_priority (row_of priority_row (search rules))
