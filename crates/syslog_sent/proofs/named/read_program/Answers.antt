use Rattle.syslog_text.proofs.PieceLemmas.Class.{◌past◌, ◌then◌, mapped_front, row_of}
use Rattle.syslog_text.specs.Pieces.Class.{Row}
use Rattle.std.proofs.Common.{inl, refl}
use Rattle.syslog_sent.proofs.NamedLemmas.{program_row_det, unread}
use Rattle.syslog_sent.specs.Named.{ProgramText, program_of, program_row}
use Rattle.syslog_sent.proofs.named.read_program.Goals as goal

pub returns-in_err-name : goal.returns-in_err-name
returns-in_err-name c = rw c.from_residual.ensures
    (unread program_row program_row_det ProgramText program_of (inl c.in_err-name.ensures))

pub returns-in_err-rest : goal.returns-in_err-rest
returns-in_err-rest c = rw c.from_residual-in_err-rest.ensures
    (unread program_row program_row_det ProgramText program_of
    (c.in_ok-name.ensures past c.optional_id.ensures past inl c.in_err-rest.ensures))

pub returns : goal.returns
returns c = mapped_front (Row program_row) ProgramText program_of
    (row_of program_row (c.in_ok-name.ensures then c.optional_id.ensures then c.in_ok-rest.ensures then refl))
