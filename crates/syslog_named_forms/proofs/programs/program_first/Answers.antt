use Rattle.syslog_named_forms.proofs.Names.{◌past◌, ◌then◌, hostless_of, hostless_row, inl, mapped_front, NamedTexts}
use Rattle.syslog_named_forms.proofs.Names.{refl, rest_front, Row, row_of, unread}
use Rattle.syslog_named_forms.proofs.RowLemmas.{hostless_det}
use Rattle.syslog_named_forms.proofs.programs.program_first.Goals as goal

pub returns-in_err-program : goal.returns-in_err-program
returns-in_err-program c = rw c.from_residual.ensures
    (unread hostless_row hostless_det NamedTexts hostless_of (inl c.in_err-program.ensures))

pub returns-in_err-msg : goal.returns-in_err-msg
returns-in_err-msg c = rw c.from_residual-in_err-msg.ensures
    (unread hostless_row hostless_det NamedTexts hostless_of (c.in_ok-program.ensures past inl c.in_err-msg.ensures))

pub returns : goal.returns
returns c = rw c.tagged.ensures (mapped_front (Row hostless_row) NamedTexts hostless_of
    (row_of hostless_row (c.in_ok-program.ensures then c.in_ok-msg.ensures then rest_front _ then refl)))
