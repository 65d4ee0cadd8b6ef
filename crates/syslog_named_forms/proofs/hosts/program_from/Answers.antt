use Rattle.syslog_named_forms.proofs.Names.{◌then◌, inl, mapped_front, NamedTexts, program_said, program_tail, refl}
use Rattle.syslog_named_forms.proofs.Names.{rest_front, Row, row_of, seen, unread}
use Rattle.syslog_named_forms.proofs.ReaderLemmas.{program_tail_det}
use Rattle.syslog_named_forms.proofs.hosts.program_from.Goals as goal

pub returns-in_err-program : goal.returns-in_err-program
returns-in_err-program c = rw (c.in_ok-text.was, c.from_residual-in_err-program.ensures)
    (unread program_tail program_tail_det NamedTexts (program_said (seen c.args.hostname))
    (inl c.in_err-program.ensures))

pub returns : goal.returns
returns c = rw (c.in_ok-text.was, c.tagged.ensures) (mapped_front (Row program_tail) NamedTexts
    (program_said (seen c.args.hostname))
    (row_of program_tail (c.in_ok-program.ensures then c.blanks.ensures then rest_front _ then refl)))
