use Rattle.syslog_named_forms.proofs.Names.{◌past◌, ◌then◌, inl, mapped_front, NamedTexts, process_tail, refl}
use Rattle.syslog_named_forms.proofs.Names.{rest_front, Row, row_of, seen, shown, unread}
use Rattle.syslog_named_forms.specs.Hosts.{process_said}
use Rattle.syslog_named_forms.proofs.ReaderLemmas.{process_tail_det}
use Rattle.syslog_named_forms.proofs.hosts.process_from.Goals as goal

pub returns-in_err-id : goal.returns-in_err-id
returns-in_err-id c = rw (c.in_ok-name.was, c.from_residual-in_err-id.ensures)
    (unread process_tail process_tail_det NamedTexts (process_said (seen c.args.hostname) (shown c.in_ok-name.name))
    (inl c.in_err-id.ensures))

pub returns-in_err-rest : goal.returns-in_err-rest
returns-in_err-rest c = rw (c.in_ok-name.was, c.from_residual-in_err-rest.ensures)
    (unread process_tail process_tail_det NamedTexts (process_said (seen c.args.hostname) (shown c.in_ok-name.name))
    (c.in_ok-id.ensures past inl c.in_err-rest.ensures))

pub returns : goal.returns
returns c = rw (c.in_ok-name.was, c.tagged.ensures) (mapped_front (Row process_tail) NamedTexts
    (process_said (seen c.args.hostname) (shown c.in_ok-name.name)) (row_of process_tail
    (c.in_ok-id.ensures then c.in_ok-rest.ensures.1 then c.blanks.ensures then rest_front _ then refl)))
