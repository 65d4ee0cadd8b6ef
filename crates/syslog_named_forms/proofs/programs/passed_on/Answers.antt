use Rattle.syslog_named_forms.proofs.Names.{◌past◌, ◌then◌, forwarded_row, inl, mapped_front, NamedTexts, refl}
use Rattle.syslog_named_forms.proofs.Names.{rest_front, Row, row_of, unread}
use Rattle.syslog_named_forms.proofs.RowLemmas.{forwarded_det}
use Rattle.syslog_named_forms.specs.Programs.{forwarded_of}
use Rattle.syslog_named_forms.proofs.programs.passed_on.Goals as goal

pub returns-in_err-rest : goal.returns-in_err-rest
returns-in_err-rest c = rw c.from_residual.ensures
    (unread forwarded_row forwarded_det NamedTexts forwarded_of (inl c.in_err-rest.ensures))

pub returns-in_err-hostname : goal.returns-in_err-hostname
returns-in_err-hostname c = rw c.from_residual-in_err-hostname.ensures
    (unread forwarded_row forwarded_det NamedTexts forwarded_of
    (c.in_ok-rest.ensures.1 past inl c.in_err-hostname.ensures))

pub returns-in_err-rest-2 : goal.returns-in_err-rest-2
returns-in_err-rest-2 c = rw c.from_residual-in_err-rest-2.ensures
    (unread forwarded_row forwarded_det NamedTexts forwarded_of
    (c.in_ok-rest.ensures.1 past c.in_ok-hostname.ensures past inl c.in_err-rest-2.ensures))

pub returns : goal.returns
returns c = rw c.sent_at.ensures (mapped_front (Row forwarded_row) NamedTexts forwarded_of
    (row_of forwarded_row (c.in_ok-rest.ensures.1 then c.in_ok-hostname.ensures then c.in_ok-rest-2.ensures then
    c.blanks.ensures then c.optional_program.ensures then c.blanks-2.ensures then rest_front _ then refl)))
