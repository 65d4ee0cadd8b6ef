use Rattle.syslog_named_forms.proofs.Names.{◌past◌, ◌then◌, graded_row, inl, mapped_front, NamedTexts, refl, rest_front}
use Rattle.syslog_named_forms.proofs.Names.{Row, row_of, unread}
use Rattle.syslog_named_forms.specs.Graded.{graded_of}
use Rattle.syslog_named_forms.proofs.RowLemmas.{graded_det}
use Rattle.syslog_named_forms.proofs.graded.graded.Goals as goal

pub returns-in_err-after_grade : goal.returns-in_err-after_grade
returns-in_err-after_grade c = rw c.from_residual.ensures (unread graded_row graded_det NamedTexts graded_of
    (inl c.in_err-after_grade.ensures))

pub returns-in_err-at_host : goal.returns-in_err-at_host
returns-in_err-at_host c = rw c.from_residual-in_err-at_host.ensures (unread graded_row graded_det NamedTexts graded_of
    (c.in_ok-after_grade.ensures.1 past inl c.in_err-at_host.ensures))

pub returns-in_err-hostname : goal.returns-in_err-hostname
returns-in_err-hostname c = rw c.from_residual-in_err-hostname.ensures
    (unread graded_row graded_det NamedTexts graded_of
    (c.in_ok-after_grade.ensures.1 past c.in_ok-at_host.ensures past inl c.in_err-hostname.ensures))

pub returns-in_err-at_program : goal.returns-in_err-at_program
returns-in_err-at_program c = rw c.from_residual-in_err-at_program.ensures
    (unread graded_row graded_det NamedTexts graded_of
    (c.in_ok-after_grade.ensures.1 past c.in_ok-at_host.ensures past c.in_ok-hostname.ensures
    past inl c.in_err-at_program.ensures))

pub returns-in_err-program : goal.returns-in_err-program
returns-in_err-program c = rw c.from_residual-in_err-program.ensures (unread graded_row graded_det NamedTexts graded_of
    (c.in_ok-after_grade.ensures.1 past c.in_ok-at_host.ensures past c.in_ok-hostname.ensures
    past c.in_ok-at_program.ensures past inl c.in_err-program.ensures))

pub returns : goal.returns
returns c = rw c.tagged.ensures (mapped_front (Row graded_row) NamedTexts graded_of (row_of graded_row
    (c.in_ok-after_grade.ensures.1 then c.in_ok-at_host.ensures then c.in_ok-hostname.ensures
    then c.in_ok-at_program.ensures then c.in_ok-program.ensures then c.blanks.ensures then rest_front _ then refl)))
