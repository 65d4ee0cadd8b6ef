use Rattle.syslog_dialects.proofs.Names.{◌past◌, ◌then◌, inl, no_row, no_row_division, program_row, program_sent, refl}
use Rattle.syslog_dialects.proofs.Names.{rest_front, row_of, says_once}
use Rattle.syslog_dialects.proofs.PriorityAloneLemmas.{program_alone_det}
use Rattle.syslog_sent.specs.declared.dialect.Dialect.TheVariants.{NoHost}
use Rattle.syslog_dialects.proofs.priority_alone.read_program_alone.Goals as goal

pub returns-in_err-app : goal.returns-in_err-app
returns-in_err-app c = rw c.from_residual.ensures (no_row_division program_row
    (no_row program_row program_alone_det (c.blanks-begun.ensures past inl c.in_err-app.ensures)))

pub returns-in_err-after_open : goal.returns-in_err-after_open
returns-in_err-after_open c = rw c.from_residual-in_err-after_open.ensures (no_row_division program_row
    (no_row program_row program_alone_det (c.blanks-begun.ensures past c.in_ok-app.ensures past inl
    c.in_err-after_open.ensures)))

pub returns-in_err-id : goal.returns-in_err-id
returns-in_err-id c = rw c.from_residual-in_err-id.ensures (no_row_division program_row
    (no_row program_row program_alone_det (c.blanks-begun.ensures past c.in_ok-app.ensures past
    c.in_ok-after_open.ensures past inl c.in_err-id.ensures)))

pub returns-in_err-after_close : goal.returns-in_err-after_close
returns-in_err-after_close c = rw c.from_residual-in_err-after_close.ensures (no_row_division program_row
    (no_row program_row program_alone_det (c.blanks-begun.ensures past c.in_ok-app.ensures past
    c.in_ok-after_open.ensures past c.in_ok-id.ensures past inl c.in_err-after_close.ensures)))

pub returns-in_err-after_tag : goal.returns-in_err-after_tag
returns-in_err-after_tag c = rw c.from_residual-in_err-after_tag.ensures (no_row_division program_row
    (no_row program_row program_alone_det (c.blanks-begun.ensures past c.in_ok-app.ensures past
    c.in_ok-after_open.ensures past c.in_ok-id.ensures past c.in_ok-after_close.ensures past inl
    c.in_err-after_tag.ensures)))

pub returns : goal.returns
returns c = says_once NoHost program_row program_sent program_alone_det (row_of program_row
    (c.blanks-begun.ensures then c.in_ok-app.ensures then c.in_ok-after_open.ensures then c.in_ok-id.ensures then
    c.in_ok-after_close.ensures then c.in_ok-after_tag.ensures then c.blanks.ensures then rest_front _ then refl))
    refl
