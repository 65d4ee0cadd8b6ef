use Rattle.syslog_named_forms.proofs.Names.{◌past◌, ◌then◌, inl, mapped_front, NamedTexts, numbered_row, refl}
use Rattle.syslog_named_forms.proofs.Names.{rest_front, Row, row_of, unread}
use Rattle.syslog_named_forms.specs.Graded.{numbered_of}
use Rattle.syslog_named_forms.proofs.RowLemmas.{numbered_det}
use Rattle.syslog_named_forms.proofs.graded.numbered.Goals as goal

pub returns-in_err-at_id : goal.returns-in_err-at_id
returns-in_err-at_id c = rw c.from_residual.ensures (unread numbered_row numbered_det NamedTexts numbered_of
    (inl c.in_err-at_id.ensures))

pub returns-in_err-id : goal.returns-in_err-id
returns-in_err-id c = rw c.from_residual-in_err-id.ensures (unread numbered_row numbered_det NamedTexts numbered_of
    (c.in_ok-at_id.ensures past inl c.in_err-id.ensures))

pub returns-in_err-after_close : goal.returns-in_err-after_close
returns-in_err-after_close c = rw c.from_residual-in_err-after_close.ensures
    (unread numbered_row numbered_det NamedTexts numbered_of
    (c.in_ok-at_id.ensures past c.in_ok-id.ensures past inl c.in_err-after_close.ensures))

pub returns-in_err-msg : goal.returns-in_err-msg
returns-in_err-msg c = rw c.from_residual-in_err-msg.ensures (unread numbered_row numbered_det NamedTexts numbered_of
    (c.in_ok-at_id.ensures past c.in_ok-id.ensures past c.in_ok-after_close.ensures past inl c.in_err-msg.ensures))

pub returns : goal.returns
returns c = mapped_front (Row numbered_row) NamedTexts numbered_of (row_of numbered_row
    (c.in_ok-at_id.ensures then c.in_ok-id.ensures then c.in_ok-after_close.ensures then c.in_ok-msg.ensures
    then rest_front _ then refl))
