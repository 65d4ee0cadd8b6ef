use Rattle.syslog_named_forms.proofs.Names.{◌past◌, ◌then◌, event_row, inl, mapped_front, NamedTexts, refl, rest_front}
use Rattle.syslog_named_forms.proofs.Names.{Row, row_of, unread}
use Rattle.syslog_named_forms.specs.Graded.{event_of}
use Rattle.syslog_named_forms.proofs.RowLemmas.{event_det}
use Rattle.syslog_named_forms.proofs.graded.event.Goals as goal

pub returns-in_err-at_node : goal.returns-in_err-at_node
returns-in_err-at_node c = rw c.from_residual.ensures (unread event_row event_det NamedTexts event_of
    (inl c.in_err-at_node.ensures))

pub returns-in_err-node : goal.returns-in_err-node
returns-in_err-node c = rw c.from_residual-in_err-node.ensures (unread event_row event_det NamedTexts event_of
    (c.in_ok-at_node.ensures past inl c.in_err-node.ensures))

pub returns-in_err-after_colon : goal.returns-in_err-after_colon
returns-in_err-after_colon c = rw c.from_residual-in_err-after_colon.ensures
    (unread event_row event_det NamedTexts event_of
    (c.in_ok-at_node.ensures past c.in_ok-node.ensures past inl c.in_err-after_colon.ensures))

pub returns-in_err-name : goal.returns-in_err-name
returns-in_err-name c = rw c.from_residual-in_err-name.ensures (unread event_row event_det NamedTexts event_of
    (c.in_ok-at_node.ensures past c.in_ok-node.ensures past c.in_ok-after_colon.ensures past c.blanks.ensures
    past inl c.in_err-name.ensures))

pub returns-in_err-rest : goal.returns-in_err-rest
returns-in_err-rest c = rw c.from_residual-in_err-rest.ensures (unread event_row event_det NamedTexts event_of
    (c.in_ok-at_node.ensures past c.in_ok-node.ensures past c.in_ok-after_colon.ensures past c.blanks.ensures
    past c.in_ok-name.ensures past inl c.in_err-rest.ensures))

pub returns : goal.returns
returns c = rw c.tagged.ensures (mapped_front (Row event_row) NamedTexts event_of (row_of event_row
    (c.in_ok-at_node.ensures then c.in_ok-node.ensures then c.in_ok-after_colon.ensures then c.blanks.ensures
    then c.in_ok-name.ensures then c.in_ok-rest.ensures.1 then c.blanks-2.ensures then rest_front _ then refl)))
