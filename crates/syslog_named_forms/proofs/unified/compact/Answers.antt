use Rattle.syslog_named_forms.proofs.Names.{◌past◌, ◌then◌, compact_row, inl, mapped_front, NamedTexts, refl}
use Rattle.syslog_named_forms.proofs.Names.{rest_front, Row, row_of, unread}
use Rattle.syslog_named_forms.specs.Unified.{compact_of}
use Rattle.syslog_named_forms.proofs.RowLemmas.{compact_det}
use Rattle.syslog_named_forms.proofs.unified.compact.Goals as goal

pub returns-in_err-after_kind : goal.returns-in_err-after_kind
returns-in_err-after_kind c = rw c.from_residual.ensures (unread compact_row compact_det NamedTexts compact_of
    (inl c.in_err-after_kind.ensures))

pub returns-in_err-at_name : goal.returns-in_err-at_name
returns-in_err-at_name c = rw c.from_residual-in_err-at_name.ensures
    (unread compact_row compact_det NamedTexts compact_of
    (c.in_ok-after_kind.ensures.1 past inl c.in_err-at_name.ensures))

pub returns-in_err-name : goal.returns-in_err-name
returns-in_err-name c = rw c.from_residual-in_err-name.ensures (unread compact_row compact_det NamedTexts compact_of
    (c.in_ok-after_kind.ensures.1 past c.in_ok-at_name.ensures past inl c.in_err-name.ensures))

pub returns-in_err-at_id : goal.returns-in_err-at_id
returns-in_err-at_id c = rw c.from_residual-in_err-at_id.ensures (unread compact_row compact_det NamedTexts compact_of
    (c.in_ok-after_kind.ensures.1 past c.in_ok-at_name.ensures past c.in_ok-name.ensures
    past inl c.in_err-at_id.ensures))

pub returns-in_err-process : goal.returns-in_err-process
returns-in_err-process c = rw c.from_residual-in_err-process.ensures
    (unread compact_row compact_det NamedTexts compact_of
    (c.in_ok-after_kind.ensures.1 past c.in_ok-at_name.ensures past c.in_ok-name.ensures
    past c.in_ok-at_id.ensures past inl c.in_err-process.ensures))

pub returns-in_err-after_thread : goal.returns-in_err-after_thread
returns-in_err-after_thread c = rw c.from_residual-in_err-after_thread.ensures
    (unread compact_row compact_det NamedTexts compact_of
    (c.in_ok-after_kind.ensures.1 past c.in_ok-at_name.ensures past c.in_ok-name.ensures
    past c.in_ok-at_id.ensures past c.in_ok-process.ensures past inl c.in_err-after_thread.ensures))

pub returns-in_err-msg : goal.returns-in_err-msg
returns-in_err-msg c = rw c.from_residual-in_err-msg.ensures (unread compact_row compact_det NamedTexts compact_of
    (c.in_ok-after_kind.ensures.1 past c.in_ok-at_name.ensures past c.in_ok-name.ensures
    past c.in_ok-at_id.ensures past c.in_ok-process.ensures past c.in_ok-after_thread.ensures.1
    past inl c.in_err-msg.ensures))

pub returns : goal.returns
returns c = rw c.tagged.ensures (mapped_front (Row compact_row) NamedTexts compact_of (row_of compact_row
    (c.in_ok-after_kind.ensures.1 then c.in_ok-at_name.ensures then c.in_ok-name.ensures
    then c.in_ok-at_id.ensures then c.in_ok-process.ensures then c.in_ok-after_thread.ensures.1
    then c.in_ok-msg.ensures then rest_front _ then refl)))
