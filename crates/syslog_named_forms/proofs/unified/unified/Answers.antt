use Rattle.syslog_named_forms.proofs.Names.{◌past◌, ◌then◌, inl, log_row, mapped_front, NamedTexts, refl, rest_front}
use Rattle.syslog_named_forms.proofs.Names.{Row, row_of, unread}
use Rattle.syslog_named_forms.specs.Unified.{log_of}
use Rattle.syslog_named_forms.proofs.RowLemmas.{log_det}
use Rattle.syslog_named_forms.proofs.unified.unified.Goals as goal

pub returns-in_err-at_id : goal.returns-in_err-at_id
returns-in_err-at_id c = rw c.from_residual.ensures (unread log_row log_det NamedTexts log_of
    (inl c.in_err-at_id.ensures))

pub returns-in_err-process : goal.returns-in_err-process
returns-in_err-process c = rw c.from_residual-in_err-process.ensures (unread log_row log_det NamedTexts log_of
    (c.in_ok-at_id.ensures.1 past inl c.in_err-process.ensures))

pub returns-in_err-at_kept : goal.returns-in_err-at_kept
returns-in_err-at_kept c = rw c.from_residual-in_err-at_kept.ensures (unread log_row log_det NamedTexts log_of
    (c.in_ok-at_id.ensures.1 past c.in_ok-process.ensures past inl c.in_err-at_kept.ensures))

pub returns-in_err-name : goal.returns-in_err-name
returns-in_err-name c = rw c.from_residual-in_err-name.ensures (unread log_row log_det NamedTexts log_of
    (c.in_ok-at_id.ensures.1 past c.in_ok-process.ensures past c.in_ok-at_kept.ensures past
    c.past_kept.ensures.1 past inl c.in_err-name.ensures))

pub returns-in_err-rest : goal.returns-in_err-rest
returns-in_err-rest c = rw c.from_residual-in_err-rest.ensures (unread log_row log_det NamedTexts log_of
    (c.in_ok-at_id.ensures.1 past c.in_ok-process.ensures past c.in_ok-at_kept.ensures past
    c.past_kept.ensures.1 past c.in_ok-name.ensures past inl c.in_err-rest.ensures))

pub returns : goal.returns
returns c = rw c.tagged.ensures (mapped_front (Row log_row) NamedTexts log_of (row_of log_row
    (c.in_ok-at_id.ensures.1 then c.in_ok-process.ensures then c.in_ok-at_kept.ensures then
    c.past_kept.ensures.1 then c.in_ok-name.ensures then c.in_ok-rest.ensures then c.blanks.ensures
    then rest_front _ then refl)))
