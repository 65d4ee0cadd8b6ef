use Rattle.syslog_named_forms.proofs.Names.{◌past◌, ◌then◌, inl, mapped_front, NamedTexts, refl, rest_front, Row}
use Rattle.syslog_named_forms.proofs.Names.{row_of, sym, threaded_of, threaded_row, unread}
use Rattle.syslog_named_forms.proofs.BracketLemmas.{no_threaded}
use Rattle.syslog_named_forms.proofs.RowLemmas.{threaded_det}
use Rattle.syslog_named_forms.proofs.graded.threaded.Goals as goal

pub returns-then-not-opens_bracket : goal.returns-then-not-opens_bracket
returns-then-not-opens_bracket c after = no_threaded _ after (sym c.if-not-opens_bracket.ensures)

pub returns-in_err-name : goal.returns-in_err-name
returns-in_err-name c after = rw c.from_residual.ensures
    (unread threaded_row threaded_det NamedTexts threaded_of
    (inl c.in_err-name.ensures))

pub returns-in_err-at_open : goal.returns-in_err-at_open
returns-in_err-at_open c after = rw c.from_residual-in_err-at_open.ensures
    (unread threaded_row threaded_det NamedTexts threaded_of
    (c.in_ok-name.ensures past inl c.in_err-at_open.ensures))

pub returns-in_err-at_id : goal.returns-in_err-at_id
returns-in_err-at_id c after = rw c.from_residual-in_err-at_id.ensures
    (unread threaded_row threaded_det NamedTexts threaded_of
    (c.in_ok-name.ensures past c.in_ok-at_open.ensures past inl c.in_err-at_id.ensures))

pub returns-in_err-id : goal.returns-in_err-id
returns-in_err-id c after = rw c.from_residual-in_err-id.ensures
    (unread threaded_row threaded_det NamedTexts threaded_of
    (c.in_ok-name.ensures past c.in_ok-at_open.ensures past c.in_ok-at_id.ensures past inl c.in_err-id.ensures))

pub returns-in_err-rest : goal.returns-in_err-rest
returns-in_err-rest c after = rw c.from_residual-in_err-rest.ensures
    (unread threaded_row threaded_det NamedTexts threaded_of
    (c.in_ok-name.ensures past c.in_ok-at_open.ensures past c.in_ok-at_id.ensures past c.in_ok-id.ensures
    past inl c.in_err-rest.ensures))

pub returns : goal.returns
returns c after = rw c.tagged.ensures (mapped_front (Row threaded_row) NamedTexts threaded_of (row_of threaded_row
    (c.in_ok-name.ensures then c.in_ok-at_open.ensures then c.in_ok-at_id.ensures then c.in_ok-id.ensures
    then c.in_ok-rest.ensures.1 then c.blanks.ensures then rest_front _ then refl)))
