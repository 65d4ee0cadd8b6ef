use Rattle.syslog_named_forms.proofs.Names.{◌past◌, ◌then◌, inl, mapped_front, NamedTexts, padded_of, padded_row, refl}
use Rattle.syslog_named_forms.proofs.Names.{rest_front, Row, row_of, sym, unread}
use Rattle.syslog_named_forms.proofs.BracketLemmas.{no_padded}
use Rattle.syslog_named_forms.proofs.RowLemmas.{padded_det}
use Rattle.syslog_named_forms.proofs.graded.padded.Goals as goal

pub returns-then-not-opens_bracket : goal.returns-then-not-opens_bracket
returns-then-not-opens_bracket c after = no_padded _ after (sym c.if-not-opens_bracket.ensures)

pub returns-in_err-name : goal.returns-in_err-name
returns-in_err-name c after = rw c.from_residual.ensures
    (unread padded_row padded_det NamedTexts padded_of
    (inl c.in_err-name.ensures))

pub returns-in_err-at_open : goal.returns-in_err-at_open
returns-in_err-at_open c after = rw c.from_residual-in_err-at_open.ensures
    (unread padded_row padded_det NamedTexts padded_of
    (c.in_ok-name.ensures past inl c.in_err-at_open.ensures))

pub returns-in_err-at_id : goal.returns-in_err-at_id
returns-in_err-at_id c after = rw c.from_residual-in_err-at_id.ensures
    (unread padded_row padded_det NamedTexts padded_of
    (c.in_ok-name.ensures past c.in_ok-at_open.ensures.1 past c.blanks.ensures past inl c.in_err-at_id.ensures))

pub returns-in_err-id : goal.returns-in_err-id
returns-in_err-id c after = rw c.from_residual-in_err-id.ensures
    (unread padded_row padded_det NamedTexts padded_of
    (c.in_ok-name.ensures past c.in_ok-at_open.ensures.1 past c.blanks.ensures past c.in_ok-at_id.ensures past
    inl c.in_err-id.ensures))

pub returns-in_err-rest : goal.returns-in_err-rest
returns-in_err-rest c after = rw c.from_residual-in_err-rest.ensures
    (unread padded_row padded_det NamedTexts padded_of
    (c.in_ok-name.ensures past c.in_ok-at_open.ensures.1 past c.blanks.ensures past c.in_ok-at_id.ensures past
    c.in_ok-id.ensures past inl c.in_err-rest.ensures))

pub returns : goal.returns
returns c after = rw c.tagged.ensures (mapped_front (Row padded_row) NamedTexts padded_of (row_of padded_row
    (c.in_ok-name.ensures then c.in_ok-at_open.ensures.1 then c.blanks.ensures then c.in_ok-at_id.ensures then
    c.in_ok-id.ensures then c.in_ok-rest.ensures.1 then c.blanks-2.ensures then rest_front _ then refl)))
