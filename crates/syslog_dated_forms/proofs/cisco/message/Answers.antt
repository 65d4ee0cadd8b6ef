use Rattle.syslog_dated_forms.proofs.Names.{◌past◌, ◌then◌, inl, message_row, no_row, refl, rest_front, row_of}
use Rattle.syslog_dated_forms.proofs.CiscoLemmas.{message_row_det}
use Rattle.syslog_dated_forms.proofs.cisco.message.Goals as goal

pub returns-in_err-tag : goal.returns-in_err-tag
returns-in_err-tag c = rw c.from_residual.ensures (no_row message_row message_row_det (inl c.in_err-tag.ensures))

pub returns-in_err-rest : goal.returns-in_err-rest
returns-in_err-rest c = rw c.from_residual-in_err-rest.ensures (no_row message_row message_row_det (c.in_ok-tag.ensures
    past c.blanks.ensures past inl c.in_err-rest.ensures))

pub returns : goal.returns
returns c = row_of message_row (c.in_ok-tag.ensures then c.blanks.ensures then c.in_ok-rest.ensures.1 then
    c.blanks-2.ensures
    then rest_front _ then refl)
