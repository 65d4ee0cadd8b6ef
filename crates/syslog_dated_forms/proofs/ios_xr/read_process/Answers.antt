use Rattle.syslog_dated_forms.proofs.Names.{◌past◌, ◌then◌, inl, mapped_front, process_row, refl, rest_front, Row}
use Rattle.syslog_dated_forms.proofs.Names.{row_of, Text, unread}
use Rattle.syslog_dated_forms.proofs.RowLemmas.{process_row_det}
use Rattle.syslog_dated_forms.specs.IosXr.{process_in}
use Rattle.syslog_dated_forms.proofs.ios_xr.read_process.Goals as goal

pub returns-in_err-app : goal.returns-in_err-app
returns-in_err-app c = rw c.from_residual.ensures (unread process_row process_row_det (Text × (Text × Text)) process_in
    (c.blanks-after_gap.ensures past c.past_colon-after_colon.ensures.1 past c.blanks-begun.ensures past inl
    c.in_err-app.ensures))

pub returns-in_err-after_open : goal.returns-in_err-after_open
returns-in_err-after_open c = rw c.from_residual-in_err-after_open.ensures (unread process_row process_row_det (Text ×
    (Text × Text)) process_in (c.blanks-after_gap.ensures past c.past_colon-after_colon.ensures.1
    past c.blanks-begun.ensures past c.in_ok-app.ensures past inl c.in_err-after_open.ensures))

pub returns-in_err-id : goal.returns-in_err-id
returns-in_err-id c = rw c.from_residual-in_err-id.ensures (unread process_row process_row_det (Text × (Text × Text))
    process_in (c.blanks-after_gap.ensures past c.past_colon-after_colon.ensures.1 past c.blanks-begun.ensures
    past c.in_ok-app.ensures past c.in_ok-after_open.ensures past inl c.in_err-id.ensures))

pub returns-in_err-after_close : goal.returns-in_err-after_close
returns-in_err-after_close c = rw c.from_residual-in_err-after_close.ensures (unread process_row process_row_det (Text ×
    (Text × Text)) process_in (c.blanks-after_gap.ensures past c.past_colon-after_colon.ensures.1 past
    c.blanks-begun.ensures past c.in_ok-app.ensures past c.in_ok-after_open.ensures past c.in_ok-id.ensures past inl
    c.in_err-after_close.ensures))

pub returns-in_err-after_tag : goal.returns-in_err-after_tag
returns-in_err-after_tag c = rw c.from_residual-in_err-after_tag.ensures (unread process_row process_row_det (Text ×
    (Text × Text)) process_in (c.blanks-after_gap.ensures past c.past_colon-after_colon.ensures.1
    past c.blanks-begun.ensures past c.in_ok-app.ensures past c.in_ok-after_open.ensures past c.in_ok-id.ensures
    past c.in_ok-after_close.ensures past inl c.in_err-after_tag.ensures))

pub returns : goal.returns
returns c = mapped_front (Row process_row) (Text × (Text × Text)) process_in
    (row_of process_row (c.blanks-after_gap.ensures then c.past_colon-after_colon.ensures.1 then
    c.blanks-begun.ensures then c.in_ok-app.ensures then c.in_ok-after_open.ensures then c.in_ok-id.ensures then
    c.in_ok-after_close.ensures then c.in_ok-after_tag.ensures.1
    then c.blanks.ensures then rest_front _ then refl))
