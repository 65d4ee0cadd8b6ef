use Rattle.syslog_dialects.proofs.Names.{◌past◌, ◌then◌, inl, no_row, no_row_division, point_row, point_sent, refl}
use Rattle.syslog_dialects.proofs.Names.{rest_front, row_of, says_once, UniFi}
use Rattle.syslog_dialects.proofs.PriorityAloneLemmas.{point_alone_det}
use Rattle.syslog_dialects.proofs.priority_alone.read_point_alone.Goals as goal

pub returns-in_err-hostname : goal.returns-in_err-hostname
returns-in_err-hostname c = rw c.from_residual.ensures (no_row_division point_row
    (no_row point_row point_alone_det (c.blanks-begun.ensures past inl c.in_err-hostname.ensures)))

pub returns-in_err-at_point : goal.returns-in_err-at_point
returns-in_err-at_point c = rw c.from_residual-in_err-at_point.ensures (no_row_division point_row
    (no_row point_row point_alone_det (c.blanks-begun.ensures past c.in_ok-hostname.ensures
    past inl c.in_err-at_point.ensures)))

pub returns-in_err-after_point : goal.returns-in_err-after_point
returns-in_err-after_point c = rw c.from_residual-in_err-after_point.ensures (no_row_division point_row
    (no_row point_row point_alone_det (c.blanks-begun.ensures past c.in_ok-hostname.ensures
    past c.in_ok-at_point.ensures past inl c.in_err-after_point.ensures)))

pub returns-in_err-after_colon : goal.returns-in_err-after_colon
returns-in_err-after_colon c = rw c.from_residual-in_err-after_colon.ensures (no_row_division point_row
    (no_row point_row point_alone_det (c.blanks-begun.ensures past c.in_ok-hostname.ensures
    past c.in_ok-at_point.ensures past c.in_ok-after_point.ensures.1 past inl c.in_err-after_colon.ensures)))

pub returns-in_err-before_program : goal.returns-in_err-before_program
returns-in_err-before_program c = rw c.from_residual-in_err-before_program.ensures (no_row_division point_row
    (no_row point_row point_alone_det (c.blanks-begun.ensures past c.in_ok-hostname.ensures
    past c.in_ok-at_point.ensures past c.in_ok-after_point.ensures.1 past c.in_ok-after_colon.ensures
    past inl c.in_err-before_program.ensures)))

pub returns-in_err-program : goal.returns-in_err-program
returns-in_err-program c = rw c.from_residual-in_err-program.ensures (no_row_division point_row
    (no_row point_row point_alone_det (c.blanks-begun.ensures past c.in_ok-hostname.ensures
    past c.in_ok-at_point.ensures past c.in_ok-after_point.ensures.1 past c.in_ok-after_colon.ensures
    past c.in_ok-before_program.ensures past inl c.in_err-program.ensures)))

pub returns : goal.returns
returns c = says_once UniFi point_row point_sent point_alone_det (row_of point_row
    (c.blanks-begun.ensures then c.in_ok-hostname.ensures then c.in_ok-at_point.ensures
    then c.in_ok-after_point.ensures.1 then c.in_ok-after_colon.ensures then c.in_ok-before_program.ensures
    then c.in_ok-program.ensures then c.blanks.ensures then rest_front _ then refl)) refl
