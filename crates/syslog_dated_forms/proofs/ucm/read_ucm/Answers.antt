use Rattle.syslog_dated_forms.proofs.Names.{◌past◌, ◌then◌, CiscoIos, inl, refl, row_of, says_once, ucm_row}
use Rattle.syslog_dated_forms.specs.Ucm.{ucm_sent}
use Rattle.syslog_dated_forms.proofs.RowLemmas.{ucm_row_det}
use Rattle.syslog_dated_forms.proofs.ChainLemmas.{undivided}
use Rattle.syslog_dated_forms.proofs.ucm.read_ucm.Goals as goal

pub returns-in_err-at_label : goal.returns-in_err-at_label
returns-in_err-at_label c = rw c.from_residual.ensures (undivided ucm_row ucm_row_det (c.blanks.ensures past inl
    c.in_err-at_label.ensures))

pub returns-in_err-date : goal.returns-in_err-date
returns-in_err-date c = rw c.from_residual-in_err-date.ensures (undivided ucm_row ucm_row_det (c.blanks.ensures
    past c.in_ok-at_label.ensures.1 past c.optional_label.ensures past inl c.in_err-date.ensures))

pub returns-in_err-after_colon : goal.returns-in_err-after_colon
returns-in_err-after_colon c = rw c.from_residual-in_err-after_colon.ensures (undivided ucm_row ucm_row_det
    (c.blanks.ensures past c.in_ok-at_label.ensures.1 past c.optional_label.ensures past c.in_ok-date.ensures
    past c.blanks-2.ensures past inl c.in_err-after_colon.ensures))

pub returns-in_err-tag : goal.returns-in_err-tag
returns-in_err-tag c = rw c.from_residual-in_err-tag.ensures (undivided ucm_row ucm_row_det (c.blanks.ensures
    past c.in_ok-at_label.ensures.1 past c.optional_label.ensures past c.in_ok-date.ensures past c.blanks-2.ensures
    past c.in_ok-after_colon.ensures.1 past c.blanks-3.ensures past inl c.in_err-tag.ensures))

pub returns : goal.returns
returns c = says_once CiscoIos ucm_row ucm_sent ucm_row_det (row_of ucm_row
    (c.blanks.ensures then c.in_ok-at_label.ensures.1 then c.optional_label.ensures then c.in_ok-date.ensures
    then c.blanks-2.ensures then c.in_ok-after_colon.ensures.1 then c.blanks-3.ensures then c.in_ok-tag.ensures then
    refl)) refl
