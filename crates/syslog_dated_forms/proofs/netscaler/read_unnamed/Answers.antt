use Rattle.syslog_dated_forms.proofs.Names.{◌past◌, ◌then◌, inl, NetScaler, refl, rest_front, row_of, says_once}
use Rattle.syslog_dated_forms.proofs.Names.{unnamed_row}
use Rattle.syslog_dated_forms.specs.NetScaler.{unnamed_sent}
use Rattle.syslog_dated_forms.proofs.RowLemmas.{unnamed_row_det}
use Rattle.syslog_dated_forms.proofs.ChainLemmas.{undivided}
use Rattle.syslog_dated_forms.proofs.netscaler.read_unnamed.Goals as goal

pub returns-in_err-date : goal.returns-in_err-date
returns-in_err-date c = rw c.from_residual.ensures (undivided unnamed_row unnamed_row_det (c.blanks.ensures past inl
    c.in_err-date.ensures))

pub returns-in_err-at_engine : goal.returns-in_err-at_engine
returns-in_err-at_engine c = rw c.from_residual-in_err-at_engine.ensures (undivided unnamed_row unnamed_row_det
    (c.blanks.ensures past c.in_ok-date.ensures past inl c.in_err-at_engine.ensures))

pub returns-in_err-engine : goal.returns-in_err-engine
returns-in_err-engine c = rw c.from_residual-in_err-engine.ensures (undivided unnamed_row unnamed_row_det
    (c.blanks.ensures past c.in_ok-date.ensures past c.in_ok-at_engine.ensures.1 past inl c.in_err-engine.ensures))

pub returns-in_err-at_colon : goal.returns-in_err-at_colon
returns-in_err-at_colon c = rw c.from_residual-in_err-at_colon.ensures (undivided unnamed_row unnamed_row_det
    (c.blanks.ensures past c.in_ok-date.ensures past c.in_ok-at_engine.ensures.1 past c.in_ok-engine.ensures past inl
    c.in_err-at_colon.ensures))

pub returns-in_err-rest : goal.returns-in_err-rest
returns-in_err-rest c = rw c.from_residual-in_err-rest.ensures (undivided unnamed_row unnamed_row_det (c.blanks.ensures
    past c.in_ok-date.ensures past c.in_ok-at_engine.ensures.1 past c.in_ok-engine.ensures
    past c.in_ok-at_colon.ensures.1 past inl c.in_err-rest.ensures))

pub returns : goal.returns
returns c = says_once NetScaler unnamed_row unnamed_sent unnamed_row_det (row_of unnamed_row
    (c.blanks.ensures then c.in_ok-date.ensures then c.in_ok-at_engine.ensures.1 then c.in_ok-engine.ensures then
    c.in_ok-at_colon.ensures.1 then c.in_ok-rest.ensures.1 then c.blanks-2.ensures then rest_front _ then refl)) refl
