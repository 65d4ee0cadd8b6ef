use Rattle.syslog_dated_forms.proofs.Names.{◌past◌, ◌then◌, inl, kiwi_row, refl, rest_front, row_of, says_once}
use Rattle.syslog_dated_forms.proofs.Names.{SeverityFirst}
use Rattle.syslog_dated_forms.specs.Kiwi.{kiwi_sent}
use Rattle.syslog_dated_forms.proofs.RowLemmas.{kiwi_row_det}
use Rattle.syslog_dated_forms.proofs.ChainLemmas.{undivided}
use Rattle.syslog_dated_forms.proofs.kiwi.read_kiwi.Goals as goal

pub returns-in_err-date : goal.returns-in_err-date
returns-in_err-date c text led = let (at, g, n) = c.in_err-date.ensures text led in
    rw c.from_residual.ensures (undivided kiwi_row kiwi_row_det (g past inl n))

pub returns-in_err-at_host : goal.returns-in_err-at_host
returns-in_err-at_host c text led = let (at, g, d) = c.in_ok-date.ensures text led in
    rw c.from_residual-in_err-at_host.ensures (undivided kiwi_row kiwi_row_det (g past d past inl
    c.in_err-at_host.ensures))

pub returns-in_err-hostname : goal.returns-in_err-hostname
returns-in_err-hostname c text led = let (at, g, d) = c.in_ok-date.ensures text led in
    rw c.from_residual-in_err-hostname.ensures (undivided kiwi_row kiwi_row_det (g past d past c.in_ok-at_host.ensures.1
    past inl c.in_err-hostname.ensures))

pub returns-in_err-msg : goal.returns-in_err-msg
returns-in_err-msg c text led = let (at, g, d) = c.in_ok-date.ensures text led in
    rw c.from_residual-in_err-msg.ensures (undivided kiwi_row kiwi_row_det (g past d past c.in_ok-at_host.ensures.1
    past c.in_ok-hostname.ensures past inl c.in_err-msg.ensures))

pub returns : goal.returns
returns c text led = let (at, g, d) = c.in_ok-date.ensures text led in
    says_once SeverityFirst kiwi_row kiwi_sent kiwi_row_det (row_of kiwi_row (g then d then c.in_ok-at_host.ensures.1
    then c.in_ok-hostname.ensures then c.in_ok-msg.ensures.1 then c.blanks.ensures then rest_front _ then refl)) refl
