use Rattle.syslog_dated_forms.proofs.Names.{◌past◌, ◌then◌, inl, refl, rest_front, row_of, says_once, short_row}
use Rattle.syslog_dated_forms.proofs.Names.{UnixSeconds}
use Rattle.syslog_dated_forms.specs.UnixSeconds.{short_sent}
use Rattle.syslog_dated_forms.proofs.RowLemmas.{short_row_det}
use Rattle.syslog_dated_forms.proofs.ChainLemmas.{undivided}
use Rattle.syslog_dated_forms.proofs.unix_seconds.read_short.Goals as goal

pub returns-in_err-date : goal.returns-in_err-date
returns-in_err-date c = rw c.from_residual.ensures (undivided short_row short_row_det (c.blanks.ensures past inl
    c.in_err-date.ensures))

pub returns-in_err-before_host : goal.returns-in_err-before_host
returns-in_err-before_host c = rw c.from_residual-in_err-before_host.ensures (undivided short_row short_row_det
    (c.blanks.ensures past c.in_ok-date.ensures past inl c.in_err-before_host.ensures))

pub returns-in_err-hostname : goal.returns-in_err-hostname
returns-in_err-hostname c = rw c.from_residual-in_err-hostname.ensures (undivided short_row short_row_det
    (c.blanks.ensures past c.in_ok-date.ensures past c.in_ok-before_host.ensures.1 past inl c.in_err-hostname.ensures))

pub returns-in_err-before_program : goal.returns-in_err-before_program
returns-in_err-before_program c = rw c.from_residual-in_err-before_program.ensures (undivided short_row short_row_det
    (c.blanks.ensures past c.in_ok-date.ensures past c.in_ok-before_host.ensures.1 past c.in_ok-hostname.ensures
    past inl c.in_err-before_program.ensures))

pub returns-in_err-program : goal.returns-in_err-program
returns-in_err-program c = rw c.from_residual-in_err-program.ensures (undivided short_row short_row_det
    (c.blanks.ensures past c.in_ok-date.ensures past c.in_ok-before_host.ensures.1 past c.in_ok-hostname.ensures
    past c.in_ok-before_program.ensures.1 past inl c.in_err-program.ensures))

pub returns : goal.returns
returns c = says_once UnixSeconds short_row short_sent short_row_det (row_of short_row
    (c.blanks.ensures then c.in_ok-date.ensures then c.in_ok-before_host.ensures.1 then c.in_ok-hostname.ensures
    then c.in_ok-before_program.ensures.1 then c.in_ok-program.ensures then c.blanks-2.ensures
    then rest_front _ then refl)) refl
