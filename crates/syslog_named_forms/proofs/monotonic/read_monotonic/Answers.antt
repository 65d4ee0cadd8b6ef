use Rattle.syslog_named_forms.proofs.Names.{◌past◌, ◌then◌, inl, monotonic_row, no_row, no_row_division, refl}
use Rattle.syslog_named_forms.proofs.Names.{rest_front, row_of, says_once}
use Rattle.syslog_named_forms.specs.Monotonic.{monotonic_says}
use Rattle.syslog_sent.specs.declared.dialect.Dialect.TheVariants.{Monotonic}
use Rattle.syslog_named_forms.proofs.RowLemmas.{monotonic_det}
use Rattle.syslog_named_forms.proofs.monotonic.read_monotonic.Goals as goal

pub returns-in_err-after_seconds : goal.returns-in_err-after_seconds
returns-in_err-after_seconds c = rw c.from_residual.ensures (no_row_division monotonic_row (no_row monotonic_row
    monotonic_det
    (inl c.in_err-after_seconds.ensures)))

pub returns-in_err-at_host : goal.returns-in_err-at_host
returns-in_err-at_host c = rw c.from_residual-in_err-at_host.ensures (no_row_division monotonic_row (no_row
    monotonic_row monotonic_det
    (c.in_ok-after_seconds.ensures.1 past inl c.in_err-at_host.ensures)))

pub returns-in_err-hostname : goal.returns-in_err-hostname
returns-in_err-hostname c = rw c.from_residual-in_err-hostname.ensures (no_row_division monotonic_row (no_row
    monotonic_row monotonic_det
    (c.in_ok-after_seconds.ensures.1 past c.in_ok-at_host.ensures past inl c.in_err-hostname.ensures)))

pub returns-in_err-at_program : goal.returns-in_err-at_program
returns-in_err-at_program c = rw c.from_residual-in_err-at_program.ensures (no_row_division monotonic_row (no_row
    monotonic_row monotonic_det
    (c.in_ok-after_seconds.ensures.1 past c.in_ok-at_host.ensures past c.in_ok-hostname.ensures past inl
    c.in_err-at_program.ensures)))

pub returns-in_err-program : goal.returns-in_err-program
returns-in_err-program c = rw c.from_residual-in_err-program.ensures (no_row_division monotonic_row (no_row
    monotonic_row monotonic_det
    (c.in_ok-after_seconds.ensures.1 past c.in_ok-at_host.ensures past c.in_ok-hostname.ensures past
    c.in_ok-at_program.ensures past inl c.in_err-program.ensures)))

pub returns : goal.returns
returns c = says_once Monotonic monotonic_row monotonic_says monotonic_det (row_of monotonic_row
    (c.in_ok-after_seconds.ensures.1 then c.in_ok-at_host.ensures then c.in_ok-hostname.ensures
    then c.in_ok-at_program.ensures then c.in_ok-program.ensures then c.blanks.ensures then rest_front _ then refl))
    refl
