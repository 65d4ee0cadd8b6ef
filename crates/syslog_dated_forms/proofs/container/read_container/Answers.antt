use Rattle.syslog_dated_forms.proofs.Names.{◌past◌, ◌then◌, beginning_front, container_row, inl, loose, no_beginning}
use Rattle.syslog_dated_forms.proofs.Names.{None, refl, row_of, says_once, Some}
use Rattle.syslog_dated_forms.proofs.RowLemmas.{container_row_det}
use Rattle.syslog_sent.specs.declared.dialect.Dialect.TheVariants.{Container}
use Rattle.syslog_dated_forms.proofs.ChainLemmas.{undivided}
use Rattle.syslog_dated_forms.proofs.container.read_container.Goals as goal

pub returns-in_err-date : goal.returns-in_err-date
returns-in_err-date c text led = let (at, g, n) = c.in_err-date.ensures text led in
    rw c.from_residual.ensures (undivided container_row container_row_det (g past inl n))

pub returns-in_err-msg : goal.returns-in_err-msg
returns-in_err-msg c text led = let (at, g, d) = c.in_ok-date.ensures text led in
    rw c.from_residual-in_err-msg.ensures (undivided container_row container_row_det (g past d past inl
    c.in_err-msg.ensures))

pub returns-in_err-past_stream : goal.returns-in_err-past_stream
returns-in_err-past_stream c text led = let (at, g, d) = c.in_ok-date.ensures text led in
    rw c.from_residual-in_err-past_stream.ensures (undivided container_row container_row_det (g past d
    past c.in_ok-msg.ensures.1 past inl (no_beginning c.in_err-past_stream.ensures)))

pub returns : goal.returns
returns c text led = let (at, g, d) = c.in_ok-date.ensures text led in
    says_once Container container_row (λ v. loose (Some v.1.0) None None None v.1.1.1.0) container_row_det (row_of
    container_row (g then d then c.in_ok-msg.ensures.1 then beginning_front c.in_ok-past_stream.ensures.1 then refl))
    refl
