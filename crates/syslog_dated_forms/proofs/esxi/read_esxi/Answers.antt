use Rattle.syslog_dated_forms.proofs.Names.{◌past◌, ◌then◌, drop, esxi_row, inl, program, refl, rest_front, row_of}
use Rattle.syslog_dated_forms.proofs.Names.{says_once, take}
use Rattle.syslog_dated_forms.specs.Esxi.{esxi_sent}
use Rattle.syslog_dated_forms.proofs.ChainLemmas.{◌next◌, chain_fails, chain_reads, end, undivided}
use Rattle.syslog_dated_forms.proofs.RowLemmas.{esxi_row_det}
use Rattle.syslog_sent.specs.declared.dialect.Dialect.TheVariants.{Esxi}
use Rattle.syslog_dated_forms.proofs.esxi.read_esxi.Goals as goal

pub returns-in_err-date : goal.returns-in_err-date
returns-in_err-date c text led = let (at, g, n) = c.in_err-date.ensures text led in
    rw c.from_residual.ensures (undivided esxi_row esxi_row_det (g past inl n))

pub returns-in_err-program : goal.returns-in_err-program
returns-in_err-program c text led = let (at, g, d) = c.in_ok-date.ensures text led in
    rw c.from_residual-in_err-program.ensures (undivided esxi_row esxi_row_det (g past d past chain_fails
    {Cs = take 3 (drop 2 esxi_row)} program (drop 6 esxi_row) _ {x = c.in_ok-date.rest} (c.gap.ensures
    next c.and_then.ensures next c.and_then-2.ensures next end) c.in_err-program.ensures))

pub returns : goal.returns
returns c text led = let (at, g, d) = c.in_ok-date.ensures text led in
    let (us, p) = chain_reads {Cs = take 3 (drop 2 esxi_row)} program (drop 6 esxi_row) _ _ _ _ {x = c.in_ok-date.rest}
    (c.gap.ensures next c.and_then.ensures next c.and_then-2.ensures next end) (λ e. cc) c.in_ok-program.ensures
    (c.blanks.ensures then rest_front _ then refl) in
    says_once Esxi esxi_row esxi_sent esxi_row_det (row_of esxi_row (g then d then p)) refl
