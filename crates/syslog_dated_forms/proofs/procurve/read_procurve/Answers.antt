use Rattle.syslog_dated_forms.proofs.Names.{◌past◌, ◌then◌, drop, inl, procurve_row, refl, rest_front, row_of}
use Rattle.syslog_dated_forms.proofs.Names.{says_once, take}
use Rattle.syslog_dated_forms.specs.ProCurve.{procurve_sent, switch, system_module}
use Rattle.syslog_dated_forms.proofs.ChainLemmas.{◌next◌, chain_fails, chain_past, chain_reads, end, undivided}
use Rattle.syslog_dated_forms.proofs.RowLemmas.{procurve_row_det}
use Rattle.syslog_sent.specs.declared.dialect.Dialect.TheVariants.{ProCurve}
use Rattle.syslog_dated_forms.proofs.OtherFormLemmas.{led_date}
use Rattle.syslog_dated_forms.proofs.procurve.read_procurve.Goals as goal

pub returns-in_err-hostname : goal.returns-in_err-hostname
returns-in_err-hostname c text led = let d = led_date c.args.led.now led in
    rw c.from_residual.ensures (undivided procurve_row procurve_row_det (led.gap past d past chain_fails
    {Cs = take 1 (drop 2 procurve_row)} switch (drop 4 procurve_row) _ {x = c.args.led.now.rest} (c.gap.ensures
    next end) c.in_err-hostname.ensures))

pub returns-in_err-app : goal.returns-in_err-app
returns-in_err-app c text led = let d = led_date c.args.led.now led in
    rw c.from_residual-in_err-app.ensures (undivided procurve_row procurve_row_det (led.gap past d past chain_past
    {Cs = take 1 (drop 2 procurve_row)} switch (drop 4 procurve_row) _ _ {x = c.args.led.now.rest} (c.gap.ensures
    next end) (λ e. cc) c.in_ok-hostname.ensures (chain_fails {Cs = take 3 (drop 4 procurve_row)} system_module
    (drop 8 procurve_row) _ {x = c.in_ok-hostname.after_host} (c.gap-2.ensures next c.and_then-2.ensures
    next c.and_then-3.ensures next end) c.in_err-app.ensures)))

pub returns-in_err-after_colon : goal.returns-in_err-after_colon
returns-in_err-after_colon c text led = let d = led_date c.args.led.now led in
    rw c.from_residual-in_err-after_colon.ensures (undivided procurve_row procurve_row_det (led.gap past d
    past chain_past {Cs = take 1 (drop 2 procurve_row)} switch (drop 4 procurve_row) _ _ {x = c.args.led.now.rest}
    (c.gap.ensures next end) (λ e. cc) c.in_ok-hostname.ensures (chain_past {Cs = take 3 (drop 4 procurve_row)}
    system_module (drop 8 procurve_row) _ _ {x = c.in_ok-hostname.after_host} (c.gap-2.ensures next c.and_then-2.ensures
    next c.and_then-3.ensures next end) (λ e. cc) c.in_ok-app.ensures (inl c.in_err-after_colon.ensures))))

pub returns : goal.returns
returns c text led = let d = led_date c.args.led.now led in
    let (vs, p) = chain_reads {Cs = take 3 (drop 4 procurve_row)} system_module (drop 8 procurve_row) _ _ _ _
    {x = c.in_ok-hostname.after_host} (c.gap-2.ensures next c.and_then-2.ensures next c.and_then-3.ensures next end)
    (λ e. cc) c.in_ok-app.ensures (c.in_ok-after_colon.ensures.1 then c.blanks.ensures then rest_front _ then refl) in
    let (us, f) = chain_reads {Cs = take 1 (drop 2 procurve_row)} switch (drop 4 procurve_row) _ _ _ _
    {x = c.args.led.now.rest} (c.gap.ensures next end) (λ e. cc) c.in_ok-hostname.ensures p in
    says_once ProCurve procurve_row procurve_sent procurve_row_det (row_of procurve_row (led.gap then d then f)) refl
