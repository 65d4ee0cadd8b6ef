use Rattle.syslog_named_forms.proofs.Names.{[], ◌past◌, ◌then◌, ◌∷◌, any_front, front_row, inl, no_row, refl, row_of}
use Rattle.syslog_named_forms.proofs.Names.{spread_tail}
use Rattle.syslog_named_forms.proofs.NamedFormLemmas.{front_det, none_undated}
use Rattle.syslog_named_forms.proofs.named_forms.read_spread.Goals as goal

pub returns-in_err-rest : goal.returns-in_err-rest
returns-in_err-rest c text led = rw c.from_residual.ensures (none_undated (spread_tail ∷ [])
    (no_row front_row front_det (led.gap past any_front c.args.led.now.date led.date past inl c.in_err-rest.ensures)))

pub returns : goal.returns
returns c text led = c.of_spread.ensures text (row_of front_row (led.gap
    then rw led.sent (any_front c.args.led.now.date led.date) then c.in_ok-rest.ensures then refl))
