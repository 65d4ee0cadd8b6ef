use Rattle.syslog_named_forms.proofs.Names.{[], row_det, spread_row, spread_tail}
use Rattle.syslog_named_forms.proofs.NamedFormLemmas.{none_after, tail_here}
use Rattle.syslog_named_forms.proofs.RowLemmas.{spread_det}
use Rattle.syslog_named_forms.proofs.named_forms.of_spread.Goals as goal

pub returns-in_err-named : goal.returns-in_err-named
returns-in_err-named c text front = rw c.from_residual.ensures (
  none_after spread_tail.dialect spread_tail.after spread_tail.names front
      (c.in_err-named.ensures _ c.past_host.ensures),
  tt,
)

pub returns : goal.returns
returns c text front = tail_here spread_tail [] front (row_det spread_row spread_det)
    (c.in_ok-named.ensures _ c.past_host.ensures) c.sent.ensures
