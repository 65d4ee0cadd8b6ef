use Rattle.syslog_named_forms.proofs.PairLemmas.{shown_at}
use Rattle.syslog_named_forms.proofs.pairs.shown_date.Goals as goal

pub returns-in_err-date : goal.returns-in_err-date
returns-in_err-date c = rw c.from_residual.ensures (λ d h. c.in_err-date.ensures h.shown h.moment)

pub returns : goal.returns
returns c = shown_at _ _ c.offset.result c.at_offset.result c.at_offset.ensures c.in_ok-date.ensures c.offset.ensures
