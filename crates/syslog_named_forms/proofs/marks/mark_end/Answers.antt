use Rattle.syslog_named_forms.proofs.Names.{◌∙◌}
use Rattle.syslog_named_forms.proofs.UntaggedLemmas.{no_mark, no_mark_empty}
use Rattle.syslog_named_forms.proofs.marks.mark_end.Goals as goal

pub returns-in_err-c : goal.returns-in_err-c
returns-in_err-c c = rw c.from_residual.ensures (no_mark_empty c.args.mark c.in_err-c.ensures)

pub returns-then-has : goal.returns-then-has
returns-then-has c = c.read_mark.ensures

pub returns-else-has : goal.returns-else-has
returns-else-has c = no_mark c.args.mark c.in_ok-c.ensures.0 (c.if-has.ensures ∙ c.bits_in_list.ensures c.args.mark)
