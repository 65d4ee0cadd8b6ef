use Rattle.syslog_named_forms.proofs.Names.{refl}
use Rattle.syslog_named_forms.proofs.UntaggedLemmas.{all_begun, all_others, no_mark_empty}
use Rattle.syslog_named_forms.proofs.marks.Marks.of.Goals as goal

pub returns-in_default : goal.returns-in_default
returns-in_default c m n = no_mark_empty m c.in_default.ensures

pub returns-then-bits-others : goal.returns-then-bits-others
returns-then-bits-others c = all_begun _ c.in-Some.ensures.0 c.bits_in_list-bits.ensures

pub returns-then-may_be_list : goal.returns-then-may_be_list
returns-then-may_be_list c = all_begun _ c.in-Some.ensures.0 c.bits_in_list-bits.ensures

pub returns : goal.returns
returns c = all_others _ c.in-Some.ensures.0 c.other_bits-others.ensures (c.if-may_be_list.ensures refl)
