use Rattle.syslog_loose.proofs.Names.{◌<◌, ◌↔◌, List, length, AllByRecursion, ElementValue, elements_left}
use Rattle.syslog_loose.proofs.Names.{list_elements}
use Rattle.syslog_loose.proofs.line.have_params.Given as goal

abbrev pub HaveParams : List ElementValue → Type 0
HaveParams es = AllByRecursion (λ e. 0 < length e.params) es

-- each element that is left has a parameter exactly where each of the list has
abbrev pub invariant-loop-element : goal.invariant-loop-element
invariant-loop-element l = (goal.iterator-loop-element).can_next l.element-iterator
    × (goal.iterator-loop-element).is_finite l.element-iterator
    × (HaveParams (elements_left l.element-iterator) ↔ HaveParams (list_elements l.list))
