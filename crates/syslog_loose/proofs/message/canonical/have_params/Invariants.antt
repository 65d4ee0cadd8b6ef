use Rattle.syslog_loose.proofs.Names.{◌<◌, length, map, take, AllByRecursion, text_of, element_value}
use Rattle.syslog_loose.proofs.message.canonical.have_params.Given as goal

abbrev pub invariant-loop-element : goal.invariant-loop-element
invariant-loop-element g l = AllByRecursion (λ e. 0 < length e.params)
    (map (element_value (text_of g.S.AsStr.text)) (take l.element-index l.elements))
