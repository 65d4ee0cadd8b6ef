use Rattle.syslog_c.proofs.Words.{map, ◌∷◌, ◌++◌, TakesText, element_seen, param_value, shown}
use Rattle.std.specs.List.{flat_map}
use Rattle.syslog_elements.specs.StructuredData.Element.{param_text}
use Rattle.syslog_c.proofs.put_line.put_element.Given as goal

abbrev pub invariant-loop-name : goal.invariant-loop-name
invariant-loop-name l = TakesText l.fn.buffer ((91 ∷ (element_seen l.element).id) ++ flat_map param_text
    (map (param_value (λ s. shown s)) l.yielded)) l.buffer
