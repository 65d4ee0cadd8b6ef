use Rattle.syslog_elements.proofs.Names.{map, ◌∷◌, ◌++◌, flat_map, encode_utf8_all, param_text, param_value, shown}
use Rattle.syslog_elements.proofs.Names.{HasWritten, IsPlainFormatter, element_seen}
use Rattle.syslog_elements.proofs.structured_data.display.ElementDisplay.fmt.Given as goal

abbrev pub invariant-loop-name : goal.invariant-loop-name
invariant-loop-name g l =
    IsPlainFormatter l.fn.f → HasWritten g.W.Write.write_str_gives l.fn.f (encode_utf8_all ((91 ∷ (element_seen
    l.self).id) ++ flat_map param_text (map (param_value (λ s. shown s)) l.yielded))) l.f
