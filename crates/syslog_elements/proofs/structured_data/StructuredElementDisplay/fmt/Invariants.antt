use Rattle.syslog_elements.proofs.Names.{◌∷◌, ◌++◌, take, flat_map, encode_utf8_all, param_text, param_value, text_of}
use Rattle.syslog_elements.proofs.Names.{HasWritten, IsPlainFormatter}
use Rattle.syslog_elements.proofs.structured_data.StructuredElementDisplay.fmt.Given as goal

abbrev pub invariant-loop-name : goal.invariant-loop-name
invariant-loop-name g l =
    IsPlainFormatter l.fn.f → HasWritten g.W.Write.write_str_gives l.fn.f (encode_utf8_all ((91 ∷ text_of g.S.AsStr.text
    l.self.id) ++ flat_map (λ p. param_text (param_value (text_of g.S.AsStr.text) p)) (take l.name-index l.name-items)))
    l.f
