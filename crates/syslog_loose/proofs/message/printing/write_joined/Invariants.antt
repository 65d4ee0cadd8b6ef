use Rattle.syslog_loose.proofs.Names.{◌++◌, [], take, flat_map, encode_utf8_all, element_text, element_value, text_of}
use Rattle.std.specs.Fmt.{HasWritten, IsPlainFormatter}
use Rattle.syslog_loose.proofs.message.printing.write_joined.Given as goal

abbrev pub invariant-loop-element : goal.invariant-loop-element
invariant-loop-element g l =
    IsPlainFormatter l.fn.f → HasWritten g.W.Write.write_str_gives l.fn.f (encode_utf8_all ([] ++ flat_map (λ e.
    element_text (element_value (text_of g.S.AsStr.text) e)) (take l.element-index l.elements))) l.f
