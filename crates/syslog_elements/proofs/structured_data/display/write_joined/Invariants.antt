use Rattle.syslog_elements.proofs.Names.{map, [], ◌++◌, flat_map, encode_utf8_all, HasWritten, IsPlainFormatter}
use Rattle.syslog_elements.proofs.Names.{element_text, element_seen}
use Rattle.syslog_elements.proofs.structured_data.display.write_joined.Given as goal

abbrev pub invariant-loop-element : goal.invariant-loop-element
invariant-loop-element g l =
    IsPlainFormatter l.fn.f → HasWritten g.W.Write.write_str_gives l.fn.f (encode_utf8_all ([] ++ flat_map element_text
    (map element_seen l.yielded))) l.f
