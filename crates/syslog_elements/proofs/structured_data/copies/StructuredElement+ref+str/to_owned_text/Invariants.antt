use Rattle.syslog_elements.proofs.Names.{◌≡◌, map, take, string_bytes, shown, text_of, param_value}
use Rattle.syslog_elements.proofs.structured_data.copies.StructuredElement+ref+str.to_owned_text.Given as goal

abbrev pub invariant-loop-name : goal.invariant-loop-name
invariant-loop-name l =
    map (param_value (text_of string_bytes)) l.params.items
    ≡ map (param_value (λ s. shown s)) (take l.name-index l.name-items)
