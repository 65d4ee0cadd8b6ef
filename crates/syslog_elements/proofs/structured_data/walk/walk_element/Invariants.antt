use Rattle.syslog_elements.proofs.Names.{List, length, shadow, Utf8, chars, Text}
use Rattle.syslog_elements.proofs.StructuredDataLemmas.Walk.{AtParam}
use Rattle.syslog_elements.proofs.structured_data.walk.walk_element.Given as goal

abbrev pub invariant-params : goal.invariant-params
invariant-params g l = shadow (Utf8 l.at) × ((ps : List (Text × Text)) × AtParam (chars l.text) (chars l.inside)
    (chars l.at) (chars l.id) ps l.count l.prints × g.N.ParamNotes.noted l.notes ps)

abbrev pub decreases-params : goal.decreases-params
decreases-params g l = length (chars l.at)
