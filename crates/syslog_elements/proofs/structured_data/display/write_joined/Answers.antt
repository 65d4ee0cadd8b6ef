use Rattle.syslog_elements.proofs.Names.{refl, [], put_two, element_text, element_seen}
use Rattle.syslog_text.proofs.TextLemmas.Words.{encodes_more}
use Rattle.syslog_elements.proofs.structured_data.display.write_joined.Goals as goal

pub loop-element-preserved : goal.loop-element-preserved
loop-element-preserved g c = λ canonical.
    let so_far = c.loop-element.invariant canonical in
    put_two _ _ _ _ _ _ _ so_far (c.in_ok-fmt.ensures.writes so_far.plain refl)
    (encodes_more element_text element_seen [] c.loop-element.yielded c.in-Some.element _ refl)
