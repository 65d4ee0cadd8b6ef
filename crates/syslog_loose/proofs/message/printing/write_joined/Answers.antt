use Rattle.syslog_loose.proofs.Names.{arith, refl, [], put_two, element_text, element_value, text_of, take_all}
use Rattle.syslog_loose.proofs.Names.{encodes_step, flat_map-map}
use Rattle.syslog_loose.proofs.message.printing.write_joined.Goals as goal

pub loop-element-preserved : goal.loop-element-preserved
loop-element-preserved g c = λ canonical.
    let so_far = c.loop-element.invariant canonical in
    put_two _ _ _ _ _ _ _ so_far (c.in_ok-fmt.ensures.writes so_far.plain refl)
    (encodes_step (λ e. element_text (element_value (text_of g.S.AsStr.text) e)) [] _ c.loop-element.element-index _ _
    c.loop-element-test.true c.element-item.is refl)

pub returns : goal.returns
returns g c canonical ok = grind (arith, take_all, flat_map-map)
