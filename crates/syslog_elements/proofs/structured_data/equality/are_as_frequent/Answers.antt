use Rattle.syslog_elements.proofs.Names.{◌∙◌, sym, and_from, take_all, text_of, ne_eqb, list_all_more, list_all_at}
use Rattle.std.proofs.lemmas.Bool.{eq-eqb}
use Rattle.syslog_elements.proofs.StructuredDataLemmas.Units.{counts_agree-map}
use Rattle.syslog_elements.proofs.structured_data.equality.are_as_frequent.Goals as goal

pub returns-then-count_param : goal.returns-then-count_param
returns-then-count_param g c =
    sym (counts_agree-map (text_of g.S.AsStr.text) c.args.a.now c.args.a.now c.args.b.now ∙ list_all_at _ c.args.a.now _
    c.param-item.result c.loop-param-test.true (rw c.param-item.is at (rw (
      c.count_param.ensures,
      c.count_param-in-loop-param.ensures,
    ) at (ne_eqb _ _ c.if-count_param.true))))

pub loop-param-preserved : goal.loop-param-preserved
loop-param-preserved g c =
    list_all_more _ _ _ c.param-item.result c.loop-param-test.true ∙ and_from _ _ c.loop-param.invariant
    (rw c.param-item.is at (rw (c.count_param.ensures, c.count_param-in-loop-param.ensures) at
    (eq-eqb _ _ c.if-count_param.false)))

pub returns : goal.returns
returns g c = sym (counts_agree-map (text_of g.S.AsStr.text) c.args.a.now c.args.a.now c.args.b.now
    ∙ rw (take_all _ c.args.a.now c.loop-param-test.false) at c.loop-param.invariant)
