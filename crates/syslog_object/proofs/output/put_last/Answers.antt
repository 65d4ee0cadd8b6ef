use Rattle.syslog_object.proofs.Names.{arith, ◌∙◌}
use Rattle.syslog_object.proofs.BlockLemmas.{brackets_off, kept_less}
use Rattle.syslog_object.proofs.output.put_last.Goals as goal

pub overflow_sub-result-2 : goal.overflow_sub-result-2
overflow_sub-result-2 c =
    let (within, longer, most, held) = c.blocks-2.invariant in
    (brackets_off c.args.is_raw c.args.text.now c.blocks-2.bytes.items _ _ c.blocks-2.at c.blocks-2.next
    c.copy_to_front.ensures c.requires.few (omega arith) (omega (arith, most))
    (omega (arith, within, c.blocks-2.bytes.ok.0)) held).0

pub returns-clause-text : goal.returns-clause-text
returns-clause-text c =
    let (within, longer, most, held) = c.blocks-2.invariant in
    let off = brackets_off c.args.is_raw c.args.text.now c.blocks-2.bytes.items _ _ c.blocks-2.at c.blocks-2.next
    c.copy_to_front.ensures c.requires.few (omega arith) (omega (arith, most))
    (omega (arith, within, c.blocks-2.bytes.ok.0)) held in
    kept_less _ c.blocks-2.at c.blocks-2.bytes.items c.reserve-2.new.bytes.items c.reserve-2.ensures.kept
    (omega arith) ∙ off.1
