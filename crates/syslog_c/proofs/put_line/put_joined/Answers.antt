use Rattle.syslog_c.proofs.Words.{[], element_seen}
use Rattle.syslog_elements.specs.StructuredData.Element.{element_text}
use Rattle.syslog_c.proofs.TextLemmas.{more_text, text_after, text_along, text_none}
use Rattle.syslog_c.proofs.put_line.put_joined.Goals as goal

pub loop-element-init : goal.loop-element-init
loop-element-init c = text_none c.args.buffer.now

pub loop-element-preserved : goal.loop-element-preserved
loop-element-preserved c =
    text_along _ _ _ _ (more_text element_text element_seen [] c.loop-element.yielded c.in-Some.element)
    (text_after _ _ _ _ _ c.loop-element.invariant c.put_element.ensures)
