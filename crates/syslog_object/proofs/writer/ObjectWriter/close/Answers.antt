use Rattle.syslog_object.proofs.Names.{◌∙◌, [], arith, on_ok_weaker, rules}
use Rattle.syslog_object.proofs.ElementsLemmas.{any_written, not_empty, written_closed}
use Rattle.syslog_object.proofs.writer.ObjectWriter.close.Goals as goal

pub returns-then-self-gt0 : goal.returns-then-self-gt0
returns-then-self-gt0 c =
    let held = c.requires (search rules) in
    on_ok_weaker c.push.result
    (λ e. e ∙ written_closed _ _ (not_empty _ (omega (arith, held.count))) held) c.push.ensures

pub returns : goal.returns
returns c = on_ok_weaker c.push_elements.result
    (λ e. any_written [] _ _ c.if-is_empty.ensures (rw (c.clear.ensures) at e)) c.push_elements.ensures
