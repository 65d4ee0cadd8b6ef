use Rattle.syslog_object.proofs.Names.{◌∙◌, ap, drop, on_ok_weaker}
use Rattle.syslog_object.proofs.WriterLemmas.{on_extended}
use Rattle.std.proofs.lemmas.List.{take_rest}
use Rattle.syslog_object.proofs.writer.ObjectWriter.write.Goals as goal

pub returns-clause-ok : goal.returns-clause-ok
returns-clause-ok c =
    let (u, left, text) = c.in_ok-start.ensures.text in
    on_ok_weaker c.extend_from_slice.result (λ e. (u, left, (_, text, e)))
    (on_extended c.extend_from_slice.result _ _ _ _ c.extend_from_slice.ensures.items
    (take_rest c.as_slice.result.now _ ∙ ap (drop c.in_ok-start.start) c.as_slice.ensures))
