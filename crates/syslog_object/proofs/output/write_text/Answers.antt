use Rattle.syslog_object.proofs.Names.{ap, arith, take, ◌∙◌, ◌++◌}
use Rattle.std.proofs.lemmas.List.{take_rest}
use Rattle.std.proofs.lemmas.Result.{IfOk-weaker}
use Rattle.syslog_object.proofs.BlockLemmas.{all_plain, text_written}
use Rattle.syslog_object.proofs.output.write_text.Goals as goal

pub returns-then-plain-text-clause-text : goal.returns-then-plain-text-clause-text
returns-then-plain-text-clause-text c =
    let plain = c.write_plain-plain.ensures in
    plain.text ∙ ap (λ xs. take c.args.at c.args.bytes.now.items ++ xs)
    (all_plain c.args.is_raw c.args.text.now _ (omega arith) plain.plain)

pub returns-clause-text : goal.returns-clause-text
returns-clause-text c =
    let plain = c.write_plain-plain.ensures in
    IfOk-weaker c.put_escaped.result _ _
    (λ end e. text_written c.args.is_raw c.args.text.now c.args.bytes.now.items _ _ _ c.args.at _ end plain.within
    plain.plain (take_rest c.args.text.now _) plain.text e) c.put_escaped.ensures.text
