use Rattle.syslog_object.proofs
use proofs.Names.{◌∙◌, ℕ, ap, drop, seen, sym, subst, line_value}
use proofs.{WriterLemmas.object_of_parts, WrittenLemmas.text_of_message}
use Rattle.syslog_object.specs.Object.{beside_line, message_json}
use Rattle.syslog_object.specs.Written.{IsTextOf}
use Rattle.syslog_object.proofs.writer.ObjectWriter.put_line.Goals as goal

pub returns-clause-text : goal.returns-clause-text
returns-clause-text c =
    let m = line_value c.args.line.now in
    let (u, left, same) = c.unparsed-unparsed.ensures in
    let beside = beside_line (seen c.args.dialect) u (seen c.args.raw) in
    let back = rw same at c.in_ok-push_back.ensures in
    let again = rw (c.len-start.ensures) at c.in_ok-push_again.ensures in
    let whole = ap (λ (k : ℕ). drop k c.push_back.new.out) c.len-start.ensures
    ∙ object_of_parts m beside _ _ _ _ c.in_ok-close.ensures c.in_ok-push_front.ensures.text again back in (
      u,
      left,
      subst (IsTextOf (message_json m beside)) (sym whole)
          (text_of_message m beside c.in_ok-push_front.ensures.small),
    )
