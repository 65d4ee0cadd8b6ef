use Rattle.syslog_object.proofs.Names.{◌∙◌, arith, length-append, encodes-chars, encode_utf8_all, element_seen}
use Rattle.syslog_object.proofs.Names.{◌+◌, ◌∷◌, [], ap, sym}
use Rattle.std.proofs.lemmas.List.{length-set}
use Rattle.syslog_object.proofs.WriterLemmas.{ids_added, keys_distinct, not_err, text_added}
use Rattle.syslog_object.proofs.writer.ObjectWriter.add.Goals as goal

pub returns : goal.returns
returns c es h =
    let old = c.args.self.now in
    let e = element_seen c.args.element.now in
    let same = sym (encodes-chars c.id-id.result.now c.id-id.utf8) ∙ ap encode_utf8_all c.id-id.ensures in
    record {
      text = text_added es e _ _ _ old.count _ h.text h.count same c.in-Some.ensures c.if-not-are_distinct.ensures
          (not_err c.push_element.result (sym c.if-is_err.ensures.value) c.push_element.ensures);
      sized = length-set old.ids old.count c.id-id.result ∙ h.sized;
      count = ap (λ n. n + 1) h.count ∙ sym (length-append es (e ∷ []));
      ids = ids_added es e old.ids old.count c.id-id.result (omega (arith, c.if-self-ge8.false, h.sized)) h.ids same;
      distinct = keys_distinct es e _ _ h.distinct h.ids same c.if-not-is_new_id.ensures;
    }
