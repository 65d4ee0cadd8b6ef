use Rattle.syslog_elements.proofs.Names.{rules, ap, length, ◌∙◌, sym, one_value-is}
use Rattle.syslog_elements.proofs.StructuredDataLemmas.Elements.{inside_det, seen_is}
use Rattle.syslog_elements.{proofs.StructuredDataLemmas.Walk.one_meaning, specs.StructuredData.Pairs.inside_of}
use Rattle.syslog_elements.specs.declared.structured_data.pairs.Notation.TheVariants.{Equals}
use Rattle.syslog_elements.proofs.structured_data.recognised.Element.new.Goals as goal

pub invariant_of-result : goal.invariant_of-result
invariant_of-result c =
    let (q, (ps, f, e)) = c.requires in
    let m = one_meaning (inside_of Equals) inside_det f in
    record {
      id_utf8 = search rules;
      utf8 = search rules;
      meaning = m;
      counted = e ∙ sym (ap (λ v. length v.0) (one_value-is m f));
    }

pub returns : goal.returns
returns c q ps f = seen_is _ f
