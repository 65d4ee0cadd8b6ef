use Rattle.syslog_elements.proofs.Names.{rules, ap, length, ◌∙◌, sym, one_value-is}
use Rattle.syslog_elements.specs.StructuredData.Pairs.{inside_of, pair_id}
use Rattle.syslog_elements.specs.declared.structured_data.pairs.Notation.TheVariants.{Colons}
use Rattle.std.proofs.lemmas.Str.{chars-IsAscii}
use Rattle.syslog_elements.proofs.StructuredDataLemmas.Pairs.{ascii_id, pairs_det, seen_pairs}
use Rattle.syslog_elements.proofs.StructuredDataLemmas.Walk.{one_meaning}
use Rattle.syslog_elements.proofs.structured_data.recognised.Element.of_pairs.Goals as goal

pub invariant_of-result : goal.invariant_of-result
invariant_of-result c =
    let (q, (ps, f, e)) = c.requires in
    let m = one_meaning (inside_of Colons) pairs_det f in
    record {
      id_utf8 = search rules;
      utf8 = search rules;
      meaning = m;
      counted = e ∙ sym (ap (λ v. length v.0) (one_value-is m f));
    }

pub returns : goal.returns
returns c q ps f = seen_pairs _ (chars-IsAscii pair_id ascii_id) f
