use Rattle.syslog_elements.proofs.Names.{rules, List, length, ap, sym, ◌∙◌, arith, many, item, many_det, sum_by}
use Rattle.syslog_elements.proofs.Names.{ElementValue, chars-nil, elements_text, optional, optional_some}
use Rattle.syslog_text.proofs.PieceLemmas.Class.{optional_det}
use Rattle.syslog_elements.{proofs.StructuredDataLemmas.Walk.one_meaning, specs.StructuredData.Pairs.pairs}
use Rattle.syslog_elements.proofs.StructuredDataLemmas.Elements.{item_det, no_items_here}
use Rattle.syslog_elements.proofs.StructuredDataLemmas.{Pairs.pairs_are, Pairs.pairs_det, Unparsed.nothing_leaves}
use Rattle.syslog_elements.proofs.structured_data.recognised.ElementList.of_pairs.Goals as goal

pub invariant_of-result : goal.invariant_of-result
invariant_of-result c =
    let (q, (ps, f, e)) = c.requires in
    let m = one_meaning (many item) (many_det item item_det) (no_items_here _ chars-nil) in
    let p = one_meaning (optional pairs) (optional_det pairs pairs_det) (optional_some pairs f) in
    let same = pairs_are p m chars-nil f in
    record {
      utf8 = search rules;
      meaning = m;
      paired = p;
      counted = sym (ap length same);
      params_counted = omega (arith, e, ap (λ (es : List ElementValue). sum_by (λ x. length x.params) es) same);
      unparsed_utf8 = search rules;
      left = nothing_leaves _ chars-nil;
      prints = λ some. absurd (omega (arith, some));
      differs = λ flag printed. (let k = sym chars-nil ∙ printed ∙ ap elements_text same in cc);
    }

pub returns-clause-elements : goal.returns-clause-elements
returns-clause-elements c q ps f = pairs_are _ _ chars-nil f

pub returns-clause-text : goal.returns-clause-text
returns-clause-text c = chars-nil
