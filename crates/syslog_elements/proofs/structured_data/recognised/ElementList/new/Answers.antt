use Rattle.std.specs.Prelude.{chars}
use Rattle.syslog_elements.proofs.Names.{◌++◌, rules, List, length, ap, sym, ◌∙◌, many, item, optional, optional_none}
use Rattle.syslog_elements.proofs.Names.{many_det, ElementValue, sum_by, elements_text}
use Rattle.syslog_text.proofs.PieceLemmas.Class.{optional_det}
use Rattle.syslog_elements.{proofs.StructuredDataLemmas.Walk.one_meaning, specs.StructuredData.Pairs.pairs}
use Rattle.syslog_elements.proofs.StructuredDataLemmas.Elements.{item_det}
use Rattle.syslog_elements.proofs.StructuredDataLemmas.Pairs.{elements_are, left_of_text, no_pairs_in, pairs_det}
use Rattle.syslog_elements.proofs.structured_data.recognised.ElementList.new.Goals as goal

pub invariant_of-result : goal.invariant_of-result
invariant_of-result c =
    let (q, (vs, f, n, k, left, p, o)) = c.requires in
    let text = c.args.text.now in
    let unparsed = c.args.unparsed.now in
    let m = one_meaning (many item) (many_det item item_det) f in
    let none = one_meaning (optional pairs) (optional_det pairs pairs_det)
    (optional_none pairs (no_pairs_in text unparsed left)) in
    let same = elements_are text unparsed none m left f in
    record {
      utf8 = search rules;
      meaning = m;
      paired = none;
      counted = n ∙ sym (ap length same);
      params_counted = k ∙ sym (ap (λ (es : List ElementValue). sum_by (λ e. length e.params) es) same);
      unparsed_utf8 = search rules;
      left = left_of_text text unparsed left;
      prints = λ flag. p flag ∙ ap (λ es. elements_text es ++ chars unparsed) (sym same);
      differs = λ flag printed. o flag (printed ∙ ap elements_text same);
    }

pub returns-clause-elements : goal.returns-clause-elements
returns-clause-elements c q vs f =
    let (r, (ws, g, n, k, left, p, o)) = c.requires in
    elements_are c.args.text.now c.args.unparsed.now _ _ left f
