use Rattle.syslog_elements.proofs.Names.{rules, ap, sym, subst, ◌∙◌, ℕ, chars, IsDead, strict, optional, optional_none}
use Rattle.syslog_elements.{proofs.Names.chars-nil, specs.StructuredData.Pairs.pairs}
use Rattle.syslog_text.proofs.PieceLemmas.Class.{optional_det}
use Rattle.syslog_elements.proofs.StructuredDataLemmas.{Closing.dead_suffix, Closing.dead_least, Pairs.strict_left}
use Rattle.syslog_elements.proofs.StructuredDataLemmas.Elements.{element_item, no_item, bracketed_item}
use Rattle.syslog_elements.proofs.StructuredDataLemmas.Pairs.{after_item, after_pairs, no_pairs_empty, pairs_det}
use Rattle.syslog_elements.proofs.StructuredDataLemmas.Walk.{items_less, no_elements, one_meaning}
use Rattle.syslog_elements.proofs.structured_data.recognised_items.ElementsIterator.next.Goals as goal

pub invariant_of-self : goal.invariant_of-self
invariant_of-self c =
    let it = c.args.self.now in
    record {
      utf8 = it.utf8;
      pairs_utf8 = search rules;
      is_dead = it.is_dead;
      meaning = it.meaning;
      paired = one_meaning (optional pairs) (optional_det pairs pairs_det)
          (optional_none pairs (no_pairs_empty chars-nil));
    }

pub returns-in-Some-clause-steps : goal.returns-in-Some-clause-steps
returns-in-Some-clause-steps c =
    let it = c.args.self.now in
    let (q, (ps, f, n)) = c.in-Some.ensures in
    after_pairs it.paired _ it.meaning _ _ f chars-nil (c.of_pairs-element.ensures q ps f)

pub returns-in-Some-clause-goes : goal.returns-in-Some-clause-goes
returns-in-Some-clause-goes c = let h = returns-in-Some-clause-steps c in search rules

pub items-init : goal.items-init
items-init c =
    let it = c.args.self.now in
    let same = strict_left it.paired it.meaning it.meaning c.in_default.ensures in
    (it.utf8, it.is_dead, c.in_default.ensures, (it.meaning, same, same))

pub invariant_of-self-in-Ok : goal.invariant_of-self-in-Ok
invariant_of-self-in-Ok c =
    let w = c.in-Ok.ensures.walked in
    let dead = dead_suffix _ w.front.piece _ c.items.dead w.front.whole c.items.invariant.1 in
    let (k, e) = items_less c.items.invariant.3.0 (element_item _ _ _ w.front) in
    let it = c.items.self in
    record { utf8 = w.utf8; pairs_utf8 = it.pairs_utf8; is_dead = dead; meaning = k; paired = it.paired }

pub returns-in-Ok-clause-steps : goal.returns-in-Ok-clause-steps
returns-in-Ok-clause-steps c =
    let (m, same, kept) = c.items.invariant.3 in
    let (k, e) = items_less m (element_item _ _ _ c.in-Ok.ensures.walked.front) in
    after_item _ k _ c.items.invariant.2 (same ∙ ap strict e)

pub returns-in-Ok-clause-goes : goal.returns-in-Ok-clause-goes
returns-in-Ok-clause-goes c = let h = returns-in-Ok-clause-steps c in search rules

pub returns-in_err-rest-in-Err-clause-steps : goal.returns-in_err-rest-in-Err-clause-steps
returns-in_err-rest-in-Err-clause-steps c =
    let (m, same, kept) = c.items.invariant.3 in
    let none = ap strict (no_elements m (no_item _ c.in-Err.ensures.walked.0 c.in_err-rest-in-Err.ensures)) in
    rw c.from_residual.ensures (same ∙ none, kept ∙ none)

pub items-preserved : goal.items-preserved
items-preserved c =
    let (m, same, kept) = c.items.invariant.3 in
    let f = c.in_ok-rest-in-Err.ensures.1 in
    let (k, e) = items_less m (bracketed_item _ _ c.in-Err.ensures.walked.0 f) in (
      search rules,
      dead_suffix _ f.piece _ _ f.whole (subst (λ (x : ℕ). IsDead (chars c.items.rest.now) x) (sym c.min-dead.ensures)
          (dead_least _ _ _ c.in-Err.ensures.walked.1 c.items.invariant.1)),
      c.items.invariant.2,
      (k, same ∙ ap strict e, kept ∙ ap strict e),
    )
