use Rattle.syslog_elements.proofs.Names.{rules, refl, sym, ap, ◌∙◌, ◌+◌, ℕ, full_element, and_from, and_parts, map}
use Rattle.syslog_elements.proofs.{Names.Some, Names.true, StructuredDataLemmas.Unparsed.full_leaves_none}
use Rattle.syslog_elements.proofs.StructuredDataLemmas.{Elements.strict_some, Tallies.gone_visits, Walk.are_full_items}
use Rattle.syslog_elements.proofs.StructuredDataLemmas.Tallies.{gone_none, gone_all, gone_within, gone_on, gone_tallied}
use Rattle.syslog_elements.proofs.structured_data.line_list.visit_full_elements.Goals as goal

pub elements-init : goal.elements-init
elements-init g c =
    let given = g.V.ElementVisitor.was_given in
    (search rules, gone_none full_element (λ es. es) given _ _ _ refl refl refl refl refl, refl)

pub item_list-requires : goal.item_list-requires
item_list-requires g c =
    let s = c.elements.invariant.1 in
    let all = gone_all _ _ _ s (rw c.in_default.is at c.walk_full_element.ensures.walked) in (
      map Some s.vs,
      are_full_items all,
      gone_tallied s (strict_some s.vs),
      full_leaves_none _ c.elements.invariant.2 all,
    )

pub returns-clause-list : goal.returns-clause-list
returns-clause-list g c =
    let s = c.elements.invariant.1 in
    let all = gone_all _ _ _ s (rw c.in_default.is at c.walk_full_element.ensures.walked) in
    rw (c.item_list.ensures.elements _ (are_full_items all) ∙ sym (strict_some s.vs)) all

pub returns-clause-visited : goal.returns-clause-visited
returns-clause-visited g c =
    let s = c.elements.invariant.1 in
    let all = gone_all _ _ _ s (rw c.in_default.is at c.walk_full_element.ensures.walked) in
    gone_visits s (strict_some s.vs ∙ sym (c.item_list.ensures.elements _ (are_full_items all)))

pub overflow_add-tally : goal.overflow_add-tally
overflow_add-tally g c =
    let within = gone_within _ _ _ c.elements.invariant.1 c.in-Some.ensures.walked.0 c.args.text.now c.utf8.text refl in
    search (rules, within.0)

pub overflow_add-tally-in-Some : goal.overflow_add-tally-in-Some
overflow_add-tally-in-Some g c =
    let within = gone_within _ _ _ c.elements.invariant.1 c.in-Some.ensures.walked.0 c.args.text.now c.utf8.text refl in
    let le = rw (← c.params_len.ensures) at within.1 in
    search rules

pub elements-preserved : goal.elements-preserved
elements-preserved g c =
    let (w, some) = c.in-Some.ensures.walked in
    let params = ap (λ (n : ℕ). c.elements.tally.params + n) c.params_len.ensures in (
      w.utf8,
      gone_on _ _ _ c.elements.invariant.1 w _ refl (w.front.is, some) refl params refl true
          ((λ t. c.elements.invariant.2), (λ e. refl))
          ((λ all. and_from _ _ all refl), (λ all. (and_parts _ _ all).0)) c.element.ensures,
      c.elements.invariant.2,
    )
