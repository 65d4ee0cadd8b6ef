use Rattle.syslog_elements.proofs.Names.{rules, refl, sym, ap, subst, ◌+◌, ℕ, [], ◌∷◌, Some, None, chars, item, strict}
use Rattle.syslog_elements.proofs.Names.{IsDead, append-nil}
use Rattle.syslog_elements.proofs.StructuredDataLemmas.Closing.{dead_bytes, dead_suffix, dead_least}
use Rattle.syslog_elements.proofs.StructuredDataLemmas.Elements.{no_item, bracketed_item, strict_append}
use Rattle.syslog_elements.proofs.StructuredDataLemmas.{Unparsed.gone_leaves, Walk.are_items}
use Rattle.syslog_elements.proofs.StructuredDataLemmas.Tallies.{none_told, gone_none, gone_all, gone_within, gone_on}
use Rattle.syslog_elements.proofs.StructuredDataLemmas.Tallies.{gone_past, gone_tallied, gone_visits}
use Rattle.syslog_elements.proofs.structured_data.line_list.visit_items.Goals as goal

pub items-init : goal.items-init
items-init g c =
    let none =
    gone_none item (λ vs. strict vs) g.V.ElementVisitor.was_given _ _ _ refl refl refl refl refl in
    (search rules, dead_bytes c.args.text.now c.utf8.text, none)

pub overflow_add-tally : goal.overflow_add-tally
overflow_add-tally g c =
    let within = gone_within _ _ _ c.items.invariant.2 c.in-Ok.ensures.walked c.args.text.now c.utf8.text refl in
    search (rules, within.0)

pub overflow_add-tally-in-Ok : goal.overflow_add-tally-in-Ok
overflow_add-tally-in-Ok g c =
    let within = gone_within _ _ _ c.items.invariant.2 c.in-Ok.ensures.walked c.args.text.now c.utf8.text refl in
    let le = rw (← c.params_len.ensures) at within.1 in
    search rules

pub items-preserved-in-Ok : goal.items-preserved-in-Ok
items-preserved-in-Ok g c =
    let w = c.in-Ok.ensures.walked in (
      w.utf8,
      dead_suffix _ w.front.piece _ c.items.dead w.front.whole c.items.invariant.1,
      gone_on _ _ _ c.items.invariant.2 w (Some _) (strict_append c.items.invariant.2.vs _) w.front.is refl
          (ap (λ (n : ℕ). c.items.tally.params + n) c.params_len.ensures) refl _
          (none_told _ _ c.is_none.ensures) ((λ all. all), (λ all. all)) c.element.ensures,
    )

pub item_list-requires : goal.item_list-requires
item_list-requires g c =
    let s = c.items.invariant.2 in
    let all = gone_all _ _ _ s (no_item _ c.in-Err.ensures.walked.0 c.in_default.ensures) in (
      _,
      are_items all,
      gone_tallied s refl,
      gone_leaves s (no_item _ c.in-Err.ensures.walked.0 c.in_default.ensures),
    )

pub returns-in_default-clause-list : goal.returns-in_default-clause-list
returns-in_default-clause-list g c =
    let all = gone_all _ _ _ c.items.invariant.2 (no_item _ c.in-Err.ensures.walked.0 c.in_default.ensures) in
    (_, all, c.item_list.ensures.elements _ (are_items all))

pub returns-in_default-clause-visited : goal.returns-in_default-clause-visited
returns-in_default-clause-visited g c =
    let s = c.items.invariant.2 in
    let all = gone_all _ _ _ s (no_item _ c.in-Err.ensures.walked.0 c.in_default.ensures) in
    gone_visits s (sym (c.item_list.ensures.elements _ (are_items all)))

pub items-preserved : goal.items-preserved
items-preserved g c =
    let s = c.items.invariant.2 in
    let f = c.in-Some.ensures.1 in (
      search rules,
      dead_suffix _ f.piece _ _ f.whole (subst (λ (x : ℕ). IsDead (chars c.items.rest.now) x) (sym c.min-dead.ensures)
          (dead_least _ _ _ c.in-Err.ensures.walked.1 c.items.invariant.1)),
      gone_past _ _ _ s c.in-Err.ensures.walked.0 None (rw append-nil at (strict_append s.vs (None ∷ [])))
          (bracketed_item _ _ c.in-Err.ensures.walked.0 f)
          c.items.rest (search rules) refl
          (ap (λ b. record {
            elements = c.items.tally.elements;
            params = c.items.tally.params;
            prints = c.items.tally.prints;
            broken = b;
          }) c.or-tally.ensures),
    )
