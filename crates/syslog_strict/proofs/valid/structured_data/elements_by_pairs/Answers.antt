use Rattle.syslog_strict.proofs.Words.{refl, sym, subst, List, [], ◌∷◌, ◌++◌, arith, append_assoc, append-nil}
use Rattle.syslog_strict.proofs.Words.{ElementValue, AreDistinct, ids_of}
use Rattle.std.proofs.lemmas.List.{length-append}
use Rattle.syslog_strict.proofs.ValidLemmas.{has_some, fresh, repeats}
use Rattle.syslog_text.proofs.PieceLemmas.Rules.{such_reads, no_run, runs_all, runs_more}
use Rattle.syslog_text.proofs.PieceLemmas.Lists.{many_det, many_cons, many_here}
use Rattle.syslog_strict.proofs.GrammarLemmas.{element_det, element_shorter}
use Rattle.syslog_text.specs.Pieces.Lists.{many}
use Rattle.syslog_strict.specs.Grammar.{AreElements, sd_element}
use Rattle.syslog_strict.proofs.valid.structured_data.elements_by_pairs.Goals as goal

pub elements-init : goal.elements-init
elements-init c = (c.utf8.text, ([], refl, no_run, (λ q us h apart. apart)))

pub returns-then-has_id : goal.returns-then-has_id
returns-then-has_id c = let (es, some, r, h) = c.elements.invariant.1 in let (e, same, f) = c.in-Some.ensures.reads in
    repeats es r same f (λ q us k. sym (c.if-has_id.ensures q us k))

pub elements-preserved : goal.elements-preserved
elements-preserved c = let (es, some, r, h) = c.elements.invariant.1 in let (e, same, f) = c.in-Some.ensures.reads in (
  c.in-Some.ensures.utf8,
  (
    es ++ e ∷ [],
    omega (arith, length-append es (e ∷ [])),
    runs_more r f,
    (λ q us k apart. subst (λ (x : List ElementValue). AreDistinct (ids_of x)) (sym (append_assoc es (e ∷ []) us))
        (h q (e ∷ us) (many_cons sd_element f k) (fresh e same us (sym (c.if-has_id.ensures q us k)) apart))),
  ),
)

pub elements-smaller : goal.elements-smaller
elements-smaller c = let (e, is, f) = c.in-Some.ensures.reads in element_shorter f

pub returns : goal.returns
returns c = let (es, some, r, h) = c.elements.invariant.1 in
    let n = c.in_default.ensures.reads in
    such_reads (many sd_element) AreElements (many_det sd_element element_det) _ c.elements.has_one _ (runs_all r n)
    (has_some c.elements.has_one es some (subst (λ (x : List ElementValue). AreDistinct (ids_of x)) (append-nil es)
    (h _ [] (many_here sd_element _ n) tt))) c.then_some.ensures
