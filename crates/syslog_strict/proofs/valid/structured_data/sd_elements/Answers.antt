use Rattle.syslog_strict.proofs.Words.{sym, ap, subst, ◌∙◌, is_among, [], ◌∷◌, ◌++◌, arith, Text, HasSeen, ids_of}
use Rattle.syslog_text.proofs.PieceLemmas.Rules.{no_run, one_run, runs_all, runs_more, such_front}
use Rattle.syslog_text.specs.Pieces.Lists.{many}
use Rattle.syslog_strict.proofs.{ElementLemmas.ids_last, GrammarLemmas.element_shorter, GrammarLemmas.no_elements}
use Rattle.syslog_strict.proofs.ValidLemmas.{came, distinct_more, first_seen, still_some}
use Rattle.syslog_strict.specs.Grammar.{AreElements, sd_element}
use Rattle.syslog_strict.proofs.valid.structured_data.sd_elements.Goals as goal

pub returns-in_default : goal.returns-in_default
returns-in_default c = no_elements c.in_default.ensures.reads

pub elements-init : goal.elements-init
elements-init c = let (e, same, f) = c.in-Some.ensures.reads in (
  c.in-Some.ensures.utf8,
  (
    e ∷ [],
    omega arith,
    one_run f no_run,
    subst (λ (x : Text). HasSeen c.insert.new.self (x ∷ [])) (sym same)
        (first_seen c.in_ok-insert.field-0 (c.in_ok-insert.ensures [] c.new-ids.ensures)),
    (tt, tt),
  ),
)

pub returns-then-not-branch : goal.returns-then-not-branch
returns-then-not-branch c = let (es, some, r, h, apart) = c.elements.invariant.1 in
    let (e, same, f) = c.in-Some-sd_element.ensures.reads in
    came es r same f (rw c.if-not-branch.true at (c.in_ok-insert-2.ensures (ids_of es) h))

pub elements-preserved : goal.elements-preserved
elements-preserved c = let (es, some, r, h, apart) = c.elements.invariant.1 in
    let (e, same, f) = c.in-Some-sd_element.ensures.reads in
    let (new, seen) = rw c.if-not-branch.false at (c.in_ok-insert-2.ensures (ids_of es) h) in (
      c.in-Some-sd_element.ensures.utf8,
      (
        es ++ e ∷ [],
        still_some es (e ∷ []) some,
        runs_more r f,
        subst (HasSeen c.insert-in-Some-sd_element.new.self)
            (sym (ids_last es e ∙ ap (λ (x : Text). ids_of es ++ x ∷ []) same)) seen,
        distinct_more es e apart (ap (λ (x : Text). is_among x (ids_of es)) same ∙ new),
      ),
    )

pub elements-smaller : goal.elements-smaller
elements-smaller c = let (e, is, f) = c.in-Some-sd_element.ensures.reads in element_shorter f

pub returns : goal.returns
returns c = let (es, some, r, h, apart) = c.elements.invariant.1 in
    (es, such_front (many sd_element) AreElements (runs_all r c.in_default-sd_element.ensures.reads) (some, apart))
