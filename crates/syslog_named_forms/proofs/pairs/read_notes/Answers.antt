use Rattle.syslog_named_forms.proofs.Names.{[], ◌++◌, ◌∙◌, ◌∷◌, ap, no_run, Noted, noted_more, refl, runs_all}
use Rattle.syslog_named_forms.proofs.Names.{runs_more, shown, sym}
use Rattle.syslog_named_forms.proofs.PairLemmas.{noted_push, pair_shorter}
use Rattle.syslog_named_forms.specs.PairViews.{pair_value}
use Rattle.syslog_named_forms.proofs.pairs.read_notes.Goals as goal

pub pairs-init : goal.pairs-init
pairs-init c = (c.utf8.text, ([], no_run, refl))

pub pairs-preserved : goal.pairs-preserved
pairs-preserved c = let (ps, r, e) = c.pairs.invariant.1 in let f = c.in-Some.ensures.reads in (
  c.in-Some.ensures.utf8,
  (
    ps ++ pair_value c.in-Some.pair ∷ [],
    runs_more r f,
    c.noted_more-notes.ensures ∙ ap (λ (n : Noted). noted_more n (shown c.in-Some.pair.key)
        (shown c.in-Some.pair.value)) e
        ∙ sym (noted_push ps (pair_value c.in-Some.pair)),
  ),
)

pub pairs-smaller : goal.pairs-smaller
pairs-smaller c = pair_shorter c.in-Some.ensures.reads

pub returns : goal.returns
returns c = let (ps, r, e) = c.pairs.invariant.1 in (ps, _, runs_all r c.in_default.ensures.reads, e)
