use Rattle.syslog_strict.proofs.Words.{[], ◌∷◌, ◌++◌}
use Rattle.syslog_text.proofs.PieceLemmas.Rules.{after_shorter, no_run, runs_all, runs_more}
use Rattle.syslog_strict.specs.Grammar.{sd_param}
use Rattle.syslog_strict.proofs.valid.structured_data.params.Goals as goal

pub params-init : goal.params-init
params-init c = (c.utf8.text, ([], no_run))

pub params-preserved : goal.params-preserved
params-preserved c = let (ps, r) = c.params.invariant.1 in let (p, f) = c.in-Some.ensures.reads in
    (c.in-Some.ensures.utf8, (ps ++ p ∷ [], runs_more r f))

pub params-smaller : goal.params-smaller
params-smaller c = after_shorter 32 sd_param c.in-Some.ensures.reads.1

pub returns : goal.returns
returns c = let (ps, r) = c.params.invariant.1 in (ps, runs_all r c.in_default.ensures.reads)
