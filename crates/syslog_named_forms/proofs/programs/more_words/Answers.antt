use Rattle.syslog_named_forms.proofs.Names.{[], ◌++◌, ◌∷◌, later_word, no_run, runs_all, runs_more}
use Rattle.syslog_text.proofs.PieceLemmas.Rules.{after_shorter}
use Rattle.syslog_named_forms.proofs.programs.more_words.Goals as goal

pub words-init : goal.words-init
words-init c = (c.utf8.text, ([], no_run))

pub words-preserved : goal.words-preserved
words-preserved c = let (ps, r) = c.words.invariant.1 in let (p, f) = c.in-Some.ensures.reads in
    (c.in-Some.ensures.utf8, (ps ++ p ∷ [], runs_more r f))

pub words-smaller : goal.words-smaller
words-smaller c = after_shorter 32 later_word c.in-Some.ensures.reads.1

pub returns : goal.returns
returns c = let (ps, r) = c.words.invariant.1 in (ps, runs_all r c.in_default.ensures.reads)
