use Rattle.syslog_loose.proofs.Names.{◌++◌, ◌∙◌, ap, length, List, ℕ, rules, arith, length-append}
use Rattle.syslog_loose.proofs.SettlingLemmas.Settles.{cut_on}
use Rattle.syslog_loose.proofs.jumps.cut_runs.Goals as goal

pub cuts-preserved : goal.cuts-preserved
cuts-preserved c =
    let (u, fits, k) = c.cuts.invariant in
    let short = c.in-Some.shorter.now in
    let (s, ends) = c.in-Some.ensures in (
      search rules,
      omega (arith, fits, ap length s, length-append short c.args.run.now),
      cut_on _ _ short _ _ k (s ∙ ap (λ (x : List ℕ). short ++ x) c.requires.colons) (λ l. ends),
    )
