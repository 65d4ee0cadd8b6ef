use Rattle.syslog_loose.proofs.Names.{◌%◌, ◌∷◌, [], arith, on_ok_weaker, ◌/◌}
use Rattle.syslog_loose.proofs.SettlingLemmas.Settles.{pushed_twice}
use Rattle.syslog_loose.proofs.jumps.push_colons.Goals as goal

pub returns : goal.returns
returns c =
    let n = c.args.count in
    on_ok_weaker c.push_runs-2.result (pushed_twice (32 ∷ 58 ∷ []) _ _ _ (n / 16) 16 (n % 16) n (omega arith)
    c.in_ok-push_runs.ensures) c.push_runs-2.ensures
