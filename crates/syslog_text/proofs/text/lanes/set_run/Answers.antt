use Rattle.syslog_text.proofs.Names.{ℕ, ◌+◌, ◌-◌, ◌%◌, nat_eq, slice_index, nat_lt}
use Rattle.syslog_text.proofs.TextLemmas.Runs.{run_in, lanes, joined, splat, mask_tests}
use Rattle.syslog_text.proofs.text.lanes.set_run.Goals as goal

pub returns : goal.returns
returns c =
    let set = c.args.set in
    let more = joined _ (joined _ (lanes _ _) (lanes _ _)) (lanes _ _) in
    let range = joined _ (lanes _ _) (splat _) in
    let is = λ (x k : ℕ). nat_eq x (slice_index set.2 k) in
    let within = λ (x first count : ℕ). nat_lt ((x + (256 - first)) % 256) count in
    run_in c.requires c.first_set.ensures (joined _ (joined _ (joined _ range more) (splat _))
    (joined _ (lanes _ _) (splat _)))
    (λ x. mask_tests (within x set.0 set.1) (is x 0) (is x 1) (is x 2) set.3 (within x c.args.lowest c.args.width))
