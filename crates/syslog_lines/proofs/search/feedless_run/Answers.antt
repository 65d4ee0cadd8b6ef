use Rattle.syslog_lines.{proofs.LaneLemmas.run_from_mask, proofs.Names.ℕ, proofs.Names.refl, proofs.Names.length-chunk}
use Rattle.std.proofs.lemmas.Simd.{zip2_splat}
use lib.Lanes.{chunk}
use Rattle.syslog_lines.proofs.search.feedless_run.Goals as goal

pub returns : goal.returns
returns c =
    let v = chunk c.args.at 64 c.args.bytes.now in
    let long = length-chunk c.args.at 64 c.args.bytes.now c.requires in
    run_from_mask c.args.bytes.now c.args.at _ _ c.requires refl (zip2_splat {Y = ℕ} _ v 64 10 long)
