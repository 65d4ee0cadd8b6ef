use Rattle.syslog_pieces.proofs.Names.{refl, rules, FitsSigned, w32, to_z-of_z}
use Rattle.syslog_pieces.proofs.TimestampLemmas.Civil.{early_in_range}
use Rattle.syslog_pieces.proofs.timestamp.instant.clock_stamp.Goals as goal

pub invariant_of-result : goal.invariant_of-result
invariant_of-result c =
    let civil = c.if-is_early.ensures.civil refl in
    record {
      civil = civil;
      in_range = early_in_range c.args.fields c.args.offset civil (c.if-is_early.ensures.year refl);
    }

pub invariant_of-result-then-is_there : goal.invariant_of-result-then-is_there
invariant_of-result-then-is_there c =
    let fits : FitsSigned w32 c.args.fields.year = search rules in
    let there = simp to_z-of_z at c.if-is_there.ensures.0 refl in
    record { civil = there.0; in_range = there.1 }
