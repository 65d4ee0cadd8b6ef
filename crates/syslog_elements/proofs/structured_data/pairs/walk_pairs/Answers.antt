use Rattle.std.proofs.Common.{inl, refl}
use Rattle.syslog_elements.proofs.Names.{rules, arith, no_row, row_of, ◌past◌, ◌then◌}
use Rattle.syslog_text.proofs.PieceLemmas.Rules.{runs_all, runs_more}
use Rattle.syslog_elements.specs.StructuredData.Pairs.{pairs_row}
use Rattle.syslog_elements.proofs.StructuredDataLemmas.Pairs.{one_more, pair_shorter, pairs_row_det}
use Rattle.syslog_elements.proofs.structured_data.pairs.walk_pairs.Goals as goal

pub pairs-preserved : goal.pairs-preserved
pairs-preserved c =
    let (ps, runs, same, room) = c.pairs.invariant.1 in (
      search rules,
      (
        _,
        runs_more runs c.in-Some.ensures,
        one_more c.pairs.count ps c.in-Some.ensures same,
        omega (arith, room, pair_shorter c.in-Some.ensures),
      ),
    )

pub returns-in_err-after : goal.returns-in_err-after
returns-in_err-after c =
    let (ps, runs, same, room) = c.pairs.invariant.1 in
    rw c.from_residual.ensures (no_row pairs_row pairs_row_det
    (runs_all runs c.in_default.ensures past inl c.in_err-after.ensures))

pub returns : goal.returns
returns c =
    let (ps, runs, same, room) = c.pairs.invariant.1 in
    (ps, row_of pairs_row (runs_all runs c.in_default.ensures then c.in_ok-after.ensures then refl), same)
