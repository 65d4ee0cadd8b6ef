use Rattle.syslog_object.proofs.Names.{◌≡◌, ◌+◌, ◌≤◌, arith, length, subst, PlainBetween}
use Rattle.syslog_object.proofs.BlockLemmas.{first_stop, no_stop, plain_to, stored_to}
use Rattle.syslog_object.proofs.blocks.put_plain_blocks.Goals as goal

pub returns-then-stops-ne0 : goal.returns-then-stops-ne0
returns-then-stops-ne0 g c =
    let stop = first_stop (omega arith) c.stops-stops.ensures (omega arith) in record {
      within = omega (arith, stop.within, c.blocks-2.invariant.0);
      plain = plain_to c.args.text.now c.blocks-2.seen _ c.blocks-2.invariant.1 stop.plain;
      text = stored_to g.row.N c.args.at c.blocks-2.seen _ c.args.room.now _ _ _ c.blocks-2.invariant.2
          c.put_lanes.ensures (omega (arith, stop.within)) (omega arith);
    }

pub returns-then-seen-length : goal.returns-then-seen-length
returns-then-seen-length g c =
    let text = c.args.text.now in
    let none = no_stop c.stops-stops.ensures (omega arith) in
    let all : c.blocks-2.seen + g.row.N ≡ length text = omega arith in record {
      within = omega arith;
      plain = subst (PlainBetween text 0) all (plain_to text c.blocks-2.seen g.row.N c.blocks-2.invariant.1 none);
      text = stored_to g.row.N c.args.at c.blocks-2.seen _ c.args.room.now _ _ text c.blocks-2.invariant.2
          c.put_lanes.ensures (omega arith) (omega arith);
    }

pub blocks-2-preserved : goal.blocks-2-preserved
blocks-2-preserved g c =
    let text = c.args.text.now in
    let plain = plain_to text c.blocks-2.seen g.row.N c.blocks-2.invariant.1
    (no_stop c.stops-stops.ensures (omega arith)) in (
      omega (arith, c.min-seen.ensures),
      λ k low high. plain k low (omega (arith, c.min-seen.ensures)),
      stored_to g.row.N c.args.at c.blocks-2.seen c.min-seen.result c.args.room.now _ _ text c.blocks-2.invariant.2
          c.put_lanes.ensures (omega (arith, c.min-seen.ensures)) (omega arith),
    )
