use Rattle.syslog_object.proofs.Names.{◌-◌, [], arith}
use Rattle.syslog_object.proofs.BlockLemmas.{are_left, backslash_written, block_begins, byte_written, pair_ends}
use Rattle.syslog_object.proofs.BlockLemmas.{pair_passed, pair_stays}
use Rattle.syslog_object.proofs.blocks.put_block.Goals as goal

pub escape_at-requires-clause-stop : goal.escape_at-requires-clause-stop
escape_at-requires-clause-stop g c = (c.stops.invariant.next (omega arith)).here

pub stops-init : goal.stops-init
stops-init g c = are_left 0 (omega arith) c.stops-left.ensures
    (block_begins g.row.N c.args.is_raw c.args.at c.args.first c.args.room.now _ c.args.text.now (omega arith)
    c.put_lanes.ensures)
    c.requires.more

pub stops-preserved-in-Control : goal.stops-preserved-in-Control
stops-preserved-in-Control g c =
    let a = c.stops.invariant.next (omega arith) in
    let few = c.put_control.ensures.few in
    let long = c.put_control.ensures.length in
    are_left _ (omega arith) a.rest (byte_written _ c.put_control.new.room _ g.row.N _ a.block a.within
    c.put_control.ensures.text
    (omega (arith, long)) (omega arith) (omega (arith, long, few)) (omega (arith, long, few)) c.in-Control.ensures.1)
    c.requires.more

pub stops-preserved-in-Nothing : goal.stops-preserved-in-Nothing
stops-preserved-in-Nothing g c =
    let a = c.stops.invariant.next (omega arith) in
    are_left _ (omega arith) a.rest (byte_written [] c.put_lanes-in-Nothing.new.room _ g.row.N _ a.block a.within
    c.put_lanes-in-Nothing.ensures (omega arith) (omega arith) (omega (arith, a.block.placed, a.within)) (omega arith)
    c.in-Nothing.ensures) c.requires.more

pub returns-then-stop-clause-text : goal.returns-then-stop-clause-text
returns-then-stop-clause-text g c = pair_ends (c.stops.invariant.next (omega arith)).block

pub stops-smaller-in-Pair : goal.stops-smaller-in-Pair
stops-smaller-in-Pair g c = (pair_passed (c.stops.invariant.next (omega arith)) (λ is. c.if-stop.false (omega (
  arith,
  is,
))) (omega arith)).1

pub stops-preserved-in-Pair : goal.stops-preserved-in-Pair
stops-preserved-in-Pair g c =
    let a = c.stops.invariant.next (omega arith) in
    are_left _ (omega arith) (pair_passed a (λ is. c.if-stop.false (omega (arith, is))) (omega arith)).0
    (pair_stays a (λ is. c.if-stop.false (omega (arith, is))) c.requires.more c.in-Pair.ensures) c.requires.more

pub stops-preserved : goal.stops-preserved
stops-preserved g c =
    let a = c.stops.invariant.next (omega arith) in
    are_left _ (omega arith) a.rest (backslash_written c.put.new.room c.put_lanes-in-Backslash.new.room (g.row.N - 1) a
    (omega arith) c.requires.more c.put.ensures.text c.put_lanes-in-Backslash.ensures c.in-Backslash.ensures)
    c.requires.more

pub returns-clause-text : goal.returns-clause-text
returns-clause-text g c = c.stops.invariant.ends (omega arith)
