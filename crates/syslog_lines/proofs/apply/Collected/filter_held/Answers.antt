use Rattle.syslog_lines.proofs.Names.{◌+◌, drop, drop-drop, take_rest}
use Rattle.syslog_lines.proofs.HeldLemmas.{held_goes, held_only, held_stops}
use Rattle.syslog_lines.proofs.apply.Collected.filter_held.Goals as goal

pub filter_frames-requires-clause-open : goal.filter_frames-requires-clause-open
filter_frames-requires-clause-open g c = rw (take_rest c.args.bytes.now c.in-After.start) c.in-After.ensures.3

pub returns-in-Only-clause-adds : goal.returns-in-Only-clause-adds
returns-in-Only-clause-adds g c = rw c.clear.ensures.items (held_only c.args.frames _ c.args.place.now _
    c.args.bytes.now _ _ _ _ c.in-Only.ensures.0 c.in-Only.ensures.2 c.in-Only.ensures.3)

pub returns-in_err-size-clause-adds : goal.returns-in_err-size-clause-adds
returns-in_err-size-clause-adds g c = held_stops c.args.frames _ c.args.place.now _ c.args.bytes.now _ _ _
    c.in-After.ensures.4 _ _ _ _ c.from_residual.ensures.0
    (rw (take_rest c.args.bytes.now c.in-After.start, c.clear.ensures.items) at c.in_err-size.ensures.adds)

pub returns-clause-adds : goal.returns-clause-adds
returns-clause-adds g c =
    let bytes = c.args.bytes.now in
    let start = c.in-After.start in
    let size = c.in_ok-size.size in
    held_goes c.args.frames _ c.args.place.now c.leave.new.self bytes _ _ _
    c.in-After.ensures.4 _ _ (drop (start + size) bytes) (drop (start + size + c.leave.result) bytes) _
    (rw (take_rest bytes start, drop-drop size start bytes, c.clear.ensures.items) at c.in_ok-size.ensures.adds)
    (rw (take_rest bytes (start + size), drop-drop c.leave.result (start + size) bytes) at c.leave.ensures.held)
    (rw (take_rest bytes (start + size), drop-drop c.leave.result (start + size) bytes) at c.leave.ensures.at)

pub leave-requires-clause-open : goal.leave-requires-clause-open
leave-requires-clause-open g c =
    let bytes = c.args.bytes.now in
    let start = c.in-After.start in
    rw (take_rest bytes (start + c.in_ok-size.size))
    (rw (take_rest bytes start, drop-drop c.in_ok-size.size start bytes) at c.in_ok-size.ensures.open)
