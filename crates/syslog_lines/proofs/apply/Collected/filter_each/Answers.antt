use Rattle.syslog_lines.proofs.Names.{List, ℕ, drop, arith, length-drop, drop-drop, take_rest}
use Rattle.std.proofs.lemmas.Result.{MatchResult-from_err}
use Rattle.syslog_lines.proofs.FrameLemmas.{IsOpen-nil}
use Rattle.syslog_lines.proofs.HeldLemmas.{stops_here, whole_more, whole_start}
use Rattle.syslog_lines.proofs.WholeLemmas.{one_frame}
use Rattle.syslog_lines.proofs.apply.Collected.filter_each.Goals as goal

pub loop-message-init : goal.loop-message-init
loop-message-init g c = record {
  within = omega arith;
  known_within = omega (arith, c.requires.within);
  unended = c.requires.open;
  so_far = whole_start _ _ _ _ _;
}

pub loop-message-preserved : goal.loop-message-preserved
loop-message-preserved g c =
    let bytes : List ℕ = c.args.bytes.now in
    let past : ℕ = c.loop-message.past in
    let size : ℕ = c.in-Some.size in
    let frame = rw (take_rest bytes past) at c.in-Some.ensures.whole in
    let fits = rw (take_rest bytes past) at c.in-Some.ensures.within in record {
      within = omega (arith, fits, length-drop past bytes, c.loop-message.invariant.within);
      known_within = omega arith;
      unended = IsOpen-nil c.args.frames.framing;
      so_far = rw (← drop-drop size past bytes) (whole_more c.loop-message.invariant.so_far c.in-Some.message.now _
          (one_frame c.args.frames.framing (drop past bytes) _ size frame) _ _ c.in_ok-filter_message.ensures);
    }

pub returns-in_err-filter_message-clause-adds : goal.returns-in_err-filter_message-clause-adds
returns-in_err-filter_message-clause-adds g c =
    let bytes : List ℕ = c.args.bytes.now in
    let past : ℕ = c.loop-message.past in
    let frame = rw (take_rest bytes past) at c.in-Some.ensures.whole in
    MatchResult-from_err _ _ _ c.from_residual.ensures.0 (λ e. stops_here c.loop-message.invariant.so_far
    c.in-Some.message.now _ (one_frame c.args.frames.framing (drop past bytes) _ c.in-Some.size frame) _
    c.in_err-filter_message.ensures)

pub whole_frame-requires-clause-open : goal.whole_frame-requires-clause-open
whole_frame-requires-clause-open g c =
    rw (take_rest c.args.bytes.now c.loop-message.past) c.loop-message.invariant.unended

pub returns-clause-open : goal.returns-clause-open
returns-clause-open g c = rw (take_rest c.args.bytes.now c.loop-message.past) at c.in_default.ensures.whole
