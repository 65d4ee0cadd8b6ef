use Rattle.syslog_lines.proofs.Names.{rules, arith, length}
use Rattle.std.proofs.lemmas.Result.{MatchResult-from_err}
use Rattle.syslog_lines.proofs.AnswerLemmas.{Answered-one, WroteBefore-one, some_left}
use Rattle.syslog_lines.proofs.CountLemmas.{Counts-valid}
use Rattle.syslog_lines.proofs.HeldLemmas.{stops_here, whole_more, whole_start}
use Rattle.syslog_lines.proofs.LineLemmas.{line_frame, not_too_long}
use Rattle.syslog_lines.proofs.apply.Collected.filter_text.Goals as goal

pub loop-rest-init : goal.loop-rest-init
loop-rest-init g c = record {
  text = search rules;
  short = omega arith;
  closed = c.requires.closed;
  so_far = whole_start _ _ _ _ _;
}

pub returns-in_err-is_answered : goal.returns-in_err-is_answered
returns-in_err-is_answered g c =
    let (frame, closed, few, fewer) = line_frame _ _ _ _ c.requires.feeds c.loop-rest.invariant.closed
    (some_left _ _ c.is_empty.ensures c.loop-rest-test.true) c.first_text_line.ensures.first in
    let short = not_too_long c.args.frames _ (length c.args.lines.now)
    (omega (arith, few, c.loop-rest.invariant.short)) c.requires.short in
    MatchResult-from_err _ _ _ c.from_residual.ensures.0 (λ e. stops_here c.loop-rest.invariant.so_far _ _ frame _
    (WroteBefore-one c.args.frames (g.F.LineFilter.answers c.args.filter.now) _ _ _ short
    (rw c.text_line-line.ensures.line at c.in_err-is_answered.ensures.refusal) c.in_err-is_answered.ensures.err))

pub loop-rest-preserved : goal.loop-rest-preserved
loop-rest-preserved g c =
    let (frame, closed, few, fewer) = line_frame _ _ _ _ c.requires.feeds c.loop-rest.invariant.closed
    (some_left _ _ c.is_empty.ensures c.loop-rest-test.true) c.first_text_line.ensures.first in
    let short = not_too_long c.args.frames _ (length c.args.lines.now)
    (omega (arith, few, c.loop-rest.invariant.short)) c.requires.short in
    let line = c.text_line-line.ensures.line in
    let adds = rw line at c.in_ok-is_answered.ensures.ok in record {
      text = search rules;
      short = omega (arith, fewer, c.loop-rest.invariant.short);
      closed = closed;
      so_far = whole_more c.loop-rest.invariant.so_far _ _ frame _ _ (Answered-one c.args.frames _ _ _ _ _ _ _ short
          adds (Counts-valid c.args.frames _ _ _ short _ _ adds.3 c.count.ensures.answered c.count.ensures.skipped
          c.count.ensures.too_long (rw line at c.text_line-line.ensures.utf8) c.count.ensures.answered_invalid
          c.count.ensures.skipped_invalid));
    }
