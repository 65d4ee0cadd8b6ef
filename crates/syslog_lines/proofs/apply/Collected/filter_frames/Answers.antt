use Rattle.std.proofs.lemmas.Result.{MatchResult-from_err}
use Rattle.syslog_lines.proofs.HeldLemmas.{stops_front, whole_front}
use Rattle.syslog_lines.proofs.WholeLemmas.{open_after}
use Rattle.syslog_lines.proofs.apply.Collected.filter_frames.Goals as goal

pub returns-in_err-filter_text-clause-adds : goal.returns-in_err-filter_text-clause-adds
returns-in_err-filter_text-clause-adds g c = MatchResult-from_err _ _ _ c.from_residual.ensures.0
    (λ e. stops_front c.args.frames _ c.args.bytes.now c.past_last_feed-past.result _ _
    (rw c.in-Ok.ensures.0 at c.in_err-filter_text.ensures))

pub returns-clause-open : goal.returns-clause-open
returns-clause-open g c = rw c.in-LineFeeds.is
    (open_after c.args.bytes.now c.past_last_feed-past.result c.past_last_feed-past.ensures.open)

pub returns-clause-adds : goal.returns-clause-adds
returns-clause-adds g c = whole_front c.args.frames _ c.args.bytes.now c.past_last_feed-past.result _ _ _ _
    (rw c.in-Ok.ensures.0 at c.in_ok-filter_text.ensures)
