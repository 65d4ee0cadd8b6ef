use Rattle.syslog_lines.proofs.Names.{◌≡◌, ◌∙◌, true, false}
use Rattle.std.proofs.lemmas.Result.{MatchResult-from_err}
use Rattle.syslog_lines.proofs.AnswerLemmas.{Answered-long, Answered-one, WroteBefore-one}
use Rattle.syslog_lines.proofs.CountLemmas.{Counts-invalid, Counts-valid}
use Rattle.syslog_lines.specs.Frames.{is_too_long}
use Rattle.syslog_lines.proofs.apply.Collected.filter_message.Goals as goal

pub returns-then-is_too_long : goal.returns-then-is_too_long
returns-then-is_too_long g c =
    let long : is_too_long c.args.frames c.args.message.now ≡ true = cc in
    Answered-long c.args.frames (g.F.LineFilter.answers c.args.filter.now) c.args.message.now _ _ _ long
    c.count_long.ensures

pub returns-in_ok-is_answered-in-Ok : goal.returns-in_ok-is_answered-in-Ok
returns-in_ok-is_answered-in-Ok g c =
    let short : is_too_long c.args.frames c.args.message.now ≡ false = cc in
    let adds = rw (c.in-Ok.ensures.0 ∙ c.line-line.ensures) at c.in_ok-is_answered-in-Ok.ensures.ok in
    Answered-one c.args.frames _ c.args.message.now _ _ _ _ _ short adds (Counts-valid c.args.frames _ _ _ short _ _
    adds.3 c.count.ensures.answered c.count.ensures.skipped c.count.ensures.too_long
    (rw c.line-line.ensures at c.in-Ok.ensures.1) c.count.ensures.answered_invalid c.count.ensures.skipped_invalid)

pub returns-in_ok-is_answered-in-Err : goal.returns-in_ok-is_answered-in-Err
returns-in_ok-is_answered-in-Err g c =
    let short : is_too_long c.args.frames c.args.message.now ≡ false = cc in
    let adds = rw c.line-line.ensures at c.in_ok-is_answered-in-Err.ensures.ok in
    let counts = c.count_invalid.ensures in
    Answered-one c.args.frames _ c.args.message.now _ _ _ _ _ short adds (Counts-invalid c.args.frames _ _ _ short _ _
    adds.3 counts.answered counts.skipped counts.too_long (rw c.line-line.ensures at c.in-Err.ensures)
    counts.answered_invalid counts.skipped_invalid)

pub returns-in_err-is_answered-in-Ok : goal.returns-in_err-is_answered-in-Ok
returns-in_err-is_answered-in-Ok g c =
    let short : is_too_long c.args.frames c.args.message.now ≡ false = cc in
    MatchResult-from_err _ _ _ c.from_residual.ensures.0 (λ e. WroteBefore-one c.args.frames
    (g.F.LineFilter.answers c.args.filter.now) c.args.message.now _ _ short
    (rw (c.in-Ok.ensures.0 ∙ c.line-line.ensures) at c.in_err-is_answered-in-Ok.ensures.refusal)
    c.in_err-is_answered-in-Ok.ensures.err)

pub returns-in_err-is_answered-in-Err : goal.returns-in_err-is_answered-in-Err
returns-in_err-is_answered-in-Err g c =
    let short : is_too_long c.args.frames c.args.message.now ≡ false = cc in
    MatchResult-from_err _ _ _ c.from_residual-in_err-is_answered-in-Err.ensures.0 (λ e. WroteBefore-one c.args.frames
    (g.F.LineFilter.answers c.args.filter.now) c.args.message.now _ _ short
    (rw c.line-line.ensures at c.in_err-is_answered-in-Err.ensures.refusal) c.in_err-is_answered-in-Err.ensures.err)
