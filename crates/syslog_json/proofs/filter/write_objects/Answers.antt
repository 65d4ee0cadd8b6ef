use Rattle.std.specs.Prelude.{IfErr, Result, Ok, Err}
use Rattle.std.proofs.Common.{inl, inr, refl}
use Rattle.syslog_lines.proofs.AnswerLemmas.{IfErr-passed}
use Rattle.syslog_lines.proofs.CountLemmas.{AreCounts-kept}
use Rattle.syslog_json.proofs.filter.write_objects.Goals as goal

if_err : {X E : Type 0} {P Q : E → Type 0} (r : Result X E) → IfErr r P → ((e : E) → P e → Q e) → IfErr r Q
if_err (Ok x) is f = tt
if_err (Err e) is f = f e is

pub returns-in_err-tally-clause-err : goal.returns-in_err-tally-clause-err
returns-in_err-tally-clause-err g c =
    if_err _ (IfErr-passed _ _ _ c.from_residual-in_err-tally.ensures.1 c.in_err-tally.ensures.err)
    (λ fault ends. inr (_, (rw c.head.ensures at c.in_ok-write_whole.ensures.ok), ends))

pub returns-clause-ok : goal.returns-clause-ok
returns-clause-ok g c =
    let (answers, all, counted, lines) = c.in_ok-tally.ensures.ok in (
      _,
      (rw c.head.ensures at c.in_ok-write_whole.ensures.ok),
      (
        answers,
        all,
        AreCounts-kept c.args.frames c.args.filter.now.latin1 _ _ _ _ counted lines c.counts.ensures.lines
            c.counts.ensures.refused
            c.counts.ensures.refused_invalid c.counts.ensures.too_long c.counts.ensures.replaced,
      ),
    )

pub returns-in_err-write_whole-clause-err : goal.returns-in_err-write_whole-clause-err
returns-in_err-write_whole-clause-err g c =
    let (size, cut) = c.in_err-write_whole.ensures.err in
    IfErr-passed _ _ _ c.from_residual.ensures.1
    (inl (c.in_err-write_whole.ensures.fault.0, refl, (size, (rw c.head.ensures at cut))))
