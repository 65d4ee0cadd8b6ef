use Rattle.syslog_command_line.proofs.Names.{◌≡◌, ◌∷◌, ℕ, [], Bor, List, arith, drop, get_or, inline_text, map}
use Rattle.std.proofs.Common.{add-one, drop-cons, ◌+◌}
use Rattle.std.specs.List.{concat}
use Rattle.syslog_command_line.proofs.ReportLemmas.{one_part}
use Rattle.syslog_command_line.proofs.report.joined.Goals as goal

pub loop-part-preserved : goal.loop-part-preserved
loop-part-preserved c = λ fits.
    let parts = c.args.parts.now in
    let i = c.loop-part.part-index in
    let none : Bor (List ℕ) = record { ref_ptr = (0, 0); now = [] } in
    let within = c.loop-part-test.true in
    let split : drop c.loop-part.part-index c.args.parts.now
    ≡ get_or c.args.parts.now c.loop-part.part-index none ∷ drop (c.loop-part.part-index + 1) c.args.parts.now =
    rw (add-one, drop-cons c.args.parts.now c.loop-part.part-index none) in
    one_part 512 (inline_text c.loop-part.text) (get_or c.args.parts.now c.loop-part.part-index none).now
    (concat (map (λ part. part.now) (drop (c.loop-part.part-index + 1) c.args.parts.now)))
    (concat (map (λ part. part.now) c.args.parts.now)) _ (rw split at (c.loop-part.invariant fits)) fits
    (c.and_str-text.ensures.to_end (omega arith))
