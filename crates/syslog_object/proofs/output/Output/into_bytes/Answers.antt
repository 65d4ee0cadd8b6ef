use Rattle.syslog_object.proofs.Names.{◌≡◌, ◌+◌, ◌-◌, ◌∙◌, ◌++◌, ◌≤◌, ℕ, ap, arith, drop, length, sym, take}
use Rattle.std.proofs.Math.Seq.{take-append_seam}
use Rattle.std.proofs.lemmas.List.{drop-take, length-drop, length-take, length-take-le}
use Rattle.syslog_object.proofs.output.Output.into_bytes.Goals as goal

pub returns : goal.returns
returns c =
    let out = c.self.inside in
    let start = c.args.start in
    let count = out.at - start in
    let within : start ≤ out.at = omega (arith, ap length c.self.view_is, length-take out.at out.bytes.items) in
    let at : start + count ≡ out.at = omega arith in
    let piece = take count (drop start out.bytes.items) in
    let rest = drop (0 + count) out.bytes.items in
    let long : length piece ≡ count =
    length-take-le count (drop start out.bytes.items)
    (omega (arith, length-drop start out.bytes.items, c.self.invariant)) in
    c.truncate.ensures.items ∙ ap (take count) c.copy_within.ensures.items
    ∙ ap (λ (k : ℕ). take k (piece ++ rest)) (sym long) ∙ take-append_seam piece rest
    ∙ sym (drop-take start count out.bytes.items) ∙ ap (λ (k : ℕ). drop start (take k out.bytes.items)) at
    ∙ ap (drop start) c.self.view_is
