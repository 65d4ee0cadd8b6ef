use Rattle.syslog_lines.proofs.Names.{◌≡◌, ◌+◌, ◌++◌, take, drop, ap, sym, ◌∙◌, List, ℕ, held_bytes}
use Rattle.std.proofs.Math.Seq.{take-add}
use Rattle.syslog_lines.proofs.block.Block.fill.Goals as goal

pub returns-clause-ok : goal.returns-clause-ok
returns-clause-ok g c =
    let at = c.make_room.new.self.end in
    let room = c.make_room.new.self.bytes.items in
    let bytes = c.read_into.new.bytes.items in
    let piece = take c.in-Ok.count (drop at bytes) in
    let none = c.in_ok-make_room.ensures.passed ∙ c.keep_held.ensures.passed in
    let moved : held_bytes c.make_room.new.self ≡ take at room = ap (λ (n : ℕ). drop n (take at room)) none in
    let cut : held_bytes c.args.self.now ≡ take at bytes =
    sym c.keep_held.ensures.held ∙ sym c.in_ok-make_room.ensures.held ∙ moved ∙ sym c.in-Ok.ensures.front in (
      piece,
      c.in-Ok.ensures.ok,
      ap (λ (n : ℕ). drop n (take (at + c.in-Ok.count) bytes)) none ∙ take-add at c.in-Ok.count bytes
          ∙ ap (λ (l : List ℕ). l ++ piece) (sym cut),
    )
