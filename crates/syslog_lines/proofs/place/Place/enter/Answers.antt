use Rattle.syslog_lines.proofs.Names.{[], ◌∷◌, inl, inr, refl, arith, append-nil, drop}
use Rattle.std.proofs.Math.Seq.{drop-length}
use Rattle.syslog_lines.proofs.FrameLemmas.{IsOpen-nil}
use Rattle.syslog_lines.proofs.WholeLemmas.{long_ends, long_goes_on}
use Rattle.syslog_lines.proofs.place.Place.enter.Goals as goal

pub returns-in-Some : goal.returns-in-Some
returns-in-Some c =
    let (within, settled) = c.in-Some.ensures in rw c.in-Head.is (
      refl,
      within,
      omega arith,
      IsOpen-nil c.args.frames.framing,
      λ input messages (on, same, empty). (
        [],
        rw (append-nil messages, same, empty)
            (record { body = drop c.in-Some.size c.args.bytes.now; settled = rw on settled; framed = refl }),
        inl (refl, refl),
      ),
    )

pub returns-in-Ok : goal.returns-in-Ok
returns-in-Ok c = rw c.in-Long.is (
  refl,
  c.in-Ok.ensures.within,
  omega arith,
  IsOpen-nil c.args.frames.framing,
  λ input messages here.
      let (message, opened, long) = long_ends c.args.frames _ c.args.bytes.now _ c.in-Ok.ensures.ends input messages
      here in
      (message ∷ [], opened, inr (message, refl, long, c.count_long.ensures)),
)

pub returns-in-Err : goal.returns-in-Err
returns-in-Err c = rw (c.in-Long.is, drop-length) (
  refl,
  omega arith,
  refl,
  λ input messages here. long_goes_on c.args.frames _ _ c.args.bytes.now c.in-Err.ensures.ends input messages here,
)
