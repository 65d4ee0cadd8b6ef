use Rattle.syslog_object.proofs.Names.{arith, inl, inr}
use Rattle.syslog_object.proofs.BlockLemmas.{backslash_at, nothing_at, other_at, pair_at, on_other, on_no_raw}
use Rattle.syslog_object.proofs.blocks.escape_at.Goals.{then-byte-ne92-via-then-byte-ne92}
use Rattle.syslog_object.proofs.blocks.escape_at.Goals.{then-byte-ne92-via-else-byte-ne92+then-not-is_raw}
use Rattle.syslog_object.proofs.blocks.escape_at.Goals.{then-second-eq110-via-then-second-eq110}
use Rattle.syslog_object.proofs.blocks.escape_at.Goals.{then-second-eq110-via-else-second-eq110+then-second-eq34}
use Rattle.syslog_object.proofs.blocks.escape_at.Goals.{then-second-eq110-via-else-second-eq110+else-second-eq34+then-second-eq92}
use Rattle.syslog_object.proofs.blocks.escape_at.Goals as goal

pub returns-then-byte-ne92 : goal.returns-then-byte-ne92
returns-then-byte-ne92 c = backslash_at c.args.is_raw c.args.text.now c.args.at (omega arith) c.requires.stop
    (omega arith)
    (elim c.then-byte-ne92.branch [
      | then-byte-ne92-via-then-byte-ne92 w ↦ on_other c.args.is_raw _ w.if-byte-ne92.true
      | then-byte-ne92-via-else-byte-ne92+then-not-is_raw w ↦ on_no_raw c.args.is_raw _ w.if-not-is_raw.true
    ])

pub returns-then-second-eq93 : goal.returns-then-second-eq93
returns-then-second-eq93 c =
    nothing_at c.args.is_raw c.args.text.now c.args.at (c.if-not-is_raw.false) c.requires.more (omega arith)
    (omega arith)

pub returns-then-second-eq110 : goal.returns-then-second-eq110
returns-then-second-eq110 c =
    pair_at c.args.is_raw c.args.text.now c.args.at (c.if-not-is_raw.false) c.requires.more (omega arith)
    (elim c.then-second-eq110.branch [
      | then-second-eq110-via-then-second-eq110 w ↦ inl w.if-second-eq110.true
      | then-second-eq110-via-else-second-eq110+then-second-eq34 w ↦ inr (inl w.if-second-eq34.true)
      | then-second-eq110-via-else-second-eq110+else-second-eq34+then-second-eq92 w ↦ inr (inr w.if-second-eq92.true)
    ])

pub returns : goal.returns
returns c = other_at c.args.is_raw c.args.text.now c.args.at (c.if-not-is_raw.false) c.requires.more (omega arith)
    c.if-second-eq93.false c.if-second-eq110.false c.if-second-eq34.false c.if-second-eq92.false
