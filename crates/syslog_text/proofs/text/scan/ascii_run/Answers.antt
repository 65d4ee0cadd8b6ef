use Rattle.syslog_text.proofs.Names.{arith, sym, ◌∙◌}
use borrow.Author.Count.{below_more}
use Rattle.syslog_text.proofs.text.scan.ascii_run.Goals as goal

pub tail-preserved : goal.tail-preserved
tail-preserved c =
    (omega arith, below_more _ _ c.tail.invariant.1 (sym c.is_in.ensures ∙ c.if-is_in.true))
