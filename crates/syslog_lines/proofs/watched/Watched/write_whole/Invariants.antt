use Rattle.syslog_lines.proofs.Names.{◌≡◌, length, false}
use Rattle.syslog_lines.proofs.WriteLemmas.{WroteSoFar}
use Rattle.syslog_lines.proofs.watched.Watched.write_whole.Given as goal

abbrev pub invariant-loop-rest : goal.invariant-loop-rest
invariant-loop-rest g l = record {
  wrote : WroteSoFar (g.W.Write.contents l.fn.self.inner) (g.W.Write.contents l.self.inner) l.bytes l.rest;
  well : l.self.failed ≡ false;
}

abbrev pub decreases-loop-rest : goal.decreases-loop-rest
decreases-loop-rest g l = length l.rest
