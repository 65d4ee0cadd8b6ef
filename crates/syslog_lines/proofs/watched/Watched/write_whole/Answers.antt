use Rattle.syslog_lines.proofs.Names.{◌∙◌}
use Rattle.syslog_lines.proofs.WriteLemmas.{WroteSoFar-more, WroteSoFar-front}
use Rattle.syslog_lines.proofs.watched.Watched.write_whole.Goals as goal

pub loop-rest-preserved : goal.loop-rest-preserved
loop-rest-preserved g c = record {
  wrote =
      WroteSoFar-more _ _ _ _ _ c.in-Ok.count c.in-Ok.ensures.bound c.loop-rest.invariant.wrote c.in-Ok.ensures.bytes;
  well = c.in-Ok.ensures.ok ∙ c.loop-rest.invariant.well;
}

pub returns-in-Err-clause-err : goal.returns-in-Err-clause-err
returns-in-Err-clause-err g c = WroteSoFar-front _ _ _ _ _ c.loop-rest.invariant.wrote c.in-Err.ensures.bytes
