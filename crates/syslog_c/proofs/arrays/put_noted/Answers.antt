use Rattle.syslog_c.proofs.Words.{◌<◌, arith, length, shown, param_value, IsParam}
use Rattle.syslog_c.proofs.ArrayLemmas.{begun_more}
use Rattle.syslog_c.proofs.arrays.put_noted.Goals as goal

pub loop-i-preserved : goal.loop-i-preserved
loop-i-preserved c =
    let places : c.loop-i.i < length c.loop-i.array = omega arith in
    begun_more IsParam (param_value (λ s. shown s)) _ _ _ _ _ _ c.loop-i-test.true places c.loop-i.invariant
    c.param_of.ensures
