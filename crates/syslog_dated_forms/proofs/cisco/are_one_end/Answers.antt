use Rattle.syslog_dated_forms.proofs.Names.{◌≡◌, arith, length, nat_tests}
use Rattle.syslog_sent.proofs.LedLemmas.{one_end}
use Rattle.syslog_dated_forms.proofs.cisco.are_one_end.Goals as goal

pub returns : goal.returns
returns c told p q e = let same : length c.args.a.now ≡ length c.args.b.now = grind (arith, nat_tests) in
    one_end p q c.args.a.now c.args.b.now c.utf8.a c.utf8.b same e
