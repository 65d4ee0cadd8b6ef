use Rattle.std.proofs.Common.{ap, arith, get_or, ℕ, List}
use Rattle.std.proofs.lemmas.Bool.Decides.{nat_tests}
use Rattle.syslog_sent.proofs.named.may_be_same.Goals as goal

pub returns : goal.returns
returns c h e = grind (arith, nat_tests, h, ap (λ (x : List ℕ). get_or x 0 0) e)
