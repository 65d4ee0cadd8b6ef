-- The table is held against the definition at each of the 256 bytes, by computing.
use Rattle.syslog_dialects.proofs.Names.{◌≡◌, agree_below_at, arith, Bool, nat_eq, not, refl, true, ℕ}
use Rattle.std.proofs.Common.{get_or}
use Rattle.std.proofs.lemmas.Bool.{agree_below}
use Rattle.syslog_dialects.specs.Ordinary as spec
use Rattle.syslog_dialects.specs.declared.ordinary.TheConstants.{ODD}
use Rattle.syslog_dialects.proofs.ordinary.begins_oddly.Goals as goal

abbrev reads : ℕ → Bool
reads k = not (nat_eq (get_or ODD k 0) 0)

agrees : agree_below reads spec.begins_oddly 256 ≡ true
agrees = refl

pub returns : goal.returns
returns c = agree_below_at reads spec.begins_oddly 256 c.args.byte agrees (omega arith)
