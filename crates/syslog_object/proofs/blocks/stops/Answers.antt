use Rattle.syslog_object.proofs.Names.{◌≡◌, ◌==◌, ◌||◌, Bool, arith, cond, nat_lt, refl}
use Rattle.std.proofs.Common.{bit_or}
use lib.Lanes.{top}
use Rattle.syslog_text.proofs.TextLemmas.Runs.{joined, lanes}
use Rattle.syslog_object.proofs.BlockLemmas.{stops_found}
use Rattle.syslog_object.proofs.blocks.stops.Goals as goal

-- a lane stops at a quote, a backslash or a control character
tests : (a b c : Bool) → top 7 (bit_or (bit_or (cond a 255 0) (cond b 255 0)) (cond c 255 0)) ≡ (a || b || c)
tests a b c = grind arith

pub returns : goal.returns
returns g c = stops_found (omega (arith, c.requires.few)) c.requires.more refl (joined _ (joined _ (lanes _ _) (lanes
    _ _)) (lanes _ _))
    (λ x. tests (x == 34) (x == 92) (nat_lt x 32))
