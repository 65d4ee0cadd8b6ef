use Rattle.syslog_loose.proofs.Names.{◌-◌, ◌<◌, string_bytes, chars, Dating, Text, ReachesRank}
use Rattle.syslog_loose.specs.Passes.{PassesLead}
use Rattle.syslog_loose.proofs.settling.settle_on.Given as goal

-- each pass has lowered the rank, so the last one returns; and what the passes left lead to, all lead to
abbrev pub invariant-loop-done : goal.invariant-loop-done
invariant-loop-done l = (dating : Dating) (input : Text)
    → ReachesRank l.variant dating input 4 (chars (string_bytes l.initial.text))
    → (l.done < 5) × ReachesRank l.variant dating input (4 - l.done) (chars (string_bytes l.text))
    × ((u : Text) → PassesLead l.variant dating (5 - l.done) (chars (string_bytes l.text)) u
    → PassesLead l.variant dating 5 (chars (string_bytes l.initial.text)) u)
