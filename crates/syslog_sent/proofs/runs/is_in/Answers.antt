-- The table is held against the classes at each of the 256 bytes, by computing.
use denote.Enum.Declared.{tag_of}
use Rattle.std.proofs.Common.{◌≡◌, ℕ, Bool, true, not, nat_eq, bit_and, refl, arith, get_or, ◌*◌, ◌^◌, ◌%◌}
use Rattle.std.proofs.lemmas.Bool.{agree_below, agree_below_at}
use Rattle.syslog_sent.specs.Runs.{is_of}
use Rattle.syslog_sent.specs.contracts.runs.Run.{the_type}
use Rattle.syslog_sent.specs.declared.runs.Run.{Run}
use Rattle.syslog_sent.specs.declared.runs.Run.TheVariants.{Word, Plain, Unquoted, Either}
use Rattle.syslog_sent.specs.declared.runs.TheConstants.{CLASSES}
use Rattle.syslog_sent.proofs.runs.is_in.Goals as goal

abbrev reads : Run → ℕ → Bool
reads run k = not (nat_eq (bit_and (get_or CLASSES k 0) ((1 * (2 ^ tag_of the_type run)) % 256)) 0)

agrees : (run : Run) → agree_below (reads run) (is_of run) 256 ≡ true
agrees Word = refl
agrees Plain = refl
agrees Unquoted = refl
agrees Either = refl

pub returns : goal.returns
returns c = agree_below_at (reads c.args.run) (is_of c.args.run) 256 c.args.b (agrees c.args.run) (omega arith)
