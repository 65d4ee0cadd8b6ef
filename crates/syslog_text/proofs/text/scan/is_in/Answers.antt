-- The table is held against the classes at each of the 256 bytes, by computing.
use Rattle.syslog_text.proofs.Names.{◌≡◌, ℕ, Bool, true, not, nat_eq, get_or, refl, arith, agree_below, ◌*◌, ◌^◌, ◌%◌}
use Rattle.syslog_text.proofs.Names.{agree_below_at, CharClass, byte_in, bit_and, Digit, tag_of}
use Rattle.syslog_text.specs.contracts.text.CharClass.{the_type}
use Rattle.syslog_text.specs.declared.text.scan.TheConstants.{CLASSES}
use Rattle.syslog_text.proofs.text.scan.is_in.Goals as goal

abbrev reads : CharClass → ℕ → Bool
reads class k = not (nat_eq (bit_and (get_or CLASSES k 0) ((1 * (2 ^ tag_of the_type class)) % 65_536)) 0)

agrees : (class : CharClass) → agree_below (reads class) (byte_in class) 256 ≡ true
agrees Digit = refl
agrees other = refl

pub returns : goal.returns
returns c = agree_below_at (reads c.args.class) (byte_in c.args.class) 256 c.args.b (agrees c.args.class) (omega arith)
