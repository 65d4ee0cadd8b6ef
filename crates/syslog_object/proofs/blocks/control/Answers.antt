-- The table is held against the definition at each of the 32 bytes, by computing.
use Rattle.syslog_object.proofs.Names.{◌≡◌, ℕ, Bool, true, get_or, refl, arith, take, bytes_eq, []}
use Rattle.std.proofs.lemmas.Bool.{agree_below, agree_below_at, ltb-true, and_parts}
use Rattle.std.proofs.lemmas.Slice.Eq.{bytes_eq-Decides}
use Rattle.std.proofs.Common.{◌&&◌, nat_lt}
use Rattle.json.specs.Print.{escape_byte}
use Rattle.syslog_object.specs.declared.blocks.TheConstants.{CONTROLS}
use Rattle.syslog_object.proofs.blocks.control.Goals as goal

abbrev is_right : ℕ → Bool
is_right k = bytes_eq (take (get_or (get_or CONTROLS k []) 7 0) (get_or CONTROLS k [])) (escape_byte k)
    && (nat_lt 1 (get_or (get_or CONTROLS k []) 7 0) && nat_lt (get_or (get_or CONTROLS k []) 7 0) 7)

all_right : agree_below is_right (λ _. true) 32 ≡ true
unfolding escape_byte
all_right = refl

pub returns : goal.returns
returns c =
    let k = c.args.byte in
    let right = and_parts _ _ (agree_below_at is_right (λ _. true) 32 k all_right c.requires) in
    let few = and_parts _ _ right.1 in
    record {
      text = (bytes_eq-Decides _ (escape_byte k)).0 right.0;
      few = (ltb-true 1 _ few.0, omega (arith, ltb-true _ 7 few.1));
    }
