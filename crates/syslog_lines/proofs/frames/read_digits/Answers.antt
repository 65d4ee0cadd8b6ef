use Rattle.syslog_lines.proofs.Names.{◌≡◌, ◌+◌, ◌-◌, ℕ, List, [], ◌∷◌, ◌++◌, arith, take, slice_index, ap, sym, ◌∙◌}
use Rattle.std.proofs.Common.{◌*◌}
use Rattle.std.proofs.lemmas.List.{take_more}
use Rattle.std.proofs.lemmas.List.Elements.{All-push}
use Rattle.syslog_lines.specs.Frames.{IsDigit}
use Rattle.syslog_lines.proofs.DigitLemmas.{larger_number, number_after-push}
use Rattle.syslog_lines.proofs.frames.read_digits.Goals as goal

pub loop-size-preserved : goal.loop-size-preserved
loop-size-preserved c =
    let bytes : List ℕ = c.args.bytes.now in
    let size : ℕ = c.loop-size.size in
    let byte : ℕ = slice_index bytes size in
    let digit : IsDigit byte = (omega arith, omega arith) in
    let more : take (size + 1) bytes ≡ take size bytes ++ byte ∷ [] = take_more bytes size 0 (omega arith) in record {
      few = omega arith;
      within = omega arith;
      small = rw c.from.ensures (larger_number c.loop-size.octets size byte digit c.loop-size.invariant.small);
      each = rw more (All-push IsDigit (take size bytes) byte c.loop-size.invariant.each digit);
      value = rw (c.from.ensures, more) (ap (λ (n : ℕ). n * 10 + (byte - 48)) c.loop-size.invariant.value
          ∙ sym (number_after-push 0 (take size bytes) byte));
    }
