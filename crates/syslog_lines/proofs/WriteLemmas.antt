-- Bytes that are written in several steps.
use Rattle.syslog_lines.proofs.Names.{append_assoc, Appends-kept, Appends-trans, take-append-drop, length-drop}
use Rattle.syslog_lines.proofs.Names.{take_at, ◌≡◌, length, Option, arith, take_all}
use Rattle.syslog_lines.proofs.Names.{◌-◌, List, ◌++◌, take, drop, refl}
use Rattle.syslog_lines.proofs.Names.{Keeps, ℕ, ◌≤◌, ◌∙◌, ap}
use Rattle.std.specs.Io.KnownBytes.{Appends}

-- what was written so far is what comes before the rest
pub record WroteSoFar (old new : Option (List ℕ)) (bytes rest : List ℕ) : Type 0 where
  pub written : List ℕ
  pub whole : written ++ rest ≡ bytes
  pub appended : Appends old new written

-- one write more
pub WroteSoFar-more : (old mid new : Option (List ℕ)) (bytes rest : List ℕ) (n : ℕ) → n ≤ length rest
    → WroteSoFar old mid bytes rest → Appends mid new (take n rest)
    → WroteSoFar old new bytes (take (length rest - n) (drop n rest))
WroteSoFar-more old mid new bytes rest n fits so_far more =
    let all = take_all (length rest - n) (drop n rest) (rw length-drop (omega arith)) in
    record {
      written = so_far.written ++ take n rest;
      whole = rw all (append_assoc so_far.written (take n rest) (drop n rest)
          ∙ ap (λ l. so_far.written ++ l) (take-append-drop n rest) ∙ so_far.whole);
      appended = Appends-trans old mid new so_far.written (take n rest) so_far.appended more;
    }

-- what was written when a write fails
pub WroteSoFar-front : (old mid new : Option (List ℕ)) (bytes rest : List ℕ) → WroteSoFar old mid bytes rest
    → Keeps mid new → (size : ℕ) × Appends old new (take size bytes)
WroteSoFar-front old mid new bytes rest so_far unchanged = (
  length so_far.written,
  rw (← so_far.whole, take_at so_far.written rest (length so_far.written) refl)
      (Appends-kept old mid new so_far.written so_far.appended unchanged),
)
