-- The byte order mark, byte by byte.
use Rattle.syslog_lines.proofs.Names.{◌≡◌, ◌≢◌, ◌<◌, ◌≤◌, ℕ, List, [], ◌∷◌, ◌++◌, length, slice_index}
use Rattle.syslog_lines.proofs.Names.{inr, refl, sym, ◌∙◌, ap, arith}
use Rattle.std.proofs.lemmas.List.{get_or_append_left}
use Rattle.syslog_lines.specs.Frames.{mark}
use Rattle.syslog_lines.specs.Place.{HasMark, IsMarkFront}

-- a byte that is not that of the mark
module _ (bytes : List ℕ) (k : ℕ) (within : k < length bytes) (inside : k < 3)
    (other : slice_index bytes k ≢ slice_index mark k) where
  unmarked : (more rest : List ℕ) → bytes ++ more ≡ mark ++ rest → ⊥
  unmarked more rest is = other (sym (get_or_append_left bytes more 0 k within)
      ∙ ap (λ (l : List ℕ). slice_index l k) is ∙ get_or_append_left mark rest 0 k (omega (arith, inside)))

  pub no_mark : HasMark bytes 0
  no_mark = (omega arith, λ more. inr (refl, unmarked more))

pub mark_front : (bytes : List ℕ) → length bytes ≤ 2 → (0 < length bytes → slice_index bytes 0 ≡ 0xEF)
    → (1 < length bytes → slice_index bytes 1 ≡ 0xBB) → IsMarkFront bytes
mark_front [] short a b = (mark, omega arith, refl)
mark_front (x ∷ []) short a b = (0xBB ∷ 0xBF ∷ [], omega arith, rw (a (omega arith)) refl)
mark_front (x ∷ y ∷ []) short a b = (0xBF ∷ [], omega arith, rw (a (omega arith), b (omega arith)) refl)
mark_front (x ∷ y ∷ z ∷ rest) short a b = absurd (omega arith)
