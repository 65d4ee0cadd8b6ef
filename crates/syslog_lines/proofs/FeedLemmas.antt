-- Line feeds among bytes, by those among the bytes from a place on.
use Rattle.syslog_lines.proofs.Names.{◌≡◌, length, length-drop, get_or, slice_index, eq-eqb, take_all, Nowhere, is_byte}
use Rattle.syslog_lines.proofs.Names.{◌≢◌, ℕ, ◌+◌, ◌-◌, ◌<◌, ◌≤◌, List, drop, ap, ◌∙◌, arith, Passes}
use Rattle.std.{proofs.lemmas.List.get_or-drop, specs.List.slice_range}

module _ (bytes : List ℕ) (from : ℕ) where
  abbrev rest : List ℕ
  rest = slice_range bytes from (length bytes)

  whole : rest ≡ drop from bytes
  whole = take_all (length bytes - from) (drop from bytes) (rw length-drop (omega arith))

  place : (k : ℕ) → slice_index rest k ≡ slice_index bytes (from + k)
  place k = rw whole (get_or-drop from bytes k 0)

  -- none is between two places among them
  others_among : (past end : ℕ) → Nowhere (Passes (is_byte 10) rest) past end → (k : ℕ) → from + past ≤ k
      → k < from + end → slice_index bytes k ≢ 10
  others_among past end none k low high is =
      let back : from + (k - from) ≡ k = omega arith in
      none (k - from) (omega arith) (omega arith)
      (eq-eqb _ 10 (place (k - from) ∙ ap (λ j. get_or bytes j 0) back ∙ is))

  -- none is among them from a place on
  pub others_on : (past : ℕ) → Nowhere (Passes (is_byte 10) rest) past (length rest) → (k : ℕ) → from + past ≤ k
      → k < length bytes → slice_index bytes k ≢ 10
  others_on past none k low high =
      others_among past (length rest) none k low (rw (whole, length-drop) (omega arith))

  -- none is before them
  module _ (before : (k : ℕ) → k < from → slice_index bytes k ≢ 10) where
    pub none_before : (end : ℕ) → Nowhere (Passes (is_byte 10) rest) 0 end → (k : ℕ) → k < from + end
        → slice_index bytes k ≢ 10
    none_before end none k high is = grind (arith, before k, others_among 0 end none k, is)

    pub none_at_all : Nowhere (Passes (is_byte 10) rest) 0 (length rest) → (k : ℕ) → k < length bytes
        → slice_index bytes k ≢ 10
    none_at_all none k high is = grind (arith, before k, others_on 0 none k, is)
