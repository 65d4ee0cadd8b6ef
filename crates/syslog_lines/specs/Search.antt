-- Where line feeds are.
use Rattle.std.specs.Prelude.{◌≡◌, ◌≢◌, ◌+◌, ◌<◌, ◌≤◌, ℕ, List, slice_index}

-- of the sixty-four bytes from a place on, this many are before the first line feed
pub record IsRun (bytes : List ℕ) (at run : ℕ) : Type 0 where
  pub within : run ≤ 64
  pub before : (k : ℕ) → at ≤ k → k < at + run → slice_index bytes k ≢ 10
  pub stops : run < 64 → slice_index bytes (at + run) ≡ 10
