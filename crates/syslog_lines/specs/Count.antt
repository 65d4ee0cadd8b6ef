-- How lines are counted: this project's own choice.
use Rattle.std.specs.Prelude.{ℕ, min, ◌-◌, ◌^◌}

-- a count, which saturates at the last value of its type
abbrev pub held_count : ℕ → ℕ
held_count n = min n (2 ^ 64 - 1)
