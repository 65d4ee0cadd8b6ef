-- The size of a block: this project's own choice.
use Rattle.std.specs.Prelude.{ℕ}

-- the size of a block in bytes, if no line is longer
abbrev pub block_size : ℕ
block_size = 65536
