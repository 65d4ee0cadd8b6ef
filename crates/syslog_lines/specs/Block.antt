-- What a block of input holds.
use Rattle.std.specs.Prelude.{◌≡◌, ◌≤◌, ℕ, Bool, true, false, List, [], ◌++◌, Option, length, take, drop}
use Rattle.std.specs.Io.KnownBytes.{Consumes, IsAtEnd}
use Rattle.syslog_lines.specs.Size.{block_size}
use Rattle.syslog_lines.specs.declared.block.Block.{Block}
use Rattle.syslog_lines.specs.declared.summary.RunFault.{RunFault}
use Rattle.syslog_lines.specs.declared.summary.RunFault.TheVariants.{Read, Write, Memory}

-- the bytes that were read and are not done with
abbrev pub held_bytes : Block → List ℕ
held_bytes block = drop block.passed (take block.end block.bytes.items)

-- a piece was read after what was held, or there was nothing left to read
abbrev pub Fills : Option (List ℕ) → Option (List ℕ) → Block → Block → Bool → Type 0
Fills in_before in_after old new true = (piece : List ℕ) × Consumes in_before in_after piece
    × (held_bytes new ≡ held_bytes old ++ piece)
Fills in_before in_after old new false = Consumes in_before in_after [] × IsAtEnd in_after
    × (held_bytes new ≡ held_bytes old)

-- reading stopped at a failed read; or at a failed allocation, if what is held takes a whole block
abbrev pub StopsReading : List ℕ → RunFault → Bool → Type 0
StopsReading held Read failed = failed ≡ true
StopsReading held Write failed = ⊥
StopsReading held Memory failed = (failed ≡ false) × (block_size ≤ length held)
