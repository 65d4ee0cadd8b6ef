-- What a call leaves in a buffer of the caller's, and as the length that is needed.
use Rattle.std.specs.Prelude.{◌≡◌, ◌⊎◌, ℕ, ◌<◌, ◌≤◌, ◌^◌, ◌-◌, List, ◌++◌, length, drop, min}
use Rattle.std.specs.Str.{chars, IsUtf8}
use Rattle.syslog_text.specs.Pieces.Class.{Text}
use Rattle.syslog_loose.specs.declared.fault.ParseFault.{ParseFault}
use Rattle.syslog_loose.specs.declared.fault.ParseFault.TheVariants.{Invalid, Memory}
use Rattle.syslog_c.specs.declared.outcome.Outcome.{Outcome}
use Rattle.syslog_c.specs.declared.room.Buffer.{Buffer}
use Rattle.syslog_c.specs.declared.outcome.Outcome.TheVariants.{Done, NoReading, NoMemory, NoRoom}

-- how the length of bytes is reported: it is a `usize`, so 2 ^ 64 or more would be reported as 2 ^ 64 - 1
abbrev pub told_length : List ℕ → ℕ
told_length bytes = min (length bytes) (2 ^ 64 - 1)

-- The length of the bytes is reported. They are at the front of the buffer, and what follows is as it was; or the
-- buffer is too small for them.
abbrev pub Puts : List ℕ → List ℕ → List ℕ → ℕ → Outcome → Type 0
Puts bytes old new needed Done = (needed ≡ length bytes) × (length bytes ≤ length new)
    × (new ≡ bytes ++ drop (length bytes) old)
Puts bytes old new needed NoRoom = (needed ≡ told_length bytes) × (length new < length bytes)
Puts bytes old new needed outcome = ⊥

-- this text was put since the first, as far as there is space
pub record HasTaken (first now : Buffer) (bytes : List ℕ) : Type 0 where
  pub same : now.room.ghost_name ≡ first.room.ghost_name
  pub needed : now.needed ≡ told_length bytes
  pub put : length bytes ≤ length now.room.now → now.room.now ≡ bytes ++ drop (length bytes) first.room.now

-- these bytes more are put
abbrev pub Takes : Buffer → List ℕ → Buffer → Type 0
Takes old bytes new = (first : Buffer) (taken : List ℕ) → HasTaken first old taken → HasTaken first new (taken ++ bytes)

-- the bytes of this text more are put
abbrev pub TakesText : Buffer → Text → Buffer → Type 0
TakesText old text new = (bytes : List ℕ) × IsUtf8 bytes × (chars bytes ≡ text) × Takes old bytes new

-- the length is reported, and whether there is space for the text
abbrev pub ReportsLength : Buffer → ℕ → Outcome → Type 0
ReportsLength buffer needed outcome = (needed ≡ buffer.needed) × (length buffer.room.now < 2 ^ 64 - 1)
    × (((outcome ≡ Done) × (buffer.needed ≤ length buffer.room.now))
    ⊎ ((outcome ≡ NoRoom) × (length buffer.room.now < buffer.needed)))

-- the buffer is as it was, and the length is reported as 0
abbrev pub IsLeft : List ℕ → List ℕ → ℕ → Type 0
IsLeft old new needed = (new ≡ old) × (needed ≡ 0)

-- the outcome of a call after this fault
abbrev pub fault_outcome : ParseFault → Outcome
fault_outcome Invalid = NoReading
fault_outcome Memory = NoMemory

-- the fault is the outcome, and the buffer is as it was
abbrev pub IsLeftFor : ParseFault → List ℕ → List ℕ → ℕ → Outcome → Type 0
IsLeftFor fault old new needed outcome = (outcome ≡ fault_outcome fault) × IsLeft old new needed
