-- Where in the input the bytes are that were read and are not done with.
use Rattle.std.specs.Prelude.{◌≡◌, ◌+◌, ◌<◌, ◌≤◌, ⊤, ◌⊎◌, ℕ, Bool, true, false, List, [], ◌∷◌, ◌++◌, Option, Some, None}
use Rattle.std.specs.Prelude.{IfOk, MatchResult, Result, length, take, drop}
use Rattle.syslog_lines.specs.Frames.{AreFrames, HasBody, HasFrames, IsCounted, IsFrame, IsOpen}
use Rattle.syslog_lines.specs.Frames.{IsUncounted, NoByte, ending_of, is_too_long, mark}
use Rattle.syslog_lines.specs.declared.framing.Framing.{Framing}
use Rattle.syslog_lines.specs.declared.framing.Frames.{Frames}
use Rattle.syslog_lines.specs.declared.place.Place.{Place}
use Rattle.syslog_lines.specs.declared.place.Place.TheVariants.{Head, Frame, Long}
use Rattle.syslog_lines.specs.declared.place.Entry.{Entry}
use Rattle.syslog_lines.specs.declared.place.Entry.TheVariants.{After, Only}
use Rattle.syslog_lines.specs.Count.{held_count}
use Rattle.syslog_lines.specs.declared.summary.Tally.{Tally}

-- the bytes are a prefix of the byte order mark, and not all of it
abbrev pub IsMarkFront : List ℕ → Type 0
IsMarkFront bytes = (more : List ℕ) × (0 < length more) × (bytes ++ more ≡ mark)

-- the body of the input is this, whatever more of it is read
abbrev pub Settles : Bool → List ℕ → List ℕ → Type 0
Settles strips input body = (more : List ℕ) → HasBody strips (input ++ more) (body ++ more)

-- what was read has these messages in whole frames, and these bytes follow, whatever more is read
pub record Opened (frames : Frames) (input : List ℕ) (messages : List (List ℕ)) (rest : List ℕ) : Type 0 where
  pub body : List ℕ
  pub settled : Settles frames.strips input body
  pub framed : AreFrames frames.framing body messages rest

-- each message that begins so is too long, in frames that have these
abbrev pub IsLongFront : Frames → List ℕ → Type 0
IsLongFront frames front = (more : List ℕ) → is_too_long frames (front ++ more) ≡ true

-- what is missing of a frame that is cut: the octets that its count says beyond these, or an ending
abbrev pub IsCutBy : Framing → List ℕ → List ℕ → Option ℕ → Type 0
IsCutBy framing bytes message (Some missing) = (0 < missing)
    × IsCounted framing bytes (length message + missing) message
IsCutBy framing bytes message None = IsUncounted framing bytes × NoByte (ending_of framing) bytes × (message ≡ bytes)

-- a frame that is cut, of which this is missing, ends after so many of the bytes, or goes on after them
abbrev pub Ends : Framing → Option ℕ → List ℕ → Result ℕ (Option ℕ) → Type 0
Ends framing missing bytes end = (front : List ℕ) (part : List ℕ) → 10 ≤ length front
    → IsCutBy framing front part missing
    → MatchResult end (λ size. (more : List ℕ) × IsFrame framing (part ++ more) (front ++ take size bytes))
    (λ left. IsCutBy framing (front ++ bytes) (part ++ bytes) left)

-- by the place: what was read before has these messages, and these bytes come next
abbrev pub IsAt : Frames → Place → List ℕ → List (List ℕ) → List ℕ → Type 0
IsAt frames Head input messages bytes = (frames.strips ≡ true) × (input ≡ bytes) × (messages ≡ [])
IsAt frames Frame input messages bytes = Opened frames input messages bytes
IsAt frames (Long missing) input messages bytes = (front : List ℕ) × (part : List ℕ)
    × Opened frames input messages (front ++ bytes) × IsLongFront frames part × (10 ≤ length front)
    × IsCutBy frames.framing front part missing

-- by the place: these bytes have no whole frame
abbrev pub IsHeld : Framing → Place → List ℕ → Type 0
IsHeld framing Head bytes = IsMarkFront bytes
IsHeld framing Frame bytes = IsOpen framing bytes
IsHeld framing (Long missing) bytes = bytes ≡ []

-- by the place: the first of the bytes, which were seen before, have no whole frame
abbrev pub IsSeen : Framing → Place → List ℕ → Type 0
IsSeen framing Head bytes = ⊤
IsSeen framing Frame bytes = IsOpen framing bytes
IsSeen framing (Long missing) bytes = ⊤

-- what was read has these messages in whole frames
abbrev pub HasRead : Frames → List ℕ → List (List ℕ) → Type 0
HasRead frames input messages = (cut : List ℕ) × HasFrames frames input messages cut

-- and if so many of the bytes are done with, the others come next
abbrev pub HasReadUpTo : {E : Type 0} → Frames → Place → List ℕ → Result ℕ E → List ℕ → List (List ℕ) → Type 0
HasReadUpTo frames place bytes result input messages = HasRead frames input messages
    × IfOk result (λ past. IsAt frames place input messages (drop past bytes))

-- the place of the first bytes
abbrev pub StartsAt : Frames → Place → Type 0
StartsAt frames Head = frames.strips ≡ true
StartsAt frames Frame = frames.strips ≡ false
StartsAt frames (Long missing) = ⊥

-- after so many bytes the body of the input begins, whatever more of it is read
abbrev pub HasMark : List ℕ → ℕ → Type 0
HasMark bytes size = (size ≤ length bytes) × Settles true bytes (drop size bytes)

-- from bytes that come next at a place, more messages were reached, and this holds of them
abbrev pub Goes : Frames → Place → List ℕ → (List ℕ → List (List ℕ) → Type 0) → (List (List ℕ) → Type 0) → Type 0
Goes frames place bytes Reaches Does = (input : List ℕ) (messages : List (List ℕ))
    → IsAt frames place input messages bytes
    → (more : List (List ℕ)) × Reaches input (messages ++ more) × Does more

-- a message that is too long was counted
pub record CountsLong (was is : Tally) : Type 0 where
  pub answered : is.answered ≡ was.answered
  pub skipped : is.skipped ≡ held_count (was.skipped + 1)
  pub answered_invalid : is.answered_invalid ≡ was.answered_invalid
  pub skipped_invalid : is.skipped_invalid ≡ was.skipped_invalid
  pub too_long : is.too_long ≡ held_count (was.too_long + 1)

-- there is no message, or one that is too long and was counted
abbrev pub Skips : Frames → Tally → Tally → List (List ℕ) → Type 0
Skips frames was is messages = ((messages ≡ []) × (is ≡ was))
    ⊎ ((message : List ℕ) × (messages ≡ message ∷ []) × (is_too_long frames message ≡ true) × CountsLong was is)

-- what the first of the bytes are: they are skipped up to a frame, or there is none
abbrev pub Enters : Frames → Place → Place → List ℕ → Tally → Tally → Entry → Type 0
Enters frames old new bytes was is (After start seen) = (new ≡ Frame) × (start ≤ length bytes)
    × (seen ≤ length (drop start bytes)) × IsOpen frames.framing (take seen (drop start bytes))
    × Goes frames old bytes (λ input messages. Opened frames input messages (drop start bytes)) (Skips frames was is)
Enters frames old new bytes was is (Only size) = (is ≡ was) × (size ≤ length bytes)
    × IsHeld frames.framing new (drop size bytes) × ((input : List ℕ) (messages : List (List ℕ))
    → IsAt frames old input messages bytes → IsAt frames new input messages (drop size bytes))
