-- The frames of the input: those of RFC 6587, section 3.4, and this project's own choices.
use Rattle.std.specs.Prelude.{◌≡◌, ◌≢◌, ◌+◌, ◌-◌, ◌*◌, ◌<◌, ◌≤◌, ◌⊎◌, ℕ, Bool, true, false, List, [], ◌∷◌, ◌++◌, All}
use Rattle.std.specs.Prelude.{Option, Some, None, ◌==◌, decimal, if◌then◌else◌, length, nat_lt, slice_index, take}
use Rattle.syslog_lines.specs.declared.framing.Framing.{Framing}
use Rattle.syslog_lines.specs.declared.framing.Framing.TheVariants.{LineFeeds, Nuls, OctetCounts}
use Rattle.syslog_lines.specs.declared.framing.Frames.{Frames}

-- those of plain lines: what is between line feeds, of any length, with each of its bytes
abbrev pub plain_lines : Frames
plain_lines = record { framing = LineFeeds; strips = false; longest = None }

-- no byte is this one
abbrev pub NoByte : ℕ → List ℕ → Type 0
NoByte ending bytes = All (λ byte. byte ≢ ending) bytes

-- the byte that ends a frame without a count
abbrev pub ending_of : Framing → ℕ
ending_of LineFeeds = 10
ending_of Nuls = 0
ending_of OctetCounts = 10

abbrev pub IsDigit : ℕ → Type 0
IsDigit byte = (48 ≤ byte) × (byte ≤ 57)

-- the number that digits write after those of another number
abbrev pub number_after : ℕ → List ℕ → ℕ
number_after before [] = before
number_after before (digit ∷ digits) = number_after (before * 10 + (digit - 48)) digits

-- the bytes begin with so many digits, no more of which would be looked at, and they write this number
pub record AreDigits (bytes : List ℕ) (size number : ℕ) : Type 0 where
  pub few : size ≤ 9
  pub within : size ≤ length bytes
  pub each : All IsDigit (take size bytes)
  pub value : number ≡ number_after 0 (take size bytes)
  pub last : size < 9 → size < length bytes → ¬ (IsDigit (slice_index bytes size))

-- these digits count so many octets: one to nine digits, of which the first is not 0
pub record IsCount (digits : List ℕ) (octets : ℕ) : Type 0 where
  pub some : 0 < length digits
  pub few : length digits ≤ 9
  pub first : slice_index digits 0 ≢ 48
  pub each : All IsDigit digits
  pub value : octets ≡ number_after 0 digits

-- the bytes begin with a count and a space, if the framing has counts, and these follow
abbrev pub IsCounted : Framing → List ℕ → ℕ → List ℕ → Type 0
IsCounted framing bytes octets rest = (framing ≡ OctetCounts) × (digits : List ℕ) × IsCount digits octets
    × (bytes ≡ digits ++ 32 ∷ rest)

-- they begin with no count
abbrev pub IsUncounted : Framing → List ℕ → Type 0
IsUncounted framing bytes = (octets : ℕ) (rest : List ℕ) → IsCounted framing bytes octets rest → ⊥

-- a whole frame and its message: a count, a space and so many octets; or what comes before the next ending
abbrev pub IsFrame : Framing → List ℕ → List ℕ → Type 0
IsFrame framing message frame = IsCounted framing frame (length message) message
    ⊎ (IsUncounted framing frame × NoByte (ending_of framing) message × (frame ≡ message ++ ending_of framing ∷ []))

-- the frame that is written for a message
abbrev pub frame_of : Framing → List ℕ → List ℕ
frame_of LineFeeds message = message ++ 10 ∷ []
frame_of Nuls message = message ++ 0 ∷ []
frame_of OctetCounts message = decimal (length message) ++ 32 ∷ message

-- a message that one frame can have: no ending is in it, or it is not empty and its count has at most nine digits
abbrev pub CanBeFramed : Framing → List ℕ → Type 0
CanBeFramed LineFeeds message = NoByte 10 message
CanBeFramed Nuls message = NoByte 0 message
CanBeFramed OctetCounts message = (0 < length message) × (length message ≤ 999999999)

-- a frame that the end of the bytes cuts, and what is there of its message
abbrev pub IsCutFrame : Framing → List ℕ → List ℕ → Type 0
IsCutFrame framing message bytes = ((octets : ℕ) × (length message < octets) × IsCounted framing bytes octets message)
    ⊎ (IsUncounted framing bytes × NoByte (ending_of framing) bytes × (message ≡ bytes))

-- the bytes have no whole frame
abbrev pub IsOpen : Framing → List ℕ → Type 0
IsOpen framing bytes = (message : List ℕ) × IsCutFrame framing message bytes

-- the bytes begin with whole frames that have these messages, and these bytes follow
abbrev pub AreFrames : Framing → List ℕ → List (List ℕ) → List ℕ → Type 0
AreFrames framing bytes [] rest = bytes ≡ rest
AreFrames framing bytes (message ∷ messages) rest = (frame : List ℕ) × (after : List ℕ) × IsFrame framing message frame
    × (bytes ≡ frame ++ after) × AreFrames framing after messages rest

-- the last message is that of a frame which the end of the bytes cuts
pub record EndsCut (framing : Framing) (bytes : List ℕ) (messages : List (List ℕ)) : Type 0 where
  pub before : List (List ℕ)
  pub last : List ℕ
  pub cut : List ℕ
  pub some : 0 < length cut
  pub listed : messages ≡ before ++ last ∷ []
  pub framed : AreFrames framing bytes before cut
  pub unended : IsCutFrame framing last cut

-- these are the messages of all frames of the bytes
abbrev pub AreAllFrames : Framing → List ℕ → List (List ℕ) → Type 0
AreAllFrames framing bytes messages = AreFrames framing bytes messages [] ⊎ EndsCut framing bytes messages

-- the byte order mark of UTF-8
abbrev pub mark : List ℕ
mark = 0xEF ∷ 0xBB ∷ 0xBF ∷ []

-- what follows the byte order mark that the input begins with, if it is passed over
abbrev pub HasBody : Bool → List ℕ → List ℕ → Type 0
HasBody false input body = input ≡ body
HasBody true input body = (input ≡ mark ++ body) ⊎ ((input ≡ body) × ((rest : List ℕ) → input ≡ mark ++ rest → ⊥))

-- What was read has these messages in whole frames, and this is left of it.
pub record HasFrames (frames : Frames) (input : List ℕ) (messages : List (List ℕ)) (cut : List ℕ) : Type 0 where
  pub body : List ℕ
  pub opened : HasBody frames.strips input body
  pub framed : AreFrames frames.framing body messages cut
  pub unended : IsOpen frames.framing cut

-- the whole input has these messages
abbrev pub HasAllFrames : Frames → List ℕ → List (List ℕ) → Type 0
HasAllFrames frames input messages = (body : List ℕ) × HasBody frames.strips input body
    × AreAllFrames frames.framing body messages

-- the message without this byte at its end
abbrev pub without_last : ℕ → List ℕ → List ℕ
without_last byte message =
    if slice_index message (length message - 1) == byte then take (length message - 1) message else message

-- the line that a message is read as: without a carriage return at its end and then without a NUL, if these are
-- stripped
abbrev pub line_of : Bool → List ℕ → List ℕ
line_of false message = message
line_of true message = without_last 0 (without_last 13 message)

-- whether so many bytes are more than the most, if there is one
abbrev pub is_above : Option ℕ → ℕ → Bool
is_above None size = false
is_above (Some most) size = nat_lt most size

-- whether the line of a message is longer than a line may be
abbrev pub is_too_long : Frames → List ℕ → Bool
is_too_long frames message = is_above frames.longest (length (line_of frames.strips message))
