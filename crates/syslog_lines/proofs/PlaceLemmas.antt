-- The place of the bytes that come next, as more is read and as frames end.
use Rattle.syslog_lines.proofs.Names.{◌≡◌, ◌<◌, ◌≤◌, ℕ, List, [], ◌∷◌, ◌++◌, length, inl, inr, refl}
use Rattle.syslog_lines.proofs.Names.{◌∙◌, ap, arith, append_assoc, append-nil, Bool, true, Option, Some, ◌+◌}
use Rattle.std.proofs.Common.{length-append, None}
use Rattle.std.proofs.lemmas.List.Elements.{All-from_recursion}
use Rattle.syslog_lines.specs.Frames.{AreFrames, HasAllFrames, HasBody, HasFrames, IsCutFrame}
use Rattle.syslog_lines.specs.Frames.{IsOpen, mark}
use Rattle.syslog_lines.specs.Place.{IsAt, IsCutBy, IsHeld, IsLongFront, IsMarkFront, Opened}
use Rattle.syslog_lines.specs.declared.framing.Framing.{Framing}
use Rattle.syslog_lines.specs.declared.framing.Frames.{Frames}
use Rattle.syslog_lines.specs.declared.place.Place.{Place}
use Rattle.syslog_lines.specs.declared.place.Place.TheVariants.{Head, Frame, Long}
use Rattle.syslog_lines.proofs.FrameLemmas.{AreFrames-append, AreFrames-more, open_high}
use Rattle.syslog_lines.proofs.LineLemmas.{all_front}

-- ---- more frames, and more bytes

pub Opened-frames : (frames : Frames) (input : List ℕ) (messages more : List (List ℕ)) (bytes rest : List ℕ)
    → Opened frames input messages bytes → AreFrames frames.framing bytes more rest
    → Opened frames input (messages ++ more) rest
Opened-frames frames input messages more bytes rest opened framed = record {
  body = opened.body;
  settled = opened.settled;
  framed = AreFrames-append frames.framing opened.body messages more bytes rest opened.framed framed;
}

pub Opened-read : (frames : Frames) (input : List ℕ) (messages : List (List ℕ)) (bytes piece : List ℕ)
    → Opened frames input messages bytes → Opened frames (input ++ piece) messages (bytes ++ piece)
Opened-read frames input messages bytes piece opened = record {
  body = opened.body ++ piece;
  settled = λ more. rw (append_assoc input piece more, append_assoc opened.body piece more)
      (opened.settled (piece ++ more));
  framed = AreFrames-more frames.framing opened.body messages bytes piece opened.framed;
}

-- ---- a beginning of the byte order mark

pub open_front : (framing : Framing) (bytes : List ℕ) → IsMarkFront bytes → IsOpen framing bytes
open_front framing bytes (more, some, same) =
    open_high framing bytes (all_front (λ (byte : ℕ). 57 < byte) bytes more (rw same
    (All-from_recursion (λ (byte : ℕ). 57 < byte) mark (omega arith, (omega arith, (omega arith, tt))))))

front_unmarked : (strips : Bool) (bytes : List ℕ) → strips ≡ true → IsMarkFront bytes → HasBody strips bytes bytes
front_unmarked strips bytes on (more, some, whole) = rw on (inr (
  refl,
  λ rest is. omega (arith, some, ap length whole, length-append bytes more, ap length is, length-append mark rest),
))

-- ---- what was read, by the place

-- what is missing of a frame shows that it is cut
pub cut_is : (framing : Framing) (bytes message : List ℕ) (missing : Option ℕ) → IsCutBy framing bytes message missing
    → IsCutFrame framing message bytes
cut_is framing bytes message None cut = inr cut
cut_is framing bytes message (Some left) (some, counted) = inl (length message + left, omega (arith, some), counted)

pub read_opened : (frames : Frames) (input : List ℕ) (messages : List (List ℕ)) (cut : List ℕ)
    → Opened frames input messages cut → IsOpen frames.framing cut → HasFrames frames input messages cut
read_opened frames input messages cut opened unended = record {
  body = opened.body;
  opened = rw (append-nil input, append-nil opened.body) at (opened.settled []);
  framed = opened.framed;
  unended = unended;
}

-- a message that is too long: what is there of it
pub read_long : (frames : Frames) (missing : Option ℕ) (input : List ℕ) (messages : List (List ℕ)) (bytes : List ℕ)
    → bytes ≡ [] → IsAt frames (Long missing) input messages bytes → (front : List ℕ) × (part : List ℕ)
    × HasFrames frames input messages front × IsCutFrame frames.framing part front × IsLongFront frames part
    × (0 < length front)
read_long frames missing input messages bytes empty (front, part, opened, long, some, cut) =
    let whole : front ++ bytes ≡ front = ap (λ (l : List ℕ). front ++ l) empty ∙ append-nil front in
    let unended = cut_is frames.framing front part missing cut in (
      front,
      part,
      read_opened frames input messages front (rw whole at opened) (part, unended),
      unended,
      long,
      omega (arith, some),
    )

-- what is held there has no whole frame
pub open_begun : (framing : Framing) (place : Place) (bytes : List ℕ)
    → ((missing : Option ℕ) → place ≡ Long missing → ⊥) → IsHeld framing place bytes → IsOpen framing bytes
open_begun framing Head bytes other front = open_front framing bytes front
open_begun framing Frame bytes other unended = unended
open_begun framing (Long missing) bytes other held = absurd (other missing refl)

-- what is held there is the beginning of a frame, or nothing
pub read_begun : (frames : Frames) (place : Place) (input : List ℕ) (messages : List (List ℕ)) (bytes : List ℕ)
    → ((missing : Option ℕ) → place ≡ Long missing → ⊥) → IsHeld frames.framing place bytes
    → IsAt frames place input messages bytes → HasFrames frames input messages bytes
read_begun frames Head input messages bytes other front (on, same, none) = rw (same, none) (record {
  body = bytes;
  opened = front_unmarked frames.strips bytes on front;
  framed = refl;
  unended = open_front frames.framing bytes front;
})
read_begun frames Frame input messages bytes other unended opened =
    read_opened frames input messages bytes opened unended
read_begun frames (Long missing) input messages bytes other held at = absurd (other missing refl)

-- what was read has these messages in whole frames, and what is held is all of the frame that is cut, or nothing
pub HasRead-held : (frames : Frames) (place : Place) (input : List ℕ) (messages : List (List ℕ)) (bytes : List ℕ)
    → IsAt frames place input messages bytes → IsHeld frames.framing place bytes
    → (cut : List ℕ) × HasFrames frames input messages cut × (length bytes ≤ length cut)
HasRead-held frames Head input messages bytes at held =
    (bytes, read_begun frames Head input messages bytes (λ missing is. cc) held at, omega arith)
HasRead-held frames Frame input messages bytes at held =
    (bytes, read_begun frames Frame input messages bytes (λ missing is. cc) held at, omega arith)
HasRead-held frames (Long missing) input messages bytes at empty =
    let long = read_long frames missing input messages bytes empty at in
    (long.0, long.2, omega (arith, ap length empty))

-- one block more
pub IsAt-read : (frames : Frames) (place : Place) (input : List ℕ) (messages : List (List ℕ)) (bytes piece : List ℕ)
    → IsAt frames place input messages bytes → IsAt frames place (input ++ piece) messages (bytes ++ piece)
IsAt-read frames Head input messages bytes piece (on, same, none) = (on, ap (λ (l : List ℕ). l ++ piece) same, none)
IsAt-read frames Frame input messages bytes piece opened = Opened-read frames input messages bytes piece opened
IsAt-read frames (Long missing) input messages bytes piece (front, part, opened, long, some, cut) = (
  front,
  part,
  rw append_assoc at (Opened-read frames input messages (front ++ bytes) piece opened),
  long,
  some,
  cut,
)

-- ---- the end of the input

-- no bytes are left
pub all_none_left : (frames : Frames) (input : List ℕ) (messages : List (List ℕ)) → HasFrames frames input messages []
    → HasAllFrames frames input (messages ++ [])
all_none_left frames input messages read = (read.body, read.opened, inl (rw (append-nil messages) read.framed))

-- or those of a frame that is cut
pub all_cut : (frames : Frames) (input : List ℕ) (messages : List (List ℕ)) (cut last : List ℕ)
    → HasFrames frames input messages cut → 0 < length cut → IsCutFrame frames.framing last cut
    → HasAllFrames frames input (messages ++ last ∷ [])
all_cut frames input messages cut last read some unended = (
  read.body,
  read.opened,
  inr record {
    before = messages;
    last = last;
    cut = cut;
    some = some;
    listed = refl;
    framed = read.framed;
    unended = unended;
  },
)
