-- Frames: bytes in two, more bytes after them, and that all bytes have them.
use Rattle.syslog_lines.proofs.Names.{◌≡◌, ◌≢◌, ◌+◌, ◌-◌, ◌<◌, ◌≤◌, ℕ, List, [], ◌∷◌, ◌++◌, length, take, drop}
use Rattle.syslog_lines.proofs.Names.{inl, inr, refl, sym, ◌∙◌, ap, subst, arith, append_assoc, cases_eq}
use Rattle.syslog_lines.proofs.Names.{All-nil, take-append-drop}
use Rattle.std.proofs.Common.{length-append, length-take, ◌⊎◌, suc, zero}
use Rattle.std.proofs.Math.Seq.{take-append_seam, take-append-add}
use Rattle.std.proofs.lemmas.List.Elements.{All-cons, All-get_or, All-weaker}
use Rattle.std.proofs.lemmas.List.{get_or_append_left, nil_from_length}
use Rattle.std.specs.List.{All}
use Rattle.syslog_lines.specs.Frames.{AreFrames, IsCounted, IsDigit, IsFrame, IsOpen, IsUncounted, NoByte, ending_of}
use Rattle.syslog_lines.specs.declared.framing.Framing.{Framing}
use Rattle.syslog_lines.specs.declared.framing.Framing.TheVariants.{LineFeeds, Nuls, OctetCounts}
use Rattle.syslog_lines.proofs.DigitLemmas.{count_or_not, le_or_lt}

-- ---- counts

pub IsCounted-more : (framing : Framing) (bytes : List ℕ) (octets : ℕ) (rest more : List ℕ)
    → IsCounted framing bytes octets rest → IsCounted framing (bytes ++ more) octets (rest ++ more)
IsCounted-more framing bytes octets rest more (on, digits, count, same) =
    (on, digits, count, rw same (append_assoc digits (32 ∷ rest) more))

pub IsUncounted-front : (framing : Framing) (front more : List ℕ) → IsUncounted framing (front ++ more)
    → IsUncounted framing front
IsUncounted-front framing front more none = λ octets rest is.
    none octets (rest ++ more) (IsCounted-more framing front octets rest more is)

-- ten bytes show whether there is a count
pub IsUncounted-more : (framing : Framing) (front more : List ℕ) → 10 ≤ length front → IsUncounted framing front
    → IsUncounted framing (front ++ more)
IsUncounted-more framing front more long none = λ octets rest (on, digits, count, same).
    let size : ℕ = length (digits ++ 32 ∷ []) in
    let over : ℕ = length front - size in
    let sum : length front ≡ size + over = omega (arith, length-append digits (32 ∷ []), count.few) in
    none octets (take over rest) (
      on,
      digits,
      count,
      sym (take-append_seam front more) ∙ ap (take (length front)) (same ∙ sym (append_assoc digits (32 ∷ []) rest))
          ∙ ap (λ (n : ℕ). take n ((digits ++ 32 ∷ []) ++ rest)) sum
          ∙ take-append-add (digits ++ 32 ∷ []) rest over ∙ append_assoc digits (32 ∷ []) (take over rest),
    )

-- bytes that are no digit and no ending have no whole frame
pub open_high : (framing : Framing) (bytes : List ℕ) → All (λ byte. 57 < byte) bytes → IsOpen framing bytes
open_high framing bytes high = (bytes, inr (uncounted, All-weaker _ _ other bytes high, refl))
  where
    uncounted : IsUncounted framing bytes
    uncounted octets rest (on, digits, count, same) =
        let digit = All-get_or IsDigit digits 0 0 count.some count.each in
        let first = rw same at (high 0 0 (omega (arith, ap length same, length-append digits (32 ∷ rest)))) in
        omega (arith, digit, first, get_or_append_left digits (32 ∷ rest) 0 0 count.some)

    other : (byte : ℕ) → 57 < byte → byte ≢ ending_of framing
    other byte above is = omega (arith, is, above, low framing)
      where
        low : (framing : Framing) → ending_of framing ≤ 57
        low LineFeeds = omega arith
        low Nuls = omega arith
        low OctetCounts = omega arith

pub IsOpen-nil : (framing : Framing) → IsOpen framing []
IsOpen-nil framing = open_high framing [] (All-nil (λ (byte : ℕ). 57 < byte))

-- ---- whole frames

pub AreFrames-append : (framing : Framing) (bytes : List ℕ) (messages more : List (List ℕ)) (mid rest : List ℕ)
    → AreFrames framing bytes messages mid → AreFrames framing mid more rest
    → AreFrames framing bytes (messages ++ more) rest
AreFrames-append framing bytes [] more mid rest same next =
    subst (λ (l : List ℕ). AreFrames framing l more rest) (sym same) next
AreFrames-append framing bytes (message ∷ messages) more mid rest (frame, after, is, same, framed) next =
    (frame, after, is, same, AreFrames-append framing after messages more mid rest framed next)

pub AreFrames-more : (framing : Framing) (bytes : List ℕ) (messages : List (List ℕ)) (rest more : List ℕ)
    → AreFrames framing bytes messages rest → AreFrames framing (bytes ++ more) messages (rest ++ more)
AreFrames-more framing bytes [] rest more same = ap (λ (l : List ℕ). l ++ more) same
AreFrames-more framing bytes (message ∷ messages) rest more (frame, after, is, same, framed) = (
  frame,
  after ++ more,
  is,
  rw same (append_assoc frame after more),
  AreFrames-more framing after messages rest more framed,
)

-- ---- all bytes have frames

-- the bytes in two at the first byte of this value
split_at : (ending : ℕ) (bytes : List ℕ) → ((front : List ℕ) × (rest : List ℕ) × NoByte ending front
    × (bytes ≡ front ++ ending ∷ rest)) ⊎ NoByte ending bytes
split_at ending [] = inr (All-nil (λ (byte : ℕ). byte ≢ ending))
split_at ending (byte ∷ bytes) = elim (cases_eq byte ending) [
  | inl same ↦ inl ([], bytes, All-nil (λ (b : ℕ). b ≢ ending), ap (λ (b : ℕ). b ∷ bytes) same)
  | inr other ↦ elim (split_at ending bytes) [
    | inl (front, rest, free, same) ↦ inl
        (byte ∷ front, rest, All-cons (λ (b : ℕ). b ≢ ending) byte front other free, ap (λ (l : List ℕ). byte ∷ l) same)
    | inr free ↦ inr (All-cons (λ (b : ℕ). b ≢ ending) byte bytes other free)
  ]
]

-- the bytes begin with a whole frame
abbrev Begins : Framing → List ℕ → Type 0
Begins framing bytes = (message : List ℕ) × (frame : List ℕ) × (rest : List ℕ)
    × IsFrame framing message frame × (bytes ≡ frame ++ rest) × (0 < length frame)

-- all octets of a count are there
pub counted_frame : (framing : Framing) (bytes : List ℕ) (octets : ℕ) (rest : List ℕ)
    → IsCounted framing bytes octets rest → octets ≤ length rest → (frame : List ℕ)
    × IsFrame framing (take octets rest) frame × (bytes ≡ frame ++ drop octets rest) × (0 < length frame)
counted_frame framing bytes octets rest (on, digits, count, same) there =
    let message : List ℕ = take octets rest in
    let size : octets ≡ length message = omega (arith, length-take octets rest) in (
      digits ++ 32 ∷ message,
      inl (on, digits, rw size at count, refl),
      rw (append_assoc digits (32 ∷ message) (drop octets rest), take-append-drop octets rest) same,
      omega (arith, length-append digits (32 ∷ message)),
    )

-- an ending is there
pub ended_frame : (framing : Framing) (bytes front rest : List ℕ) → IsUncounted framing bytes
    → NoByte (ending_of framing) front → bytes ≡ (front ++ ending_of framing ∷ []) ++ rest
    → IsFrame framing front (front ++ ending_of framing ∷ [])
ended_frame framing bytes front rest none free whole =
    inr (IsUncounted-front framing (front ++ ending_of framing ∷ []) rest (rw whole at none), free, refl)

first_frame : (framing : Framing) (bytes : List ℕ) → Begins framing bytes ⊎ IsOpen framing bytes
first_frame framing bytes = elim (count_or_not framing bytes) [
  | inl (octets, rest, counted) ↦ elim (le_or_lt octets (length rest)) [
    | inl there ↦
        let (frame, is, same, some) = counted_frame framing bytes octets rest counted there in
        inl (take octets rest, frame, drop octets rest, is, same, some)
    | inr cut ↦ inr (rest, inl (octets, cut, counted))
  ]
  | inr none ↦ elim (split_at (ending_of framing) bytes) [
    | inl (front, rest, free, same) ↦
        let whole : bytes ≡ (front ++ ending_of framing ∷ []) ++ rest =
        same ∙ sym (append_assoc front (ending_of framing ∷ []) rest) in inl (
          front,
          front ++ ending_of framing ∷ [],
          rest,
          ended_frame framing bytes front rest none free whole,
          whole,
          omega (arith, length-append front (ending_of framing ∷ [])),
        )
    | inr free ↦ inr (bytes, inr (none, free, refl))
  ]
]

frames_within : (n : ℕ) (framing : Framing) (bytes : List ℕ) → length bytes ≤ n → (messages : List (List ℕ))
    × (rest : List ℕ) × AreFrames framing bytes messages rest × IsOpen framing rest
frames_within zero framing bytes few =
    ([], bytes, refl, rw (nil_from_length bytes (omega arith)) (IsOpen-nil framing))
frames_within (suc n) framing bytes few = elim (first_frame framing bytes) [
  | inl (message, frame, after, is, same, some) ↦
      let (messages, rest, framed, unended) = frames_within n framing after
      (omega (arith, ap length same, length-append frame after)) in
      (message ∷ messages, rest, (frame, after, is, same, framed), unended)
  | inr unended ↦ ([], bytes, refl, unended)
]

pub some_frames : (framing : Framing) (bytes : List ℕ) → (messages : List (List ℕ)) × (rest : List ℕ)
    × AreFrames framing bytes messages rest × IsOpen framing rest
some_frames framing bytes = frames_within (length bytes) framing bytes (omega arith)
