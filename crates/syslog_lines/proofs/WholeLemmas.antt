-- The first frame of bytes, by the first ending among them or by a count.
use Rattle.syslog_lines.proofs.Names.{◌≡◌, ◌≢◌, ◌+◌, ◌-◌, ◌<◌, ◌≤◌, ℕ, List, [], ◌∷◌, ◌++◌, length, take, drop}
use Rattle.syslog_lines.proofs.Names.{slice_index, inl, inr, refl, sym, ◌∙◌, ap, subst, arith, append_assoc, append-nil}
use Rattle.syslog_lines.proofs.Names.{All-append, get_or, take-append-drop, length-drop, take_at, eq-eqb}
use Rattle.syslog_lines.proofs.Names.{eqb-true, Passes, Nowhere, is_byte}
use Rattle.std.proofs.Common.{Option, length-append, length-take, None, Some, true, Ok, Err}
use Rattle.std.proofs.Math.Seq.{take-add}
use Rattle.std.proofs.lemmas.List.{drop_more, get_or-take, get_or-drop, take_more}
use Rattle.std.proofs.lemmas.List.Elements.{All-from_get_or}
use Rattle.memchr.specs.Find.{NoneBefore}
use Rattle.syslog_lines.specs.Frames.{AreFrames, IsCounted, IsFrame, IsOpen, IsUncounted, NoByte, ending_of}
use Rattle.syslog_lines.specs.Frames.{is_too_long}
use Rattle.syslog_lines.specs.Place.{Ends, IsAt, Opened}
use Rattle.syslog_lines.specs.declared.framing.Framing.{Framing}
use Rattle.syslog_lines.specs.declared.framing.Framing.TheVariants.{LineFeeds}
use Rattle.syslog_lines.specs.declared.framing.Frames.{Frames}
use Rattle.syslog_lines.specs.declared.place.Place.TheVariants.{Long}
use Rattle.syslog_lines.proofs.FrameLemmas.{IsCounted-more, counted_frame, ended_frame, IsUncounted-front}
use Rattle.syslog_lines.proofs.FrameLemmas.{IsUncounted-more}
use Rattle.syslog_lines.proofs.PlaceLemmas.{Opened-frames}

-- ---- the first ending

module _ (ending : ℕ) (bytes : List ℕ) where
  pub first_ending : (end : ℕ) → NoneBefore (Passes (is_byte ending) bytes) 0 (length bytes) end
      → Passes (is_byte ending) bytes end → NoByte ending (take end bytes)
      × (bytes ≡ take end bytes ++ ending ∷ drop (end + 1) bytes)
  first_ending end first at =
      let rest = rw (eqb-true (get_or bytes end 0) ending at) at (drop_more bytes end 0 first.high) in (
        All-from_get_or (λ (byte : ℕ). byte ≢ ending) (take end bytes) 0
            (λ k below. let within : k < end = omega (arith, length-take end bytes) in
            rw (get_or-take end bytes k 0 within) (λ is. first.before k (omega arith) within (eq-eqb _ ending is))),
        sym (take-append-drop end bytes) ∙ ap (λ (l : List ℕ). take end bytes ++ l) rest,
      )

  pub no_ending : Nowhere (Passes (is_byte ending) bytes) 0 (length bytes) → NoByte ending bytes
  no_ending none = All-from_get_or (λ (byte : ℕ). byte ≢ ending) bytes 0
      (λ k within is. none k (omega arith) within (eq-eqb _ ending is))

-- bytes that have no whole frame and no count have no ending
pub open_free : (framing : Framing) (bytes : List ℕ) → IsUncounted framing bytes → IsOpen framing bytes
    → NoByte (ending_of framing) bytes
open_free framing bytes none (message, inl (octets, few, counted)) = absurd (none octets message counted)
open_free framing bytes none (message, inr (other, free, same)) = free

module _ (framing : Framing) (bytes : List ℕ) (seen : ℕ) (none : IsUncounted framing bytes)
    (unended : IsOpen framing (take seen bytes)) where
  seen_free : NoByte (ending_of framing) (take seen bytes)
  seen_free = open_free framing (take seen bytes) (IsUncounted-front framing (take seen bytes) (drop seen bytes)
      (subst (IsUncounted framing) (sym (take-append-drop seen bytes)) none)) unended

  pub ended_whole : (k : ℕ) → k < length (drop seen bytes) → NoByte (ending_of framing) (take k (drop seen bytes))
      → slice_index (drop seen bytes) k ≡ ending_of framing
      → IsFrame framing (take (seen + k) bytes) (take (seen + k + 1) bytes)
  ended_whole k within free last =
      let at : slice_index bytes (seen + k) ≡ ending_of framing = sym (get_or-drop seen bytes k 0) ∙ last in
      let frame = rw at at (take_more bytes (seen + k) 0 (omega (arith, length-drop seen bytes))) in
      let clear = rw (← take-add seen k bytes) at (All-append (λ (byte : ℕ). byte ≢ ending_of framing)
      (take seen bytes) (take k (drop seen bytes)) seen_free free) in
      rw frame (ended_frame framing bytes (take (seen + k) bytes) (drop (seen + k + 1) bytes) none clear
      (rw (← frame) (sym (take-append-drop (seen + k + 1) bytes))))

  pub not_ended : NoByte (ending_of framing) (drop seen bytes) → IsOpen framing bytes
  not_ended free = (
    bytes,
    inr (
      none,
      subst (NoByte (ending_of framing)) (take-append-drop seen bytes)
          (All-append (λ (byte : ℕ). byte ≢ ending_of framing) (take seen bytes) (drop seen bytes) seen_free free),
      refl,
    ),
  )

-- ---- a count

module _ (framing : Framing) (bytes : List ℕ) (head octets : ℕ) (within : head ≤ length bytes)
    (counted : IsCounted framing bytes octets (drop head bytes)) where
  pub counted_whole : octets ≤ length bytes - head
      → IsFrame framing (take octets (drop head bytes)) (take (head + octets) bytes)
  counted_whole there =
      let (frame, is, same, some) = counted_frame framing bytes octets (drop head bytes) counted
      (omega (arith, length-drop head bytes)) in
      let long : length frame ≡ head + octets = omega (
        arith,
        ap length same,
        length-append frame (drop octets (drop head bytes)),
        length-drop octets (drop head bytes),
        length-drop head bytes,
      ) in
      rw (ap (take (head + octets)) same ∙ take_at frame (drop octets (drop head bytes)) (head + octets) long) is

  pub counted_cut : length bytes - head < octets → IsOpen framing bytes
  counted_cut few = (drop head bytes, inl (octets, omega (arith, length-drop head bytes), counted))

-- the frame that bytes begin with, and what follows it
pub one_frame : (framing : Framing) (bytes message : List ℕ) (size : ℕ) → IsFrame framing message (take size bytes)
    → AreFrames framing bytes (message ∷ []) (drop size bytes)
one_frame framing bytes message size is =
    (take size bytes, drop size bytes, is, sym (take-append-drop size bytes), refl)

-- ---- a frame that is cut, and the bytes after it

module _ (framing : Framing) (bytes : List ℕ) where
  pub ends_octets : (left : ℕ) → left ≤ length bytes → Ends framing (Some left) bytes (Ok left)
  ends_octets left there front part some (missing, counted) =
      let size : length part + left ≡ length (part ++ take left bytes) =
      omega (arith, length-append part (take left bytes), length-take left bytes) in (
        take left bytes,
        inl (rw size at (IsCounted-more framing front (length part + left) part (take left bytes) counted)),
      )

  pub ends_ending : (end : ℕ) → NoneBefore (Passes (is_byte (ending_of framing)) bytes) 0 (length bytes) end
      → Passes (is_byte (ending_of framing)) bytes end → Ends framing None bytes (Ok (end + 1))
  ends_ending end first at front part some (none, free, same) =
      let (clear, split) = first_ending (ending_of framing) bytes end first at in
      let last = rw (eqb-true (get_or bytes end 0) (ending_of framing) at) at (take_more bytes end 0 first.high) in (
        take end bytes,
        rw (same, last) (inr (
          IsUncounted-more framing front (take end bytes ++ ending_of framing ∷ []) some none,
          All-append (λ (byte : ℕ). byte ≢ ending_of framing) front (take end bytes) free clear,
          sym (append_assoc front (take end bytes) (ending_of framing ∷ [])),
        )),
      )

  pub goes_on_ending : Nowhere (Passes (is_byte (ending_of framing)) bytes) 0 (length bytes)
      → Ends framing None bytes (Err None)
  goes_on_ending nowhere front part some (none, free, same) = (
    IsUncounted-more framing front bytes some none,
    All-append (λ (byte : ℕ). byte ≢ ending_of framing) front bytes free (no_ending (ending_of framing) bytes nowhere),
    ap (λ (l : List ℕ). l ++ bytes) same,
  )

-- ---- a message that is too long

-- it ends in these bytes
pub long_ends : (frames : Frames) (missing : Option ℕ) (bytes : List ℕ) (end : ℕ)
    → Ends frames.framing missing bytes (Ok end) → (input : List ℕ)
    → (messages : List (List ℕ)) → IsAt frames (Long missing) input messages bytes → (message : List ℕ)
    × Opened frames input (messages ++ message ∷ []) (drop end bytes) × (is_too_long frames message ≡ true)
long_ends frames missing bytes end ends input messages (front, part, opened, long, some, cut) =
    let (more, frame) = ends front part some cut in (
      part ++ more,
      Opened-frames frames input messages ((part ++ more) ∷ []) (front ++ bytes) (drop end bytes) opened (
        front ++ take end bytes,
        drop end bytes,
        frame,
        rw (append_assoc, take-append-drop) refl,
        refl,
      ),
      long more,
    )

-- it goes on after them
pub long_goes_on : (frames : Frames) (missing left : Option ℕ) (bytes : List ℕ)
    → Ends frames.framing missing bytes (Err left) → (input : List ℕ) → (messages : List (List ℕ))
    → IsAt frames (Long missing) input messages bytes → IsAt frames (Long left) input messages []
long_goes_on frames missing left bytes goes_on input messages (front, part, opened, long, some, cut) = (
  front ++ bytes,
  part ++ bytes,
  rw append-nil opened,
  λ more. rw append_assoc (long (bytes ++ more)),
  omega (arith, length-append front bytes, some),
  goes_on front part some cut,
)

-- no line feed is among what follows a place
pub open_after : (bytes : List ℕ) (past : ℕ)
    → ((k : ℕ) → past ≤ k → k < length bytes → slice_index bytes k ≢ 10) → IsOpen LineFeeds (drop past bytes)
open_after bytes past none = (
  drop past bytes,
  inr (
    λ octets rest (on, digits, count, same). cc,
    All-from_get_or (λ (byte : ℕ). byte ≢ 10) (drop past bytes) 0 (λ k below. rw (get_or-drop past bytes k 0)
        (none (past + k) (omega arith) (omega (arith, length-drop past bytes)))),
    refl,
  ),
)
