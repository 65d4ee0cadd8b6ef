-- Lines and the place of the first line feed.
use Rattle.syslog_lines.proofs.Names.{List, append-nil, All-append, IsFirstLine, EndsInFeed}
use Rattle.syslog_lines.proofs.Names.{◌≡◌, length, eq-eqb, eqb-true, All-nil, NoFeed, IsLines}
use Rattle.syslog_lines.proofs.Names.{◌≢◌, ◌+◌, ◌-◌, ◌<◌, ◌∷◌, ◌++◌, take, refl, sym, ◌∙◌, subst, arith}
use Rattle.syslog_lines.proofs.Names.{◌≤◌, ℕ, [], ap, inl, inr, slice_index}
use Rattle.std.{proofs.Common.length-append, proofs.Math.Seq.drop-append_seam, proofs.Math.Seq.take-append_seam}
use Rattle.std.proofs.lemmas.List.{get_or-append-add, length-take, append_assoc}
use Rattle.std.proofs.lemmas.List.Elements.{All-cons, All-drop, All-take}
use Rattle.std.specs.List.{All}
use Rattle.std.proofs.Common.{Bool, true, false, Option, None, Some, ◌==◌}
use Rattle.std.proofs.lemmas.Bool.{cases_Bool}
use Rattle.std.{proofs.lemmas.Bool.Decides.nat_tests}
use Rattle.syslog_lines.specs.Frames.{AreAllFrames, AreFrames, IsOpen, is_above, is_too_long, line_of, without_last}
use Rattle.syslog_lines.proofs.FrameLemmas.{some_frames}
use Rattle.syslog_lines.specs.Lines.{with_feeds}
use Rattle.syslog_lines.specs.Place.{IsLongFront}
use Rattle.syslog_lines.specs.declared.framing.Frames.{Frames}
use Rattle.syslog_lines.specs.declared.framing.Framing.{Framing}
use Rattle.syslog_lines.specs.declared.framing.Framing.TheVariants.{LineFeeds, OctetCounts}

-- the byte is no line feed
abbrev pub IsOther : ℕ → Type 0
IsOther byte = byte ≢ 10

pub all_front : {X : Type 0} (P : X → Type 0) (xs ys : List X) → All P (xs ++ ys) → All P xs
all_front P xs ys all = subst (All P) (take-append_seam xs ys) (All-take P (length xs) (xs ++ ys) all)

pub all_after : {X : Type 0} (P : X → Type 0) (xs ys : List X) → All P (xs ++ ys) → All P ys
all_after P xs ys all = subst (All P) (drop-append_seam xs ys) (All-drop P (length xs) (xs ++ ys) all)

-- ---- lists of lines

pub IsLines-nil : IsLines [] []
IsLines-nil = (All-nil NoFeed, inl refl)

-- no bytes have no lines
only_nil : (lines : List (List ℕ)) → IsLines [] lines → lines ≡ []
only_nil [] cut = refl
only_nil (line ∷ lines) (free, inl joined) = absurd (omega (arith, simp length-append at (ap length joined)))
only_nil (line ∷ lines) (free, inr lacks) =
    absurd (omega (arith, lacks.some, simp length-append at (ap length lacks.joined)))

-- one line with no line feed
one_line : (line : List ℕ) → NoFeed line → 0 < length line → IsLines line (line ∷ [])
one_line line free some = (
  All-cons NoFeed line [] free (All-nil NoFeed),
  inr record { before = []; last = line; some = some; listed = refl; joined = refl },
)

-- a first line, and the lines of what follows it
pub IsLines-cons : (bytes line rest : List ℕ) (more : List (List ℕ)) → 0 < length bytes → IsFirstLine bytes line rest
    → IsLines rest more → IsLines bytes (line ∷ more)
IsLines-cons bytes line rest more some (free, inl feed) (all, inl joined) =
    (All-cons NoFeed line more free all, inl (feed ∙ ap (λ (l : List ℕ). line ++ 10 ∷ l) joined))
IsLines-cons bytes line rest more some (free, inl feed) (all, inr lacks) = (
  All-cons NoFeed line more free all,
  inr record {
    before = line ∷ lacks.before;
    last = lacks.last;
    some = lacks.some;
    listed = ap (λ (l : List (List ℕ)). line ∷ l) lacks.listed;
    joined = simp (feed, lacks.joined, append_assoc);
  },
)
IsLines-cons bytes line rest more some (free, inr (same, empty)) cut =
    rw (only_nil more (rw empty at cut), same) (one_line line free (rw same at some))

-- ---- lines as frames

-- what follows some bytes ends in a line feed if all of them do
after_feed : (front rest : List ℕ) → EndsInFeed (front ++ rest) → EndsInFeed rest
after_feed front rest closed some =
    let long = length-append front rest in
    let place : length (front ++ rest) - 1 ≡ length front + (length rest - 1) = omega arith in
    sym (get_or-append-add front rest (length rest - 1) 0) ∙ rw place at (closed (omega arith))

-- of bytes that end in a line feed the first line is the message of a frame, and what follows it ends in one too
pub line_frame : (framing : Framing) (bytes line rest : List ℕ) → framing ≡ LineFeeds → EndsInFeed bytes
    → 0 < length bytes → IsFirstLine bytes line rest → AreFrames framing bytes (line ∷ []) rest × EndsInFeed rest
    × (length line ≤ length bytes) × (length rest ≤ length bytes)
line_frame framing bytes line rest feeds closed some (free, inl feed) =
    let whole : bytes ≡ (line ++ 10 ∷ []) ++ rest = feed ∙ sym (append_assoc line (10 ∷ []) rest) in
    let long = length-append line (10 ∷ rest) in (
      rw feeds (line ++ 10 ∷ [], rest, inr (λ octets after (on, digits, count, same). cc, free, refl), whole, refl),
      after_feed (line ++ 10 ∷ []) rest (rw whole at closed),
      omega (arith, ap length feed, long),
      omega (arith, ap length feed, long),
    )
line_frame framing bytes line rest feeds closed some (free, inr (same, empty)) =
    absurd (free (length line - 1) 0 (omega (arith, some, ap length same)) (rw same at (closed some)))

frames_are_feeds : (bytes : List ℕ) (lines : List (List ℕ)) (rest : List ℕ) → AreFrames LineFeeds bytes lines rest
    → All NoFeed lines × (bytes ≡ with_feeds lines ++ rest)
frames_are_feeds bytes [] rest same = (All-nil NoFeed, same)
frames_are_feeds bytes (line ∷ lines) rest (frame, after, inl counted, same, framed) =
    let off : LineFeeds ≡ OctetCounts = counted.0 in cc
frames_are_feeds bytes (line ∷ lines) rest (frame, after, inr (none, free, is), same, framed) =
    let (others, joined) = frames_are_feeds after lines rest framed in
    (All-cons NoFeed line lines free others, simp (same, is, joined, append_assoc))

-- all frames that end in line feeds are all lines
pub frames_are_lines : (bytes : List ℕ) (lines : List (List ℕ)) → AreAllFrames LineFeeds bytes lines
    → IsLines bytes lines
frames_are_lines bytes lines (inl framed) =
    let (free, joined) = frames_are_feeds bytes lines [] framed in (free, inl (joined ∙ append-nil (with_feeds lines)))
frames_are_lines bytes lines (inr ends) = elim ends.unended [
  | inl (octets, few, counted) ↦ let off : LineFeeds ≡ OctetCounts = counted.0 in cc
  | inr (none, free, same) ↦
      let (others, joined) = frames_are_feeds bytes ends.before ends.cut ends.framed in (
        rw ends.listed (All-append NoFeed ends.before (ends.last ∷ []) others
            (All-cons NoFeed ends.last [] (rw same free) (All-nil NoFeed))),
        inr record {
          before = ends.before;
          last = ends.last;
          some = rw same ends.some;
          listed = ends.listed;
          joined = rw same joined;
        },
      )
]

-- all bytes have lines
pub some_lines : (bytes : List ℕ) → (lines : List (List ℕ)) × IsLines bytes lines
some_lines bytes =
    let (lines, rest, framed, unended) = some_frames LineFeeds bytes in all lines rest framed unended
  where
    all : (lines : List (List ℕ)) (rest : List ℕ) → AreFrames LineFeeds bytes lines rest → IsOpen LineFeeds rest
        → (lines : List (List ℕ)) × IsLines bytes lines
    all lines [] framed unended = (lines, frames_are_lines bytes lines (inl framed))
    all lines (byte ∷ rest) framed (last, unended) = (
      lines ++ last ∷ [],
      frames_are_lines bytes (lines ++ last ∷ []) (inr record {
        before = lines;
        last = last;
        cut = byte ∷ rest;
        some = omega arith;
        listed = refl;
        framed = framed;
        unended = unended;
      }),
    )

-- ---- the length of a line

-- the byte at the end is left out, or there is none
pub without_last_none : (byte : ℕ) (message : List ℕ) → length message ≡ 0 → without_last byte message ≡ message
without_last_none byte [] none = elim (cases_Bool (0 == byte)) [ inl same ↦ rw same refl | inr other ↦ rw other refl ]
without_last_none byte (first ∷ message) none = absurd (omega arith)

pub without_last_other : (byte : ℕ) (message : List ℕ) → slice_index message (length message - 1) ≢ byte
    → without_last byte message ≡ message
without_last_other byte message other = elim (cases_Bool (slice_index message (length message - 1) == byte)) [
  | inl same ↦ absurd (other (eqb-true (slice_index message (length message - 1)) byte same))
  | inr none ↦ rw none refl
]

pub without_last_same : (byte : ℕ) (message : List ℕ) → slice_index message (length message - 1) ≡ byte
    → without_last byte message ≡ take (length message - 1) message
without_last_same byte message same = rw (eq-eqb (slice_index message (length message - 1)) byte same) refl

without_last_size : (byte : ℕ) (message : List ℕ) → (length (without_last byte message) ≤ length message)
    × (length message ≤ length (without_last byte message) + 1)
without_last_size byte message =
    let cut = length-take (length message - 1) message in
    elim (cases_Bool (slice_index message (length message - 1) == byte)) [
      | inl last ↦ rw last (omega (arith, cut), omega (arith, cut))
      | inr other ↦ rw other (omega arith, omega arith)
    ]

line_size : (strips : Bool) (message : List ℕ) → (length (line_of strips message) ≤ length message)
    × (length message ≤ length (line_of strips message) + 2)
line_size false message = (omega arith, omega arith)
line_size true message =
    let first = without_last_size 13 message in
    let second = without_last_size 0 (without_last 13 message) in
    (omega (arith, first.0, second.0), omega (arith, first.1, second.1))

pub is_above-less : (longest : Option ℕ) (less more : ℕ) → less ≤ more → is_above longest more ≡ false
    → is_above longest less ≡ false
is_above-less None less more low short = refl
is_above-less (Some most) less more low short = grind (arith, nat_tests)

is_above-more : (longest : Option ℕ) (less more : ℕ) → less ≤ more → is_above longest less ≡ true
    → is_above longest more ≡ true
is_above-more None less more low long = long
is_above-more (Some most) less more low long = grind (arith, nat_tests)

-- no line is too long among bytes that are not
pub not_too_long : (frames : Frames) (message : List ℕ) (most : ℕ) → length message ≤ most
    → is_above frames.longest most ≡ false → is_too_long frames message ≡ false
not_too_long frames message most few short = is_above-less frames.longest (length (line_of frames.strips message)) most
    (omega (arith, (line_size frames.strips message).0)) short

-- what a message begins with is too long, if it is so without two bytes
pub long_front : (frames : Frames) (front : List ℕ) → is_above frames.longest (length front - 2) ≡ true
    → IsLongFront frames front
long_front frames front long = λ more. is_above-more frames.longest (length front - 2)
    (length (line_of frames.strips (front ++ more)))
    (omega (arith, (line_size frames.strips (front ++ more)).1, length-append front more)) long
