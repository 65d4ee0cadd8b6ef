-- Runs of bytes, and the runs of characters that they are.
use Rattle.std.proofs.lemmas.Bool.{agree_below}
use Rattle.std.specs.Bool.{beq}
use Rattle.std.specs.Int.{w64, trailing_zeros}
use Rattle.std.specs.Prelude.{◌≡◌, ◌+◌, ◌==◌, if◌then◌else◌, ◌≤◌, ◌<◌, ℕ, Bool, true, false, not}
use Rattle.std.specs.Prelude.{◌-◌, ◌%◌, ◌||◌, nat_eq, ◌&&◌, nat_lt, List, [], ◌∷◌, ◌++◌, length, slice_index, take}
use Rattle.std.specs.Prelude.{drop}
use Rattle.std.specs.Str.{chars, IsUtf8, IsCharBoundary}
use Rattle.syslog_text.specs.declared.text.CharClass.{CharClass}
use Rattle.syslog_text.specs.declared.text.CharClass.TheVariants.{Visible}
use Rattle.syslog_text.specs.declared.text.lanes.ByteSet.{ByteSet}
use Rattle.syslog_text.specs.Text.CharClass.{has}
use Rattle.syslog_text.specs.Pieces.Class.{Each, Ends}

-- the text, by its bytes and by its characters, is the maximal run xs of characters that pass the test, and then ys
pub record SplitsRun (test : ℕ → Bool) (bytes xs ys : List ℕ) : Type 0 where
  pub whole : bytes ≡ xs ++ ys
  pub characters : chars bytes ≡ chars xs ++ chars ys
  pub each : Each test (chars xs)
  pub ends : Ends test (chars ys)
  pub front_utf8 : IsUtf8 xs
  pub back_utf8 : IsUtf8 ys

-- the text may be cut after n bytes, and the maximal run at its front ends there
abbrev pub EndsRun : (ℕ → Bool) → List ℕ → ℕ → Type 0
EndsRun test bytes n = IsCharBoundary bytes n × SplitsRun test bytes (take n bytes) (drop n bytes)

-- an ASCII byte whose character is of the class
abbrev pub byte_in : CharClass → ℕ → Bool
byte_in class b = nat_lt b 128 && has class b

-- the byte is one of the range, or of the three others
abbrev pub lists : ByteSet → ℕ → Bool
lists set b = nat_lt ((b + (256 - set.0)) % 256) set.1
    || nat_eq b (slice_index set.2 0) || nat_eq b (slice_index set.2 1) || nat_eq b (slice_index set.2 2)

-- a byte that is listed, or one that is not, but none of the range from the lowest on
abbrev pub in_set : ByteSet → ℕ → ℕ → ℕ → Bool
in_set set lowest width b = not (nat_lt ((b + (256 - lowest)) % 256) width) && beq (lists set b) set.3

-- the set is the class
abbrev pub lists_class : ByteSet → CharClass → Bool
lists_class set class = agree_below (in_set set 128 128) (byte_in class) 256

-- any byte but ASCII white space and those with which other white space begins: 194, and 225 to 227
abbrev pub visible_byte : ℕ → Bool
visible_byte = in_set (record { 0 = 9; 1 = 5; 2 = 32 ∷ 194 ∷ 194 ∷ []; 3 = false }) 225 3

-- a character past ASCII of the class
abbrev pub past_in : CharClass → ℕ → Bool
past_in class c = not (nat_lt c 128) && has class c

-- the longest run at the front of bytes that pass the test has n bytes
pub record IsRun (test : ℕ → Bool) (bytes : List ℕ) (n : ℕ) : Type 0 where
  pub within : n ≤ length bytes
  pub pass : (k : ℕ) → k < n → test (slice_index bytes k) ≡ true
  pub stops : n < length bytes → test (slice_index bytes n) ≡ false

-- of the sixteen bytes from one place on, the first n pass the test, and the next one fails it
pub record IsRunIn (test : ℕ → Bool) (bytes : List ℕ) (at n : ℕ) : Type 0 where
  pub within : n ≤ 16
  pub pass : (k : ℕ) → at ≤ k → k < at + n → test (slice_index bytes k) ≡ true
  pub stops : n < 16 → test (slice_index bytes (at + n)) ≡ false

-- the place of the lowest bit that is set, or 16
abbrev pub first_set : ℕ → ℕ
first_set mask = if mask == 0 then 16 else trailing_zeros w64 mask

-- bytes that begin and end with ASCII characters that are no white space
pub record IsBare (bytes : List ℕ) : Type 0 where
  pub first : ℕ
  pub middle : List ℕ
  pub last : ℕ
  pub whole : bytes ≡ first ∷ (middle ++ (last ∷ []))
  pub first_in : byte_in Visible first ≡ true
  pub last_in : byte_in Visible last ≡ true
