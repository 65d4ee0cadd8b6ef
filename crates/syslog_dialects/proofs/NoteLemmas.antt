-- What the readers of the lines that journalctl writes between messages return, and that none is of a dialect.
use Rattle.syslog_dialects.proofs.Names.{[], ◌++◌, ◌<◌, ◌↔◌, ◌∙◌, ◌∷◌, ◌≡◌, ◌≢◌, ap, arith, Bor, chars, chars_cut}
use Rattle.syslog_dialects.proofs.Names.{encode_utf8_all, encodes-append, encodes-chars, exactly, false, heads, is_some}
use Rattle.syslog_dialects.proofs.Names.{IsAscii, IsAscii-nil, IsNote, IsTrue, IsUtf8, length, List, MayBegin, nat_le}
use Rattle.syslog_dialects.proofs.Names.{nat_tests, NoFront, None, one_ascii, Option, refl, shown}
use Rattle.syslog_dialects.proofs.Names.{skip_leading_whitespace, Skips, Some, subst, sym, Text, trimmed, ℕ}
use Rattle.std.proofs.Common.{◌≤◌}
use Rattle.std.proofs.lemmas.List.{append_cancel_right}
use Rattle.std.proofs.lemmas.Str.{IsUtf8-from_ascii, chars-IsAscii, encodes-IsAscii}
use Rattle.std.specs.Char.{is_whitespace}
use Rattle.std.specs.Prelude.{MatchOption, codes, slice_index_or}
use Rattle.std.specs.Str.{drop_trailing_whitespace}
use Rattle.std.specs.Str.Pattern.{FindsTextSuffix, StripsSuffix}
use Rattle.syslog_text.proofs.TextLemmas.Runs.{ascii_front, before_utf8}
use Rattle.syslog_sent.proofs.NamedLemmas.{ascii_told}
use Rattle.syslog_loose.proofs.SettlingLemmas.Settles.{suffix_bytes}
use Rattle.syslog_dialects.specs.Note.{BeginsNote, BeginsWith}
use Rattle.syslog_dialects.specs.SentReading.{begins}

-- ---- what the readers return

-- what `strip_suffix` gives
pub suffix_told : (words bytes : List ℕ) → IsAscii words → IsUtf8 bytes → (r : Option (Bor (List ℕ)))
    → MatchOption r (FindsTextSuffix words bytes None) (λ x. StripsSuffix (FindsTextSuffix words) bytes x.now)
    → MatchOption r ((inner : Text) → chars bytes ≢ inner ++ words) (λ x. chars bytes ≡ shown x ++ words)
suffix_told words bytes w u None n = λ inner e. n (encode_utf8_all inner)
    (sym (encodes-chars bytes u) ∙ ap encode_utf8_all e ∙ encodes-append inner words
    ∙ ap (λ (x : List ℕ). encode_utf8_all inner ++ x) (encodes-IsAscii words w))
suffix_told words bytes w u (Some x) is =
    let e = suffix_bytes words bytes x.now is in
    chars_cut bytes x.now words e (before_utf8 bytes x.now words u (IsUtf8-from_ascii words w) e)
    ∙ ap (λ (y : Text). chars x.now ++ y) (chars-IsAscii words w)

-- what `past` gives
pub begins_told : (words text : Text) (r : Option (Bor (List ℕ))) → Skips (exactly words) tt text r
    → IsTrue (is_some r) ↔ BeginsWith words text
begins_told words text None none = (λ h. cc, λ (more, e). absurd (none words more tt e refl))
begins_told words text (Some x) front = (
  λ h. (shown x, front.whole ∙ ap (λ (y : Text). y ++ shown x) front.is),
  λ b. refl,
)

-- the text between the dashes is one
pub note_is : (text rest inner : Text) → trimmed text ≡ codes "-- " ++ rest → rest ≡ inner ++ codes " --"
    → BeginsNote inner ↔ IsNote text
note_is text rest inner e f = (
  λ b. (inner, e ∙ ap (λ (x : Text). codes "-- " ++ x) f, b),
  λ (other, g, b).
      let same : other ++ codes " --" ≡ rest = after (other ++ codes " --") rest (sym g ∙ e) in
      subst BeginsNote (append_cancel_right other inner (codes " --") (same ∙ f)) b,
)
  where
    after : (a b : Text) → codes "-- " ++ a ≡ codes "-- " ++ b → a ≡ b
    after a b h = cc

-- where the dashes do not begin the text, it is none
pub not_opened : (text t : Text) → t ≡ trimmed text → NoFront (exactly (codes "-- ")) t → IsTrue false ↔ IsNote text
not_opened text t e none = (
  λ h. cc,
  λ (inner, is, b). absurd (none (codes "-- ") (inner ++ codes " --") tt (e ∙ is) refl),
)

-- ---- how they begin

-- a text that is one begins with a dash, after white space
begins_dash : (c : ℕ) (more text : Text) → trimmed text ≡ c ∷ more → IsNote text → c ≡ 45
begins_dash c more text e (inner, is, b) = heads c 45 more (45 ∷ 32 ∷ inner ++ codes " --") (sym e ∙ is)

no_dash : IsTrue (begins 45) → ⊥
no_dash h = cc

-- so it is of no dialect
pub note_begins_none : (text : Text) → MayBegin text → IsNote text → ⊥
note_begins_none text (c, more, e, (b, on)) note =
    no_dash (subst (λ (x : ℕ). IsTrue (begins x)) (begins_dash c more text e note) b)

starts : (c : ℕ) (cs : Text) → is_whitespace c ≡ false → skip_leading_whitespace (c ∷ cs) ≡ c ∷ cs
starts c cs h = rw h refl

stays : (c : ℕ) (cs : Text) → is_whitespace c ≡ false
    → drop_trailing_whitespace (c ∷ cs) ≡ c ∷ drop_trailing_whitespace cs
stays c cs h = rw h refl

first_stays : (c : ℕ) (cs : Text) → is_whitespace c ≡ false → trimmed (c ∷ cs) ≡ c ∷ drop_trailing_whitespace cs
first_stays c cs h = ap drop_trailing_whitespace (starts c cs h) ∙ stays c cs h

shows : (c : ℕ) → 46 ≤ c → c < 128 → is_whitespace c ≡ false
shows c low high = grind (arith, nat_tests)

-- nor does another byte of ASCII above the dash begin it
pub later_first : (bytes more : List ℕ) (c : ℕ) → bytes ≡ c ∷ more → 46 ≤ c → c < 128 → IsNote (chars bytes) → ⊥
later_first bytes more c e low high note =
    let front = ascii_front (c ∷ []) more bytes (one_ascii c high) e in
    let same : c ≡ 45 = begins_dash c (drop_trailing_whitespace (chars more)) (chars bytes)
    (ap trimmed front ∙ first_stays c (chars more) (shows c low high)) note in
    omega (arith, same)

-- by the first byte of the text
pub later_byte : (bytes text : List ℕ) → bytes ≡ text → 1 ≤ length bytes → 46 ≤ slice_index_or bytes 0 0
    → nat_le 128 (slice_index_or bytes 0 0) ≡ false → IsNote (chars text) → ⊥
later_byte [] text same some low high note = omega (arith, some)
later_byte (c ∷ more) text same some low high note =
    later_first text more c (sym same) low (grind (arith, nat_tests, high)) note

pub no_byte : (bytes text : List ℕ) → bytes ≡ text → length bytes < 1 → IsNote (chars text) → ⊥
no_byte [] text same none note = nothing (subst (λ (t : List ℕ). IsNote (chars t)) (sym same) note)
  where
    apart : (t more : Text) (c : ℕ) → t ≡ [] → t ≡ c ∷ more → ⊥
    apart t more c e f = cc

    nothing : IsNote (chars []) → ⊥
    nothing (inner, is, b) = apart (trimmed (chars [])) (45 ∷ 32 ∷ inner ++ codes " --") 45
        (ap trimmed (chars-IsAscii [] IsAscii-nil)) is
no_byte (c ∷ more) text same none note = omega (arith, none)

pub dashes_ascii : IsAscii (codes " --")
dashes_ascii = ascii_told (codes " --") refl
