-- A text has one front of each class of a zone.
use Rattle.std.proofs.Common.{◌≡◌, ◌∙◌, ◌++◌, ℕ, ℤ, Bool, true, false, List, [], ◌∷◌, Option, refl, sym, subst, arith}
use Rattle.syslog_text.specs.Pieces.Class.{Text, Class, Front, NoFront, IsDeterministic, Row, Ends, exactly}
use Rattle.syslog_text.specs.Text.{is_tag_char}
use Rattle.syslog_pieces.specs.Timestamp.Rfc3339.{sign, seconds_of}
use Rattle.syslog_text.proofs.PieceLemmas.Class.{AllDeterministic}
use Rattle.syslog_text.proofs.PieceLemmas.Class.{front_of, front_same, Fails, no_row}
use Rattle.syslog_text.proofs.PieceLemmas.Class.{no_mapped}
use Rattle.syslog_sent.specs.Zone.{bare_word, ended, minutes_row, offset_row}
use Rattle.syslog_sent.specs.Named.{◌otherwise◌, BeginsWith}
use Rattle.syslog_sent.specs.Zone.{mapped_offset, numeric_offset}
use Rattle.syslog_sent.specs.Zone.{IsZoneName, zone_name, offset_of, zone_mark, zone_row, zone}
use Rattle.std.proofs.Common.{map, inl}
use Rattle.std.proofs.lemmas.Bool.{and_parts}
use Rattle.std.proofs.lemmas.Str.{IsUtf8-from_ascii, chars-IsAscii}
use Rattle.std.specs.Cmp.Lexicographic.{same_text}
use Rattle.std.specs.Prelude.{◌&&◌, ◌||◌, IsTrue}
use Rattle.std.specs.Str.{IsUtf8, chars}
use Rattle.syslog_text.specs.Pieces.View.{text_eq}
use Rattle.syslog_text.proofs.TextLemmas.Runs.{same_chars}
use Rattle.syslog_sent.specs.Runs.{are_ascii}
use Rattle.syslog_sent.specs.Date.{IsDay, day_words}
use Rattle.syslog_sent.specs.Zone.{begins_zone, has_shape, is_among, is_capital, zone_words}
use Rattle.syslog_sent.proofs.NamedLemmas.{ascii_told, no_otherwise}
use Rattle.std.proofs.lemmas.Bool.Decides.{nat_tests}
use Rattle.syslog_sent.proofs.Determined.{determined}

-- ---- a piece that ends a word
pub ended_front : (C : Class) {t q : Text} {v : C.Value} → Front C t q v → Ends is_tag_char q → Front (ended C) t q v
ended_front C f ends = front_of f.piece f.whole (f.is, ends)

pub no_ended : (C : Class) {t : Text} → NoFront C t → NoFront (ended C) t
no_ended C n p q v e h = n p q v e h.0

pub not_ended : (C : Class) → IsDeterministic C → {t q : Text} {v : C.Value} → Front C t q v → (Ends is_tag_char q → ⊥)
    → NoFront (ended C) t
not_ended C d f n p q v e h = n (subst (λ (x : Text). Ends is_tag_char x) (front_same C d (front_of p e h.0) f).0 h.1)

-- ---- the classes
pub bare_word_det : IsDeterministic bare_word
bare_word_det = search determined depth 60

pub minutes_row_det : AllDeterministic minutes_row
minutes_row_det = search determined depth 60

offset_row_det : AllDeterministic offset_row
offset_row_det = search determined depth 60

pub seconds_det : IsDeterministic mapped_offset
seconds_det = search (offset_row_det, determined) depth 60

pub zone_row_det : AllDeterministic zone_row
zone_row_det = search (seconds_det, determined) depth 60

pub zone_det : IsDeterministic zone
zone_det = search (zone_row_det, determined) depth 60

-- ---- what their readers return
pub no_sign : {t : Text} → NoFront (exactly (45 ∷ [])) t → NoFront (exactly (43 ∷ [])) t → NoFront sign t
no_sign n m p q true e h = n p q tt e h
no_sign n m p q false e h = m p q tt e h

pub no_offset : {t : Text} → Fails offset_row t → NoFront numeric_offset t
no_offset f = no_ended mapped_offset (no_mapped (Row offset_row) ℤ seconds_of (no_row offset_row offset_row_det f))

-- ---- the names of zones have one shape

-- one of two tests holds
pub either_told : {P : Type 0} (a b : Bool) → (a || b) ≡ true → (a ≡ true → P) → (b ≡ true → P) → P
either_told true b h f g = f refl
either_told false b h f g = g h

are_fit : List (List ℕ) → Bool
are_fit [] = true
are_fit (w ∷ ws) = (are_ascii w && has_shape w) && are_fit ws

module _ (bs : List ℕ) (u : IsUtf8 bs) where
  one_shape : (w : List ℕ) → IsTrue (are_ascii w && has_shape w) → true ≡ text_eq (chars w) (chars bs)
      → IsTrue (has_shape bs)
  one_shape w h e =
      let (ascii, shape) = and_parts (are_ascii w) (has_shape w) h in
      let is : w ≡ bs = same_chars w bs (IsUtf8-from_ascii w (ascii_told w ascii)) u
      (same_text (chars w) (chars bs) e) in
      subst (λ (x : List ℕ). IsTrue (has_shape x)) is shape

  among_shape : (ws : List (List ℕ)) → IsTrue (are_fit ws) → is_among (chars bs) (map chars ws) ≡ true
      → IsTrue (has_shape bs)
  unfolding are_fit
  among_shape [] h e = absurd (let f : false ≡ true = e in cc)
  among_shape (w ∷ ws) h e =
      let (fits, more) = and_parts (are_ascii w && has_shape w) (are_fit ws) h in
      either_told (text_eq (chars w) (chars bs)) (is_among (chars bs) (map chars ws))
      e (λ is. one_shape w fits (sym is))
      (λ later. among_shape ws more later)

names_fit : IsTrue (are_fit zone_words)
unfolding are_fit
names_fit = refl

days_fit : IsTrue (are_fit day_words)
unfolding are_fit
days_fit = refl

-- a text of another shape is the name of no zone
pub no_zone : (bs : List ℕ) → IsUtf8 bs → false ≡ has_shape bs → IsZoneName (chars bs) → ⊥
no_zone bs u n is = let s : true ≡ has_shape bs = sym (among_shape bs u zone_words names_fit is) in cc

-- and of no day
pub no_day : (bs : List ℕ) → IsUtf8 bs → false ≡ has_shape bs → IsDay (chars bs) → ⊥
no_day bs u n is = let s : true ≡ has_shape bs = sym (among_shape bs u day_words days_fit is) in cc

-- ---- each begins with a capital letter

begins_capital : List ℕ → Bool
begins_capital [] = false
begins_capital (c ∷ cs) = is_capital c

are_capital : List (List ℕ) → Bool
are_capital [] = true
are_capital (w ∷ ws) = (are_ascii w && begins_capital w) && are_capital ws

capital_told : (t q : Text) → IsTrue (begins_capital t) → BeginsWith is_capital (t ++ q)
unfolding begins_capital
capital_told [] q h = absurd (let f : false ≡ true = h in cc)
capital_told (c ∷ t) q h = h

one_capital : (w t q : Text) → IsTrue (are_ascii w && begins_capital w) → true ≡ text_eq (chars w) t
    → BeginsWith is_capital (t ++ q)
one_capital w t q h e =
    let (ascii, capital) = and_parts (are_ascii w) (begins_capital w) h in
    let is : w ≡ t = sym (chars-IsAscii w (ascii_told w ascii)) ∙ same_text (chars w) t e in
    capital_told t q (subst (λ (x : List ℕ). IsTrue (begins_capital x)) is capital)

among_capital : (t q : Text) (ws : List (List ℕ)) → IsTrue (are_capital ws) → is_among t (map chars ws) ≡ true
    → BeginsWith is_capital (t ++ q)
unfolding are_capital
among_capital t q [] h e = absurd (let f : false ≡ true = e in cc)
among_capital t q (w ∷ ws) h e =
    let (fits, more) = and_parts (are_ascii w && begins_capital w) (are_capital ws) h in
    either_told (text_eq (chars w) t) (is_among t (map chars ws)) e (λ is. one_capital w t q fits (sym is))
    (λ later. among_capital t q ws more later)

names_capital : IsTrue (are_capital zone_words)
unfolding are_capital begins_capital
names_capital = refl

-- a text that begins with the name of a zone begins with a capital letter
pub zone_capital : (t q : Text) → IsZoneName t → BeginsWith is_capital (t ++ q)
zone_capital t q is = among_capital t q zone_words names_capital is

days_capital : IsTrue (are_capital day_words)
unfolding are_capital begins_capital
days_capital = refl

-- and one with the name of a day
pub day_capital : (t q : Text) → IsDay t → BeginsWith is_capital (t ++ q)
day_capital t q is = among_capital t q day_words days_capital is

-- ---- a zone begins with a sign or with such a letter

sign_zone : (p q : Text) (behind : Bool) → sign.Is p q behind → BeginsWith begins_zone (p ++ q)
sign_zone p q true h = rw h refl
sign_zone p q false h = rw h refl

capital_zone : (t : Text) → BeginsWith is_capital t → BeginsWith begins_zone t
capital_zone [] h = elim h [ ]
capital_zone (c ∷ more) h = grind (arith, nat_tests, h)

pub no_zone_begun : {t : Text} → (BeginsWith begins_zone t → ⊥) → NoFront zone_mark t
no_zone_begun {t} n = no_mapped (numeric_offset otherwise zone_name) (Option ℤ) offset_of
    (no_otherwise (no_offset (inl (λ p q v e h. n (subst (λ (x : Text). BeginsWith begins_zone x) (sym e)
    (sign_zone p q v h))))) (λ p q v e ((u, h, is), k). n (subst (λ (x : Text). BeginsWith begins_zone x) (sym e)
    (capital_zone (p ++ q) (subst (λ (x : Text). BeginsWith is_capital (x ++ q)) is (zone_capital v q k))))))
