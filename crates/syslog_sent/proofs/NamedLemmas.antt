-- A text has one front of each class of names, and what their readers return.
use Rattle.std.proofs.Common.{◌≡◌, inl, inr, ℕ, ◌<◌, Bool, true, List, [], ◌∷◌, ◌++◌, length, Option, None, MatchOption}
use Rattle.std.proofs.Common.{refl, sym, ap, subst, ◌∙◌, append-nil, arith}
use Rattle.std.proofs.Common.{Some, false, not}
use Rattle.std.proofs.lemmas.Bool.{and_parts, cases_Bool, ltb-true, not-false}
use Rattle.std.proofs.lemmas.Str.Ascii.{IsAscii-cons, IsAscii-nil}
use Rattle.std.proofs.lemmas.Str.{chars_from_encodes, encodes-IsAscii, encodes-chars}
use Rattle.std.specs.Cmp.Lexicographic.{same_text}
use Rattle.std.specs.Bool.{then_some}
use Rattle.std.specs.Borrow.{Bor}
use Rattle.std.specs.Prelude.{IsTrue, nat_lt}
use Rattle.std.specs.Str.{IsAscii, IsUtf8, encode_utf8_all, NoCharPasses, NonePass}
use Rattle.std.specs.Str.Pattern.{FindsTextPrefix, StripsPrefix}
use Rattle.syslog_text.specs.Pieces.Class.{Each}
use Rattle.syslog_text.specs.Pieces.View.{Reads, Recognises, Skips, shown, text_eq}
use Rattle.std.specs.Str.{chars}
use Rattle.syslog_text.specs.Bodies.Scan.{SplitsRun}
use Rattle.syslog_text.specs.Pieces.Class.{Text, Class, Values, Front, NoFront, IsDeterministic, Row, some_run}
use Rattle.syslog_text.specs.Pieces.Class.{exactly}
use Rattle.syslog_text.specs.Pieces.Class.{mapped, texted}
use Rattle.syslog_text.specs.Pieces.Rules.{such_that}
use Rattle.syslog_text.proofs.PieceLemmas.Class.{AllDeterministic}
use Rattle.syslog_text.proofs.PieceLemmas.Class.{front_of, no_front_no}
use Rattle.syslog_text.proofs.PieceLemmas.Class.{Fails}
use Rattle.syslog_text.proofs.PieceLemmas.Class.{no_row, no_mapped}
use Rattle.syslog_text.proofs.TextLemmas.Runs.{ascii_ahead, ascii_front, chars_nonempty, run_is}
use Rattle.syslog_sent.specs.Named.{◌otherwise◌, beginning, hosted, BeginsWith, name}
use Rattle.syslog_sent.specs.Named.{id_row}
use Rattle.syslog_sent.specs.Named.{program_row, program}
use Rattle.syslog_sent.specs.Runs.{are_ascii}
use Rattle.syslog_sent.specs.Selector.{selector_row}
use Rattle.syslog_sent.proofs.Determined.{determined}

-- ---- words of the theory

pub first_front : {C D : Class} {t q : Text} {v : C.Value} → Front C t q v → Front (C otherwise D) t q (inl v)
first_front f = front_of f.piece f.whole f.is

pub second_front : {C D : Class} {t q : Text} {w : D.Value} → NoFront C t → Front D t q w
    → Front (C otherwise D) t q (inr w)
second_front {C} n f = front_of f.piece f.whole (subst (λ (x : Text). NoFront C x) f.whole n, f.is)

pub no_otherwise : {C D : Class} {t : Text} → NoFront C t → NoFront D t → NoFront (C otherwise D) t
no_otherwise n m p q (inl v) e h = n p q v e h
no_otherwise n m p q (inr w) e h = m p q w e h.1

-- a text that does not begin with the first character of a longer one does not begin with that
pub no_longer : (c : ℕ) (w : Text) {t : Text} → NoFront (exactly (c ∷ [])) t → NoFront (exactly (c ∷ w)) t
no_longer c w n p q v e h = n (c ∷ []) (w ++ q) tt (e ∙ ap (λ (x : Text). x ++ q) h) refl

pub beginning_front : {C : Class} {t r : Text} {v : C.Value} → Front C t r v → Front (beginning C) t [] t
beginning_front {t = t} {r = r} {v = v} f = front_of t (sym (append-nil t)) (refl, refl, (r, v, f))

pub no_beginning : {C : Class} {t : Text} → NoFront C t → NoFront (beginning C) t
no_beginning {C} {t = t} n p q u e (z, s, (r, v, f)) =
    let same : t ≡ p = e ∙ ap (λ (x : Text). p ++ x) z ∙ append-nil p in
    no_front_no C (subst (λ (x : Text). NoFront C x) same n) f

-- ---- runs that have a property

module _ (test : ℕ → Bool) (P : Text → Type 0) {bs xs ys : List ℕ} (s : SplitsRun test bs xs ys) where
  pub such_run : 0 < length (chars xs) → P (chars xs)
      → Front (such_that (texted (some_run test)) P) (chars bs) (chars ys) (chars xs)
  such_run some h = front_of (chars xs) s.characters ((tt, (some, s.each, s.ends), refl), h)

  pub no_such_run : (P (chars xs) → ⊥) → NoFront (such_that (texted (some_run test)) P) (chars bs)
  no_such_run n p q v e ((u, h, f), k) =
      n (subst P (f ∙ run_is test bs xs ys s p q e h.1 h.2) k)

-- a run that is not empty, as its text
pub run_text : (test : ℕ → Bool) {bs xs ys : List ℕ} → SplitsRun test bs xs ys → 0 < length xs
    → Front (texted (some_run test)) (chars bs) (chars ys) (chars xs)
run_text test {xs = xs} s l =
    front_of (chars xs) s.characters (tt, (chars_nonempty xs s.front_utf8 l, s.each, s.ends), refl)

-- a run whose text passes a test that the empty text fails
module _ (test : ℕ → Bool) (f : Text → Bool) (empty : f [] ≡ false) where
  some_from : (t : Text) → IsTrue (f t) → 0 < length t
  some_from [] h = absurd (let e : false ≡ true = sym empty ∙ h in cc)
  some_from (c ∷ t) h = omega arith

  pub told : {bs : List ℕ} (xs ys : Bor (List ℕ)) (b : Bool) (r : Option (Bor (List ℕ)))
      → SplitsRun test bs xs.now ys.now
      → b ≡ f (chars xs.now) → r ≡ then_some b ys
      → Recognises (such_that (texted (some_run test)) (λ t. IsTrue (f t))) (chars bs) r
  told xs ys true r s e h =
      rw h (chars xs.now, such_run test (λ t. IsTrue (f t)) s (some_from (chars xs.now) (sym e)) (sym e))
  told xs ys false r s e h =
      rw h (no_such_run test (λ t. IsTrue (f t)) s (λ k. let u : true ≡ false = sym k ∙ sym e in cc))

  pub told_both : {bs : List ℕ} (xs ys : Bor (List ℕ)) (b : Bool) (r : Option (Bor (List ℕ) × Bor (List ℕ)))
      → SplitsRun test bs xs.now ys.now → b ≡ f (chars xs.now) → r ≡ then_some b (xs, ys)
      → Reads (such_that (texted (some_run test)) (λ t. IsTrue (f t))) (λ (t : Bor (List ℕ)). shown t) (chars bs) r
  told_both xs ys true r s e h =
      rw h (such_run test (λ t. IsTrue (f t)) s (some_from (chars xs.now) (sym e)) (sym e))
  told_both xs ys false r s e h =
      rw h (no_such_run test (λ t. IsTrue (f t)) s (λ k. let u : true ≡ false = sym k ∙ sym e in cc))

-- ---- what `strip_prefix` gives

pub ascii_told : (t : List ℕ) → IsTrue (are_ascii t) → IsAscii t
ascii_told [] h = IsAscii-nil
ascii_told (c ∷ t) h =
    let (first, more) = and_parts (nat_lt c 128) (are_ascii t) h in
    IsAscii-cons c t (ltb-true c 128 first) (ascii_told t more)

-- a text of other bytes is no such word
pub other_word : (bs w : List ℕ) → IsUtf8 bs → IsAscii w → (bs ≡ w → ⊥) → false ≡ text_eq (chars bs) w
other_word bs w u a n = elim (cases_Bool (text_eq (chars bs) w)) [
  | inl same ↦ absurd (n (sym (encodes-chars bs u)
      ∙ ap encode_utf8_all (same_text (chars bs) w (sym same)) ∙ encodes-IsAscii w a))
  | inr other ↦ sym other
]

pub prefix_told : (words bytes : List ℕ) → IsAscii words → IsUtf8 bytes → (r : Option (Bor (List ℕ)))
    → MatchOption r (FindsTextPrefix words bytes None) (λ x. StripsPrefix (FindsTextPrefix words) bytes x.now)
    → Skips (exactly words) tt (chars bytes) r
prefix_told words bytes w u None n = λ p q v e h.
    n (encode_utf8_all q) (ascii_ahead words q bytes u w (e ∙ ap (λ (x : Text). x ++ q) h))
prefix_told words bytes w u (Some x) (k, (long, whole, cut), is, fits) = front_of words
    (ascii_front words x.now bytes w (whole ∙ ap (λ (y : List ℕ). words ++ y) (sym is))) refl

-- ---- what `find` gives

each_from_none : (test : ℕ → Bool) (cs : List ℕ) → NonePass (λ c. not (test c)) cs → Each test cs
each_from_none test [] n = tt
each_from_none test (c ∷ cs) n = (not-false (test c) n.0, each_from_none test cs n.1)

pub each_of_text : (test : ℕ → Bool) (bs : List ℕ) → IsUtf8 bs → NoCharPasses (λ c. not (test c)) bs
    → Each test (chars bs)
each_of_text test bs u (cs, e, n) = rw (← chars_from_encodes cs bs u e) (each_from_none test cs n)

-- ---- rows with a meaning

-- where a piece is missing, nothing is read
pub unread : (Cs : List Class) → AllDeterministic Cs → (B : Type 0) (f : Values Cs → B) {t : Text} → Fails Cs t
    → NoFront (mapped (Row Cs) B f) t
unread Cs d B f h = no_mapped (Row Cs) B f (no_row Cs d h)

-- ---- one front of each

pub id_row_det : AllDeterministic id_row
id_row_det = search determined depth 60

pub name_det : IsDeterministic name
name_det = search determined depth 60

pub program_row_det : AllDeterministic program_row
program_row_det = search (name_det, determined) depth 60

pub program_det : IsDeterministic program
program_det = search (program_row_det, determined) depth 60

pub selector_det : AllDeterministic selector_row
selector_det = search determined depth 60

-- a text that begins with a character is not empty
pub begins_some : (test : ℕ → Bool) (t : Text) → BeginsWith test t → 0 < length t
begins_some test [] h = absurd h
begins_some test (c ∷ t) h = omega arith

-- ---- after a host

pub hosted_det : (C : Class) → IsDeterministic C → IsDeterministic (hosted C)
hosted_det C d = search determined depth 60
