-- What readers made of other readers return.
use Rattle.syslog_dated_forms.proofs.Names.{◌≡◌, ◌⊎◌, bare_word, bare_word_det, Bor, Class, Front, inl, inr, List}
use Rattle.syslog_dated_forms.proofs.Names.{match_map, MatchOption, no_such_front, no_such_meaning, NoFront, None}
use Rattle.syslog_dated_forms.proofs.Names.{Option, optional, optional_none, optional_some, Recognises, shown, Some}
use Rattle.syslog_dated_forms.proofs.Names.{such_front, such_that, Text}
use Rattle.std.specs.Prelude.{ℕ}
use Rattle.syslog_text.specs.Pieces.View.{Reads}

-- no word is there, or one that fails it
abbrev Fails : (Text → Type 0) → Text → Type 0
Fails P t = NoFront bare_word t ⊎ ((w : Bor (List ℕ)) × (q : Text) × Front bare_word t q (shown w) × (P (shown w) → ⊥))

no_word : (P : Text → Type 0) (t : Text) → Fails P t → NoFront (such_that bare_word P) t
no_word P t (inl n) = no_such_front bare_word P n
no_word P t (inr (w, q, f, n)) = no_such_meaning bare_word P bare_word_det f n

pub such_word : (P : Text → Type 0) (t : Text) (r : Option (Bor (List ℕ) × Bor (List ℕ)))
    → MatchOption r (Fails P t) (λ x. Front bare_word t (shown x.1) (shown x.0) × P (shown x.0))
    → Reads (such_that bare_word P) (λ (w : Bor (List ℕ)). shown w) t r
such_word P t r = match_map r (no_word P t) (λ x (f, h). such_front bare_word P f h)

pub past_such : (P : Text → Type 0) (t : Text) (r : Option (Bor (List ℕ)))
    → MatchOption r (Fails P t) (λ x. (w : Bor (List ℕ)) × Front bare_word t (shown x) (shown w) × P (shown w))
    → Recognises (such_that bare_word P) t r
past_such P t r = match_map r (no_word P t) (λ x (w, f, h). (shown w, such_front bare_word P f h))

-- a piece that may be absent
pub skipped : (C : Class) (t q : Bor (List ℕ)) → (m : Option (Bor (List ℕ))) × Recognises C (shown t) m
    × MatchOption m (q ≡ t) (λ rest. q ≡ rest) → (v : Option C.Value) × Front (optional C) (shown t) (shown q) v
skipped C t q (None, n, e) = (None, rw e (optional_none C n))
skipped C t q (Some rest, (v, f), e) = (Some v, rw e (optional_some C f))
