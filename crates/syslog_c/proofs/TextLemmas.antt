-- What `settle` returns, once it is put into the room; and texts that are put piece by piece.
use Rattle.syslog_c.proofs.Words.{List, append-nil, append_assoc, IsUtf8-string_bytes, chars-nil, ParseFault, TakesText}
use Rattle.syslog_c.proofs.Words.{ℕ, ◌∷◌, ◌++◌, Result, Err, refl, arith, length, subst, Text, Dating, Variant, Outcome}
use Rattle.syslog_c.proofs.Words.{[], Ok, ◌≡◌, ◌≤◌, ◌∙◌, inl, inr, sym, ap}
use Rattle.std.{proofs.Common.MatchResult, proofs.Common.String, specs.Prelude.string_bytes}
use Rattle.std.{specs.Global.Global, specs.Str.chars, specs.Prelude.⊤}
use Rattle.std.{proofs.lemmas.Str.IsUtf8-append, proofs.lemmas.Str.IsUtf8-nil}
use Rattle.std.{proofs.lemmas.Grind.flat_map-append, proofs.lemmas.List.map-append, specs.List.flat_map}
use Rattle.std.proofs.Common.{map}
use Rattle.syslog_pieces.proofs.Names.{chars-append}
use Rattle.syslog_loose.specs.Settling.{Settles}
use Rattle.syslog_loose.specs.declared.fault.ParseFault.TheVariants.{Invalid, Memory}
use Rattle.syslog_c.specs.Room.{HasTaken, IsLeftFor, Puts, Takes, ReportsLength}
use Rattle.syslog_c.{specs.Texts.PutsObject, specs.Texts.Settled, specs.declared.room.Buffer.Buffer}
use Rattle.syslog_c.proofs.Words.{MessageValue, Option}
use Rattle.syslog_sent.specs.declared.dialect.Dialect.{Dialect}

-- what the characters of a literal unfold
unfoldable pub chars_of_literals : ⊤
unfolding chars
chars_of_literals = tt

pub settled_answer : (variant : Variant) (dating : Dating) (text : Text) (old new : List ℕ) (needed : ℕ)
    (outcome : Outcome)
    (answer : Result (String Global) ParseFault) → Settles variant dating text answer
    → MatchResult answer (λ u. Puts (string_bytes u) old new needed outcome)
    (λ fault. IsLeftFor fault old new needed outcome) → Settled variant dating text old new needed outcome
settled_answer variant dating text old new needed outcome (Ok u) s puts =
    inl (string_bytes u, record { utf8 = IsUtf8-string_bytes u; settles = s }, puts)
settled_answer variant dating text old new needed outcome (Err Invalid) s left = inr (rw left.0 s, left.1)
settled_answer variant dating text old new needed outcome (Err Memory) s left = inr (rw left.0 s, left.1)

-- what is said of the line's unparsed text, said of the text that is read
pub puts_more : (dialect : Option Dialect) (m : MessageValue) (A B : Text → Type 0) (raw : Option Text)
    (old new : List ℕ) (needed : ℕ) (outcome : Outcome) → ((u : Text) → A u → B u)
    → PutsObject dialect m A raw old new needed outcome → PutsObject dialect m B raw old new needed outcome
puts_more dialect m A B raw old new needed outcome more (inl (u, left, written)) = inl (u, more u left, written)
puts_more dialect m A B raw old new needed outcome more (inr refused) = inr refused

-- what holds of the room that comes back holds of the caller's
pub with_room : (P : List ℕ → Type 0) (now room : List ℕ) → room ≡ now → P now → P room
with_room P now room e h = rw e h

-- nothing is put yet
pub taken_none : (b : Buffer) → b.needed ≡ 0 → HasTaken b b []
taken_none b e = record { same = refl; needed = e; put = λ fits. refl }

-- pieces that are put one after the other
pub takes_after : (old mid new : Buffer) (a b : List ℕ) → Takes old a mid → Takes mid b new → Takes old (a ++ b) new
takes_after old mid new a b first then_more start taken h =
    subst (λ (bs : List ℕ). HasTaken start new bs) (append_assoc taken a b)
    (then_more start (taken ++ a) (first start taken h))

pub takes_none : (b : Buffer) → Takes b [] b
takes_none b start taken h = subst (λ (bs : List ℕ). HasTaken start b bs) (sym (append-nil taken)) h

-- texts that are put one after the other
pub text_none : (b : Buffer) → TakesText b [] b
text_none b = ([], IsUtf8-nil, chars-nil, takes_none b)

pub text_after : (old mid new : Buffer) (s t : Text) → TakesText old s mid → TakesText mid t new
    → TakesText old (s ++ t) new
text_after old mid new s t (a, valid, e, first) (b, also, f, next) = (
  a ++ b,
  IsUtf8-append a b valid also,
  chars-append a b valid ∙ ap (λ (x : Text). x ++ chars b) e ∙ ap (λ (x : Text). s ++ x) f,
  takes_after old mid new a b first next,
)

pub text_along : (old new : Buffer) (s t : Text) → s ≡ t → TakesText old s new → TakesText old t new
text_along old new s t e h = subst (λ (x : Text). TakesText old x new) e h

-- what was put, once its length is reported
pub told : (first now : Buffer) (bytes old : List ℕ) (needed : ℕ) (outcome : Outcome) → first.room.now ≡ old
    → HasTaken first now bytes → ReportsLength now needed outcome → Puts bytes old now.room.now needed outcome
told first now bytes old needed outcome same h (e, short, inl (done, fits)) =
    let whole : length bytes ≤ length now.room.now = omega (arith, h.needed, fits, short) in
    rw (done, ← same) (omega (arith, e, h.needed, whole, short), whole, h.put whole)
told first now bytes old needed outcome same h (e, short, inr (more, past)) =
    rw more (e ∙ h.needed, omega (arith, h.needed, past))

-- one more of the items whose texts are put one after the other
pub more_text : {X Y : Type 0} (f : Y → Text) (view : X → Y) (head : Text) (xs : List X) (x : X)
    → (head ++ flat_map f (map view xs)) ++ f (view x) ≡ head ++ flat_map f (map view (xs ++ (x ∷ [])))
more_text f view head xs x =
    rw (map-append view xs (x ∷ []), flat_map-append) (simp (append_assoc, append-nil))
