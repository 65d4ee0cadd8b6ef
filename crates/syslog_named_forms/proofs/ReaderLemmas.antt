-- What readers return that go on where others left the text.
use Rattle.syslog_named_forms.proofs.Names.{[], ◌++◌, ◌also◌, ◌otherwise◌, ◌∙◌, ◌∷◌, ◌≡◌, AllDeterministic, beginning}
use Rattle.syslog_named_forms.proofs.Names.{beginning_front, both_values, Class, first_front, Front}
use Rattle.syslog_named_forms.proofs.Names.{front_of, of_forms, inl, inr, List, mapped, mapped_front, match_map}
use Rattle.syslog_named_forms.proofs.Names.{Named, named_value, NamedTexts, Names, no_beginning, no_mapped}
use Rattle.syslog_named_forms.proofs.Names.{no_otherwise, None, Option, process_tail, program_tail, refl}
use Rattle.syslog_named_forms.proofs.Names.{Row, row_cons, row_nil, row_none_here, row_reads, rows_join}
use Rattle.syslog_named_forms.proofs.Names.{rows_none_here, rows_none_later, second_front, shown, Some, subst}
use Rattle.syslog_named_forms.proofs.Names.{sym, Text, untagged, Values, ℕ}
use Rattle.std.proofs.Common.{Bor, MatchOption}
use Rattle.syslog_text.specs.Pieces.View.{Reads, Recognises}
use Rattle.syslog_text.proofs.PieceLemmas.Rules.{Chained, last_of}
use Rattle.syslog_named_forms.specs.Hosts.{IsUntagged, Tells}

-- ---- how forms end

pub program_tail_det : AllDeterministic program_tail
program_tail_det = search of_forms depth 32

pub process_tail_det : AllDeterministic process_tail
process_tail_det = search of_forms depth 32

-- ---- a row, of which the first pieces are read

-- the first pieces of a row
pub firsts_det : (As Bs : List Class) → AllDeterministic (As ++ Bs) → AllDeterministic As
firsts_det [] Bs d = tt
firsts_det (C ∷ As) Bs d = (d.0, firsts_det As Bs d.1)

module _ (As Bs : List Class) (det : AllDeterministic As) (of : Values (As ++ Bs) → NamedTexts)
    (later : Values Bs → NamedTexts) where
  -- a row of which the first pieces are known
  pub goes_on : {t u : Text} {vs : Values As} → Front (Row As) t u vs
      → ((ws : Values Bs) → of (both_values As Bs vs ws) ≡ later ws) → (r : Option Named)
      → Names (mapped (Row Bs) NamedTexts later) named_value u r
      → Names (mapped (Row (As ++ Bs)) NamedTexts of) named_value t r
  goes_on f same None n = no_mapped (Row (As ++ Bs)) NamedTexts of
      (rows_none_later As Bs det f (λ p q ws e h. n p q (later ws) e (ws, h, refl)))
  goes_on {vs = vs} f same (Some x) g =
      let (ws, h, e) = g.is in
      let j = rows_join As Bs f (front_of g.piece g.whole h) in
      front_of j.piece j.whole (both_values As Bs vs ws, j.is, e ∙ sym (same ws))

  recognised : ((vs : Values As) (ws : Values Bs) → of (both_values As Bs vs ws) ≡ later ws) → (t : Text)
      → (m : Option (Bor (List ℕ))) (r : Option Named) → Recognises (Row As) t m
      → MatchOption m (r ≡ None) (λ x. Tells Bs later x r)
      → Names (mapped (Row (As ++ Bs)) NamedTexts of) named_value t r
  recognised same t None r n e =
      subst (λ (x : Option Named). Names (mapped (Row (As ++ Bs)) NamedTexts of) named_value t x) (sym e)
      (no_mapped (Row (As ++ Bs)) NamedTexts of (rows_none_here As Bs n))
  recognised same t (Some x) r (vs, f) h = goes_on f (same vs) r h

-- a row whose first pieces are passed over, one after the other
pub passed : (As Bs : List Class) → AllDeterministic (As ++ Bs) → (of : Values (As ++ Bs) → NamedTexts)
    (later : Values Bs → NamedTexts) → ((vs : Values As) (ws : Values Bs) → of (both_values As Bs vs ws) ≡ later ws)
    → (text : Bor (List ℕ)) (ms : List (Option (Bor (List ℕ)))) (r : Option Named) → Chained As (Some text) ms
    → MatchOption (last_of (Some text) ms) (r ≡ None) (λ x. Tells Bs later x r) → Tells (As ++ Bs) of text r
passed As Bs det of later same text ms r chain h = let first = firsts_det As Bs det in
    recognised As Bs first of later same (shown text) (last_of (Some text) ms) r (row_reads As first text ms chain) h

-- a row whose first piece is known
pub known : (C : Class) (Cs : List Class) (of : Values (C ∷ Cs) → NamedTexts) → AllDeterministic (C ∷ Cs) → {t u : Text}
    {v : C.Value} → Front C t u v → (r : Option Named)
    → Names (mapped (Row Cs) NamedTexts (λ ws. of (v, ws))) named_value u r
    → Names (mapped (Row (C ∷ Cs)) NamedTexts of) named_value t r
known C Cs of det {u = u} {v = v} f r h = goes_on (C ∷ []) Cs (det.0 also tt) of (λ ws. of (v, ws))
    (row_cons C [] f (row_nil u)) (λ ws. refl) r h

-- a row whose first piece is read
pub read : (C : Class) (Cs : List Class) (of : Values (C ∷ Cs) → NamedTexts) → AllDeterministic (C ∷ Cs) → {X : Type 0}
    (view : X → C.Value) (t : Text) (m : Option (X × Bor (List ℕ))) (r : Option Named) → Reads C view t m
    → MatchOption m (r ≡ None) (λ x. Tells Cs (λ ws. of (view x.0, ws)) x.1 r)
    → Names (mapped (Row (C ∷ Cs)) NamedTexts of) named_value t r
read C Cs of det view t None r n e =
    subst (λ (x : Option Named). Names (mapped (Row (C ∷ Cs)) NamedTexts of) named_value t x) (sym e)
    (no_mapped (Row (C ∷ Cs)) NamedTexts of (row_none_here C Cs n))
read C Cs of det view t (Some x) r f h = known C Cs of det f r h

-- ---- a message that something begins

pub begun : (C : Class) (h : Option Text) (t : Text) (m : Option (Bor (List ℕ))) (r : Option Named) → Recognises C t m
    → MatchOption m (r ≡ None) (λ _. IsUntagged h t r)
    → Names (mapped (beginning C) NamedTexts (untagged h)) named_value t r
begun C h t None r n e = rw e (no_mapped (beginning C) NamedTexts (untagged h) (no_beginning n))
begun C h t (Some x) None f e = absurd e
begun C h t (Some x) (Some n) (v, f) e = rw e (mapped_front (beginning C) NamedTexts (untagged h) (beginning_front f))

-- a row of one piece
pub alone : (C : Class) (of : C.Value → NamedTexts) (t : Text) (r : Option Named)
    → Names (mapped C NamedTexts of) named_value t r
    → Names (mapped (Row (C ∷ [])) NamedTexts (λ vs. of vs.0)) named_value t r
alone C of t None n = no_mapped (Row (C ∷ [])) NamedTexts (λ vs. of vs.0)
    (row_none_here C [] (λ p q v e h. n p q (of v) e (v, h, refl)))
alone C of t (Some x) g =
    let (v, h, e) = g.is in
    let j = row_cons C [] (front_of g.piece g.whole h) (row_nil []) in
    front_of j.piece j.whole ((v, tt), j.is, e)

-- ---- pieces of one of two classes

-- what the readers of both return, the second of them where the first finds nothing
pub either_reads : (C D : Class) (t : Text) (m : Option (Bor (List ℕ))) → (r : Option (Bor (List ℕ))) × Recognises C t r
    × MatchOption r (Recognises D t m) (λ x. m ≡ Some x) → Recognises (C otherwise D) t m
either_reads C D t m (None, n, h) = match_map m (no_otherwise n) (λ x (w, f). (inr w, second_front n f)) h
either_reads C D t m (Some x, (v, f), e) = rw e (inl v, first_front f)
