-- The forms of a list: the first one of them that divides a text.
use Rattle.std.proofs.Common.{◌≡◌, inl, inr, refl, subst, sym}
use Rattle.std.specs.Prelude.{List, [], ◌∷◌, ◌++◌, Option, Some, None}
use Rattle.syslog_text.specs.Pieces.Class.{Text, NoDivision}
use Rattle.syslog_sent.specs.Forms.{Finds, IsOfFirst, IsOfNone, IsOnlyOf}
use Rattle.syslog_sent.specs.Sent.{Form, IsOnlySent, SentValue, sent_value}
use Rattle.syslog_sent.specs.declared.dialect.Dialect.{Dialect}
use Rattle.syslog_sent.specs.declared.sent.Sent.{Sent}

here_only : (F : Form) (Fs : List Form) (text : Text) (sent : SentValue) → IsOnlySent F text sent → (other : Dialect)
    (says : SentValue) → IsOfFirst (F ∷ Fs) text other says → (other ≡ F.dialect) × (says ≡ sent)
here_only F Fs text sent is other says (inl (e, s)) = (e, is.only says s)
here_only F Fs text sent is other says (inr (none, later)) =
    absurd (none is.says.values is.says.division)

-- the first form
pub here : (F : Form) (Fs : List Form) (text : Text) (sent : SentValue) → IsOnlySent F text sent
    → IsOnlyOf (F ∷ Fs) text F.dialect sent
here F Fs text sent is = record { first = inl (refl, is.says); only = here_only F Fs text sent is }

later_only : (F : Form) (Fs : List Form) (text : Text) (dialect : Dialect) (sent : SentValue) → NoDivision F.row text
    → IsOnlyOf Fs text dialect sent → (other : Dialect) (says : SentValue) → IsOfFirst (F ∷ Fs) text other says
    → (other ≡ dialect) × (says ≡ sent)
later_only F Fs text dialect sent none is other says (inl (e, s)) = absurd (none s.values s.division)
later_only F Fs text dialect sent none is other says (inr (n, rest)) = is.only other says rest

-- a later one
pub later : (F : Form) (Fs : List Form) (text : Text) (dialect : Dialect) (sent : SentValue) → NoDivision F.row text
    → IsOnlyOf Fs text dialect sent → IsOnlyOf (F ∷ Fs) text dialect sent
later F Fs text dialect sent none is =
    record { first = inr (none, is.first); only = later_only F Fs text dialect sent none is }

-- ---- two lists

pub none_joined : (Fs Gs : List Form) (text : Text) → IsOfNone Fs text → IsOfNone Gs text → IsOfNone (Fs ++ Gs) text
none_joined [] Gs text none more = more
none_joined (F ∷ Fs) Gs text none more = (none.0, none_joined Fs Gs text none.1 more)

-- one of the second list, where the text is of none of the first
pub in_second : (Fs Gs : List Form) (text : Text) (dialect : Dialect) (sent : SentValue) → IsOfNone Fs text
    → IsOnlyOf Gs text dialect sent → IsOnlyOf (Fs ++ Gs) text dialect sent
in_second [] Gs text dialect sent none is = is
in_second (F ∷ Fs) Gs text dialect sent none is =
    later F (Fs ++ Gs) text dialect sent none.0 (in_second Fs Gs text dialect sent none.1 is)

-- one of the first list
pub in_first : (Fs Gs : List Form) (text : Text) (dialect : Dialect) (sent : SentValue)
    → IsOnlyOf Fs text dialect sent → IsOnlyOf (Fs ++ Gs) text dialect sent
in_first [] Gs text dialect sent is = absurd is.first
in_first (F ∷ Fs) Gs text dialect sent is = elim is.first as (λ _. IsOnlyOf (F ∷ (Fs ++ Gs)) text dialect sent) [
  | inl (e, s) ↦ subst (λ d. IsOnlyOf (F ∷ (Fs ++ Gs)) text d sent) (sym e)
      (here F (Fs ++ Gs) text sent (record {
        says = s;
        only = λ says
            other. (is.only F.dialect says (inl (refl, other))).1;
      }))
  | inr (none, rest) ↦ later F (Fs ++ Gs) text dialect sent none (in_first Fs Gs text dialect sent
      (record { first = rest; only = λ other says more. is.only other says (inr (none, more)) }))
]

-- a text of no form of the list is not of a first one
pub none_first : (Fs : List Form) (text : Text) (dialect : Dialect) (sent : SentValue) → IsOfNone Fs text
    → IsOfFirst Fs text dialect sent → ⊥
none_first [] text dialect sent none first = absurd first
none_first (F ∷ Fs) text dialect sent none (inl (e, s)) = none.0 s.values s.division
none_first (F ∷ Fs) text dialect sent none (inr (n, rest)) = none_first Fs text dialect sent none.1 rest

-- ---- what the readers of two lists return
pub found_early : (Fs Gs : List Form) (text : Text) (x : Dialect × Sent) → Finds Fs text (Some x)
    → Finds (Fs ++ Gs) text (Some x)
found_early Fs Gs text x is = in_first Fs Gs text x.0 (sent_value x.1) is

pub found_late : (Fs Gs : List Form) (text : Text) (r : Option (Dialect × Sent)) → IsOfNone Fs text → Finds Gs text r
    → Finds (Fs ++ Gs) text r
found_late Fs Gs text None none more = none_joined Fs Gs text none more
found_late Fs Gs text (Some x) none is = in_second Fs Gs text x.0 (sent_value x.1) none is
