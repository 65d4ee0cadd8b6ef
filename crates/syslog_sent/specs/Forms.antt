-- Lists of forms: a text is of the first one that divides it.
use Rattle.std.specs.Prelude.{◌≡◌, ◌⊎◌, List, [], ◌∷◌, Option, MatchOption}
use Rattle.syslog_text.specs.Pieces.Class.{Text, NoDivision}
use Rattle.syslog_sent.specs.Sent.{Form, IsSent, SentValue, sent_value}
use Rattle.syslog_sent.specs.declared.dialect.Dialect.{Dialect}
use Rattle.syslog_sent.specs.declared.sent.Sent.{Sent}

-- the text is of no form of the list
abbrev pub IsOfNone : List Form → Text → Type 0
IsOfNone [] text = Unit {0}
IsOfNone (F ∷ Fs) text = NoDivision F.row text × IsOfNone Fs text

-- the text is of this dialect, by the first form of the list that divides it, and this is what it says
abbrev pub IsOfFirst : List Form → Text → Dialect → SentValue → Type 0
IsOfFirst [] text dialect sent = ⊥
IsOfFirst (F ∷ Fs) text dialect sent = ((dialect ≡ F.dialect) × IsSent F text sent)
    ⊎ (NoDivision F.row text × IsOfFirst Fs text dialect sent)

-- and it is of no other, and says nothing else
pub record IsOnlyOf (Fs : List Form) (text : Text) (dialect : Dialect) (sent : SentValue) : Type 0 where
  pub first : IsOfFirst Fs text dialect sent
  pub only : (other : Dialect) (says : SentValue) → IsOfFirst Fs text other says → (other ≡ dialect) × (says ≡ sent)

-- what the readers of a list of forms return: the dialect and what the text says; nothing where it is of none
abbrev pub Finds : List Form → Text → Option (Dialect × Sent) → Type 0
Finds Fs text r = MatchOption r (IsOfNone Fs text) (λ x. IsOnlyOf Fs text x.0 (sent_value x.1))
