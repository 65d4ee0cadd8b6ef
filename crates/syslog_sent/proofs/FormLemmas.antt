-- What the readers of forms return.
use Rattle.std.proofs.Common.{◌≡◌, List, [], ◌∷◌, Option, None, Some, sym, ap, ◌∙◌}
use Rattle.syslog_text.specs.Pieces.Class.{Text, Class, Values, Front, Row, NoDivision}
use Rattle.syslog_text.proofs.PieceLemmas.Class.{AllDeterministic, front_division, match_map, unique_division}
use Rattle.syslog_sent.specs.Forms.{Finds}
use Rattle.syslog_sent.specs.Sent.{Form, IsOnlySent, SentValue, sent_value}
use Rattle.syslog_sent.specs.declared.sent.Sent.{Sent}
use Rattle.syslog_sent.proofs.DialectLemmas.{here, later}
use Rattle.syslog_sent.specs.declared.dialect.Dialect.{Dialect}
use Rattle.std.proofs.Common.{◌++◌}
use Rattle.syslog_sent.specs.Forms.{IsOfNone}
use Rattle.syslog_sent.proofs.{DateLemmas.any_date_det, DateLemmas.iso_date_det, Determined.determined}
use Rattle.syslog_sent.proofs.NamedLemmas.{hosted_det, name_det, program_det}

-- that one text has one front of what forms are made of, as `search of_forms depth 60` finds it
pub ruleset of_forms = (any_date_det, iso_date_det, name_det, program_det, hosted_det, determined)

-- a form whose pieces mean one thing each says one thing
pub says_once : (dialect : Dialect) (Cs : List Class) (says : Values Cs → SentValue) → AllDeterministic Cs
    → {t : Text} {vs : Values Cs} {sent : SentValue} → Front (Row Cs) t [] vs → sent ≡ says vs
    → IsOnlySent (record { dialect = dialect; row = Cs; Means = λ vs sent. sent ≡ says vs }) t sent
says_once dialect Cs says d f e =
    let division = front_division Cs f in record {
      says = record { values = _; division = division; means = e };
      only = λ other is. (is.means ∙ ap says (unique_division Cs d is.division division).1 ∙ sym e);
    }

-- ---- lists of forms

-- where the text is not of the first one, the readers of the others find it
pub found_later : (F : Form) (Fs : List Form) (text : Text) (r : Option (Dialect × Sent)) → NoDivision F.row text
    → Finds Fs text r → Finds (F ∷ Fs) text r
found_later F Fs text r none =
    match_map r (λ n. (none, n)) (λ x is. later F Fs text x.0 (sent_value x.1) none is)

-- where none of the first forms divides the text, what is found in the others is found
pub found_after : (Fs Gs : List Form) (text : Text) (r : Option (Dialect × Sent)) → IsOfNone Fs text
    → Finds Gs text r → Finds (Fs ++ Gs) text r
found_after [] Gs text r n h = h
found_after (F ∷ Fs) Gs text r n h = found_later F (Fs ++ Gs) text r n.0 (found_after Fs Gs text r n.1 h)

-- ---- forms that are tried one after the other

-- what is found in a list of them; a record, so that the goal tells which forms these are
pub record Found (Fs : List Form) (text : Text) (r : Option (Dialect × Sent)) : Type 0 where
  pub finds : Finds Fs text r

-- the text is of the first form
pub first : {F : Form} {Fs : List Form} {text : Text} (sent : Sent) → IsOnlySent F text (sent_value sent)
    → Found (F ∷ Fs) text (Some (F.dialect, sent))
first {F} {Fs} {text} sent is = record { finds = here F Fs text (sent_value sent) is }

-- or it is not, and the others are tried
infixr 20 ◌before◌
pub ◌before◌ : {F : Form} {Fs : List Form} {text : Text} {r : Option (Dialect × Sent)} → NoDivision F.row text
    → Found Fs text r → Found (F ∷ Fs) text r
◌before◌ {F} {Fs} {text} {r} none h = record { finds = found_later F Fs text r none h.finds }

pub no_form : {text : Text} → Found [] text None
no_form = record { finds = tt }

-- what the readers of the forms return, then
pub found : (Fs : List Form) {text : Text} {r : Option (Dialect × Sent)} → Found Fs text r → Finds Fs text r
found Fs h = h.finds
