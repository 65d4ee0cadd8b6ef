-- A priority alone: one front of each class, and what its reader returns.
use Rattle.syslog_dialects.proofs.Names.{◌past◌, ◌then◌, ◌∙◌, ◌≡◌, AllDeterministic, alone_form, alone_row, ap, Bool}
use Rattle.syslog_dialects.proofs.Names.{chars, false, Front, front_division, inl, is_blank, IsUtf8, length, List}
use Rattle.syslog_dialects.proofs.Names.{loose, MatchBool, month_date, nat_eq, no_row, no_row_division, NoFront, None}
use Rattle.syslog_dialects.proofs.Names.{not, point_row, program_row, refl, rest, rest_det, rest_front, Row, row_of}
use Rattle.syslog_dialects.proofs.Names.{run, SentValue, sym, Text, true, unique_division, Values, version_row, ℕ}
use Rattle.syslog_text.specs.Pieces.Class.{Division, NoDivision}
use Rattle.syslog_text.proofs.PieceLemmas.Rules.{no_such_meaning, such_front}
use Rattle.syslog_text.proofs.TextLemmas.Words.{end_told}
use Rattle.syslog_dialects.specs.PriorityAlone.{IsAlone}
use Rattle.syslog_sent.specs.Sent.{IsOnlySent}
use Rattle.syslog_sent.proofs.FormLemmas.{of_forms}

pub version_det : AllDeterministic version_row
version_det = search of_forms depth 9

pub program_alone_det : AllDeterministic program_row
program_alone_det = search of_forms depth 24

pub point_alone_det : AllDeterministic point_row
point_alone_det = search of_forms depth 24

pub alone_det : AllDeterministic alone_row
alone_det = search of_forms depth 9

pub alone_told : (bs : List ℕ) (b : Bool) → IsUtf8 bs → b ≡ nat_eq (length bs) 0 → NoFront month_date (chars bs)
    → NoFront (Row version_row) (chars bs) → MatchBool (not b) (IsAlone (chars bs)) (IsAlone (chars bs) → ⊥)
alone_told bs true u e n m = λ a. a.some ((end_told bs true u e).0 refl)
alone_told bs false u e n m = record {
  some = λ z. (let t : false ≡ true = (end_told bs false u e).1 z in cc);
  undated = n;
  unversioned = m;
}

module _ {text msg : Text} (gap : Front (run is_blank) text msg tt) where
  pub alone_none : (IsAlone msg → ⊥) → NoDivision alone_row text
  alone_none n = no_row_division alone_row (no_row alone_row alone_det
      (gap past inl (no_such_meaning rest IsAlone rest_det (rest_front msg) n)))

  pub alone_said : {s : SentValue} → IsAlone msg → s ≡ loose None None None None msg → IsOnlySent alone_form text s
  alone_said {s} h e =
      let d : Division alone_row text (tt, (msg, tt)) = front_division alone_row
      (row_of alone_row (gap then such_front rest IsAlone (rest_front msg) h then refl)) in
      record {
        says = record { values = (tt, (msg, tt)); division = d; means = e };
        only = λ other k. (let same = (unique_division alone_row alone_det k.division d).1 in
            k.means ∙ ap (λ (vs : Values alone_row). loose None None None None vs.1.0) same ∙ sym e);
      }
