-- Headers nearly of RFC 5424: one front of each class.
use Rattle.syslog_named_forms.proofs.Names.{[], ◌++◌, ◌also◌, ◌∷◌, ◌≡◌, all_joined, AllDeterministic, any_date_det}
use Rattle.syslog_named_forms.proofs.Names.{both_values, Class, Dialect, of_forms, exactly_det, Fails}
use Rattle.syslog_named_forms.proofs.Names.{Front, head_row, heroku_last, host_det, ids_row, inl, inr, is_blank}
use Rattle.syslog_named_forms.proofs.Names.{IsDeterministic, IsOnlySent, List, nil_last, no_row, no_row_division}
use Rattle.syslog_named_forms.proofs.Names.{NoDivision, NoFront, number_det, program_det, rest_det, Row, rows_join}
use Rattle.syslog_named_forms.proofs.Names.{rows_none_here, rows_none_later, run_det, says_once, SentValue, some_run}
use Rattle.syslog_named_forms.proofs.Names.{some_run_det, source_row, tag_more, Text, Values, word, word_det}
use Rattle.syslog_named_forms.specs.NearHeader.{nil}

pub head_det : AllDeterministic head_row
head_det = number_det 999 also some_run_det is_blank also any_date_det also some_run_det is_blank also host_det
    also some_run_det is_blank also tt

nil_class_det : IsDeterministic nil
nil_class_det = search of_forms depth 32

pub source_det : AllDeterministic source_row
source_det = let gap = some_run_det is_blank in word_det also gap also word_det also gap also tt

pub ids_det : AllDeterministic ids_row
ids_det = all_joined source_row (word ∷ some_run is_blank ∷ []) source_det (word_det also some_run_det is_blank also tt)

pub nil_last_det : AllDeterministic nil_last
nil_last_det = nil_class_det also run_det is_blank also rest_det also tt

pub heroku_last_det : AllDeterministic heroku_last
heroku_last_det = exactly_det _ also some_run_det is_blank also rest_det also tt

pub tag_more_det : AllDeterministic tag_more
tag_more_det = program_det also run_det is_blank also rest_det also tt

-- ---- what follows the front of the header

-- the line is not of the form
pub unsaid : (more : List Class) {text rest : Text} {vs : Values head_row} → Front (Row head_row) text rest vs
    → NoFront (Row more) rest → NoDivision (head_row ++ more) text
unsaid more f n = no_row_division (head_row ++ more) (rows_none_later head_row more head_det f n)

-- or it says this
pub said_of : (dialect : Dialect) (more : List Class) (says : Values (head_row ++ more) → SentValue)
    → AllDeterministic more → {text rest : Text} {vs : Values head_row} {ws : Values more} {s : SentValue}
    → Front (Row head_row) text rest vs → Front (Row more) rest [] ws → s ≡ says (both_values head_row more vs ws)
    → IsOnlySent (record { dialect = dialect; row = head_row ++ more; Means = λ vs s. s ≡ says vs }) text s
said_of dialect more says d f g e =
    says_once dialect (head_row ++ more) says (all_joined head_row more head_det d) (rows_join head_row more f g) e

-- names, and what may follow them
module _ (Bs Cs : List Class) (b : AllDeterministic Bs) (c : AllDeterministic Cs) {text rest : Text}
    {vs : Values head_row} (f : Front (Row head_row) text rest vs) where
  pub unnamed : Fails (Row Bs ∷ Cs) rest → NoDivision (head_row ++ (Bs ++ Cs)) text
  unnamed (inl n) = unsaid (Bs ++ Cs) f (rows_none_here Bs Cs n)
  unnamed (inr (u, v, g, h)) = unsaid (Bs ++ Cs) f (rows_none_later Bs Cs b g (no_row Cs c h))

  pub named : (dialect : Dialect) (says : Values (head_row ++ (Bs ++ Cs)) → SentValue) {u : Text} {bs : Values Bs}
      {cs : Values Cs} {s : SentValue} → Front (Row Bs) rest u bs → Front (Row Cs) u [] cs
      → s ≡ says (both_values head_row (Bs ++ Cs) vs (both_values Bs Cs bs cs))
      → IsOnlySent (record { dialect = dialect; row = head_row ++ (Bs ++ Cs); Means = λ vs s. s ≡ says vs }) text s
  named dialect says g p e =
      said_of dialect (Bs ++ Cs) says (all_joined Bs Cs b c) f (rows_join Bs Cs g p) e
