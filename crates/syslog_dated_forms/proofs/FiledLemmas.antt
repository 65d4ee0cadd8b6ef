-- What is found of lines that a collector files: by whether such a line is there, and of which system it is.
use Rattle.syslog_dated_forms.proofs.Names.{[], ◌also◌, ◌before◌, ◌∷◌, ◌≡◌, all_joined, AllDeterministic, any_date_det}
use Rattle.syslog_dated_forms.proofs.Names.{cisco_row, CiscoAsa, CiscoIos, CiscoNxOs, Class, Dialect, filed_forms}
use Rattle.syslog_dated_forms.proofs.Names.{filed_front, filed_row, Finds, first, found, Front, is_blank, IsAny, IsAsa}
use Rattle.syslog_dated_forms.proofs.Names.{IsNxOs, IsOfNone, no_row_division, no_such_front, no_such_meaning}
use Rattle.syslog_dated_forms.proofs.Names.{NoDivision, NoFront, Row, row_cons, row_det, row_nil, row_none_here}
use Rattle.syslog_dated_forms.proofs.Names.{rows_join, rows_none_here, rows_none_later, run_det, says_once, Sent}
use Rattle.syslog_dated_forms.proofs.Names.{sent_value, SentDate, Some, some_run_det, such_det, such_front, such_that}
use Rattle.syslog_dated_forms.proofs.Names.{Text, Values}
use Rattle.syslog_dated_forms.specs.Filed.{filed_form, filed_sent}
use Rattle.syslog_sent.specs.Sent.{IsOnlySent}
use Rattle.syslog_dated_forms.proofs.CiscoLemmas.{cisco_row_det, origin_det}

pub filed_front_det : AllDeterministic filed_front
filed_front_det = run_det is_blank also any_date_det also some_run_det is_blank also origin_det also some_run_det
    is_blank
    also tt

-- a line of such a system
abbrev one : (Values cisco_row → Type 0) → Class
one P = such_that (Row cisco_row) P

no_front : (P : Values cisco_row → Type 0) {t : Text} → NoFront (Row filed_front) t → NoDivision (filed_row (one P)) t
no_front P n = no_row_division (filed_row (one P)) (rows_none_here filed_front (one P ∷ []) n)

pub unfiled : {t : Text} → NoFront (Row filed_front) t → IsOfNone filed_forms t
unfiled n = (no_front IsAsa n, (no_front IsNxOs n, (no_front IsAny n, tt)))

module _ {t line device : Text} {d : SentDate} (f : Front (Row filed_front) t line
    (tt, (d, (tt, (device, (tt, tt)))))) where
  no_line : (P : Values cisco_row → Type 0) → NoFront (one P) line → NoDivision (filed_row (one P)) t
  no_line P n = no_row_division (filed_row (one P))
      (rows_none_later filed_front (one P ∷ []) filed_front_det f (row_none_here (one P) [] n))

  pub none_filed : NoFront (Row cisco_row) line → IsOfNone filed_forms t
  none_filed n = (
    no_line IsAsa (no_such_front (Row cisco_row) IsAsa n),
    (
      no_line IsNxOs (no_such_front (Row cisco_row) IsNxOs n),
      (no_line IsAny (no_such_front (Row cisco_row) IsAny n), tt),
    ),
  )

  module _ {vs : Values cisco_row} (g : Front (Row cisco_row) line [] vs) (sent : Sent)
      (e : sent_value sent ≡ filed_sent device vs) where
    not_one : (P : Values cisco_row → Type 0) → (P vs → ⊥) → NoDivision (filed_row (one P)) t
    not_one P n = no_line P (no_such_meaning (Row cisco_row) P (row_det cisco_row cisco_row_det) g n)

    says_one : (dialect : Dialect) (P : Values cisco_row → Type 0) → P vs
        → IsOnlySent (filed_form dialect P) t (sent_value sent)
    says_one dialect P is = says_once dialect (filed_row (one P)) (λ vs. filed_sent vs.1.1.1.0 vs.1.1.1.1.1.0)
        (all_joined filed_front (one P ∷ []) filed_front_det
        (such_det (Row cisco_row) P (row_det cisco_row cisco_row_det) also tt))
        (rows_join filed_front (one P ∷ []) f (row_cons (one P) [] (such_front (Row cisco_row) P g is) (row_nil []))) e

    pub of_asa : IsAsa vs → Finds filed_forms t (Some (CiscoAsa, sent))
    of_asa is = found filed_forms (first sent (says_one CiscoAsa IsAsa is))

    pub of_nx_os : (IsAsa vs → ⊥) → IsNxOs vs → Finds filed_forms t (Some (CiscoNxOs, sent))
    of_nx_os no_asa is = found filed_forms (not_one IsAsa no_asa before first sent (says_one CiscoNxOs IsNxOs is))

    pub of_ios : (IsAsa vs → ⊥) → (IsNxOs vs → ⊥) → Finds filed_forms t (Some (CiscoIos, sent))
    of_ios no_asa no_nx_os = found filed_forms (not_one IsAsa no_asa before not_one IsNxOs no_nx_os before
        first sent (says_one CiscoIos IsAny tt))
