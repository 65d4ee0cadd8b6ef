use Rattle.syslog_elements.proofs.{Names.arith, Names.nil_from_length, StructuredDataLemmas.Units.means_run}
use Rattle.syslog_text.proofs.TextLemmas.Runs.{after_one, after_run, after_two, char_alone, empty_is, nonempty_is}
use Rattle.syslog_elements.proofs.StructuredDataLemmas.Units.{means_itself, means_lone, means_no_text, means_pair}
use Rattle.syslog_elements.proofs.structured_data.escapes.next_unescaped.Goals as goal

pub returns-then-not-is_empty : goal.returns-then-not-is_empty
returns-then-not-is_empty c =
    let some = nonempty_is _ c.if-not-is_empty.ensures in
    (means_run c.split_run.ensures, after_run c.split_run.ensures some)

pub returns-in_err-escaped : goal.returns-in_err-escaped
returns-in_err-escaped c =
    let none = empty_is _ c.if-not-is_empty.ensures in
    rw c.from_residual.ensures (means_no_text c.split_run.ensures none c.in_err-escaped.ensures)

pub returns-in_err-c : goal.returns-in_err-c
returns-in_err-c c =
    let none = empty_is _ c.if-not-is_empty.ensures in
    rw c.from_residual-in_err-c.ensures
    (means_lone c.split_run.ensures none c.in_ok-escaped.ensures.0 c.in_err-c.ensures)

pub returns-in-Some : goal.returns-in-Some
returns-in-Some c =
    let none = empty_is _ c.if-not-is_empty.ensures in (
      means_pair c.split_run.ensures none c.in_ok-escaped.ensures.0 c.in_ok-c.ensures.0 c.in-Some.ensures,
      after_two c.split_run.ensures c.in_ok-escaped.ensures.0 c.in_ok-c.ensures.0,
    )

pub returns-in-None : goal.returns-in-None
returns-in-None c =
    let none = empty_is _ c.if-not-is_empty.ensures in (
      means_itself c.split_run.ensures none c.in_ok-escaped.ensures.0 c.in_ok-c.ensures.0 c.in-None.ensures.0
          c.in-None.ensures.1 (char_alone 92 (omega arith)),
      after_one c.split_run.ensures c.in_ok-escaped.ensures.0,
    )
