use Rattle.syslog_dated_forms.proofs.Names.{◌++◌, ◌past◌, cisco_forms, filed_forms, filed_front, filed_more, inl}
use Rattle.syslog_dated_forms.proofs.Names.{IsOfNone, no_row, no_row_division, none_joined, refl, rows_none_here, Text}
use Rattle.syslog_dated_forms.proofs.Names.{timed_forms, timed_row}
use Rattle.syslog_sent.specs.Led.{IsUnled}
use Rattle.syslog_dated_forms.proofs.LedFormLemmas.{found_alone}
use Rattle.syslog_dated_forms.proofs.FiledLemmas.{filed_front_det, unfiled}
use Rattle.syslog_dated_forms.proofs.MarkLemmas.{unmarked_marked}
use Rattle.syslog_dated_forms.proofs.dated_forms.of_unled_cisco.Goals as goal

-- a line that a collector files begins with a date
none_filed : {text : Text} → IsUnled text → IsOfNone (filed_forms ++ timed_forms) text
none_filed {text} none = let n = no_row filed_front filed_front_det (none.gap past inl none.undated) in
    none_joined filed_forms timed_forms text (unfiled n)
    (no_row_division timed_row (rows_none_here filed_front filed_more n), tt)

pub returns-then-not-is_marked : goal.returns-then-not-is_marked
returns-then-not-is_marked c unled = unmarked_marked (c.if-not-is_marked.ensures refl)

pub returns : goal.returns
returns c unled = found_alone cisco_forms (filed_forms ++ timed_forms) _ c.read_cisco.result (none_filed unled)
    c.read_cisco.ensures
