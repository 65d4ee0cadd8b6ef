use Rattle.syslog_dialects.proofs.Names.{◌++◌, dated_forms, found_early, found_late, named_forms, plain_forms}
use Rattle.syslog_dialects.proofs.Names.{undated_forms}
use Rattle.syslog_dated_forms.proofs.LedFormLemmas.{found_alone}
use Rattle.syslog_dialects.proofs.UndatedLemmas.{unled_no_named, unled_no_plain}
use Rattle.syslog_dialects.specs.Dialects as dialects
use Rattle.syslog_dialects.proofs.dialects.read_unled.Goals as goal

pub returns-in-Some : goal.returns-in-Some
returns-in-Some c none =
    found_early dialects.dated_forms (named_forms ++ plain_forms) _ c.in-Some.found (c.in-Some.ensures none)

pub returns-in-None : goal.returns-in-None
returns-in-None c none = let r = c.read_undated.result in
    found_late dialects.dated_forms (named_forms ++ plain_forms) _ r (c.in-None.ensures none)
    (found_late dated_forms (undated_forms ++ plain_forms) _ r (unled_no_named none)
    (found_alone undated_forms plain_forms _ r (unled_no_plain none) c.read_undated.ensures))
