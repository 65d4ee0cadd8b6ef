use Rattle.syslog_dated_forms.proofs.Names.{◌then◌, mapped_front, Option, place_row, refl, Row, row_of, Text, unit}
use Rattle.syslog_dated_forms.proofs.ReaderLemmas.{skipped}
use Rattle.syslog_dated_forms.proofs.cisco.place.Goals as goal

pub returns : goal.returns
returns c = mapped_front (Row place_row) (Option Text) (λ v. v.1.0) (row_of place_row (c.blanks.ensures
    then c.optional_origin.ensures then c.blanks-2.ensures then c.past_colon.ensures.1 then c.blanks-3.ensures
    then (skipped unit _ _ c.past_any.ensures).1 then refl))
