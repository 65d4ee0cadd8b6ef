use Rattle.syslog_elements.proofs.Names.{refl, false_is, opening_row, row_of, no_row, ◌then◌, ◌past◌, rules}
use Rattle.syslog_elements.proofs.StructuredDataLemmas.{Elements.opening_det, Walk.opens_at_once, Walk.opens_no_sooner}
use Rattle.syslog_elements.proofs.structured_data.recognise.open_param.Goals as goal

pub returns-in_err-after_equals : goal.returns-in_err-after_equals
returns-in_err-after_equals c =
    rw c.from_residual-in_err-after_equals.ensures (no_row opening_row opening_det (search rules))

pub returns-in-Some : goal.returns-in-Some
returns-in-Some c =
    let r = opens_at_once c.in_ok-name.ensures c.in_ok-after_equals.ensures c.in-Some.ensures in
    (r.0, ((λ t. r.1), (λ e. refl)))

pub returns-in_err-value : goal.returns-in_err-value
returns-in_err-value c =
    rw c.from_residual-in_err-value.ensures (no_row opening_row opening_det (c.in_ok-name.ensures past (search rules)))

pub returns : goal.returns
returns c =
    let row = c.in_ok-name.ensures then c.in_ok-after_equals.ensures then c.blanks.ensures then c.in_ok-value.ensures
    then refl in
    let no_sooner = opens_no_sooner c.in_ok-name.ensures c.in_ok-after_equals.ensures _ c.in_default.ensures in
    (row_of opening_row row, false_is no_sooner)
