use Rattle.syslog_dated_forms.proofs.Names.{◌past◌, ◌then◌, ap, Bracketed, chars, in_brackets_row, inl, loose, None}
use Rattle.syslog_dated_forms.proofs.Names.{refl, rest_front, row_of, says_once, SentDate, Some}
use Rattle.syslog_dated_forms.specs.InBrackets.{in_brackets_sent}
use Rattle.syslog_dated_forms.proofs.InBracketsLemmas.{in_brackets_det, no_stamp, stamp_front}
use Rattle.syslog_dated_forms.proofs.ChainLemmas.{undivided}
use Rattle.syslog_dated_forms.proofs.in_brackets.read_in_brackets.Goals as goal

pub returns-in_err-at_date : goal.returns-in_err-at_date
returns-in_err-at_date c = rw c.from_residual.ensures (undivided in_brackets_row in_brackets_det (c.blanks.ensures
    past inl c.in_err-at_date.ensures))

pub returns-in_err-date : goal.returns-in_err-date
returns-in_err-date c = rw c.from_residual-in_err-date.ensures (undivided in_brackets_row in_brackets_det
    (c.blanks.ensures past c.in_ok-at_date.ensures past inl (no_stamp c.inside.ensures c.in_err-date.ensures)))

pub returns-in_err-rest : goal.returns-in_err-rest
returns-in_err-rest c = rw c.from_residual-in_err-rest.ensures (let (v, division, same) = c.in_ok-date.ensures in
    undivided in_brackets_row in_brackets_det (c.blanks.ensures past c.in_ok-at_date.ensures past stamp_front
    c.inside.ensures division past inl c.in_err-rest.ensures))

pub returns : goal.returns
returns c = let (v, division, same) = c.in_ok-date.ensures in
    says_once Bracketed in_brackets_row in_brackets_sent in_brackets_det (row_of in_brackets_row
    (c.blanks.ensures then c.in_ok-at_date.ensures then stamp_front c.inside.ensures division
    then c.in_ok-rest.ensures then c.blanks-2.ensures then rest_front _ then refl))
    (ap (λ (d : SentDate). loose (Some d) None None None (chars c.blanks-2.result.now)) same)
