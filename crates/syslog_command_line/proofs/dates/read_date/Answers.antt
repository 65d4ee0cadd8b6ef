use Rattle.syslog_command_line.proofs.DateLemmas.{date_parts, day_after, month_after, word_of_day, year_before}
use Rattle.syslog_command_line.proofs.Names.{◌≡◌, ◌∙◌, None, Some, of_z, rules, sym, to_z, w32}
use Rattle.syslog_command_line.proofs.dates.read_date.Goals as goal

pub returns-in_err-read_year : goal.returns-in_err-read_year
returns-in_err-read_year c = rw c.from_residual.ensures (λ today named.
    c.in_err-read_year.ensures (date_parts c.args.text.now None today c.in_default.ensures.cases named))

pub returns-in_err-year : goal.returns-in_err-year
returns-in_err-year c = rw c.from_residual-in_err-year.ensures (λ today named.
    c.in_err-year.ensures (year_before _ _ today
    (date_parts c.args.text.now (Some (c.in-Some.year, c.in-Some.rest)) today c.in-Some.ensures.cases named)))

pub returns-in_err-read_month-in-None : goal.returns-in_err-read_month-in-None
returns-in_err-read_month-in-None c = rw c.from_residual-in_err-read_month-in-None.ensures (λ today named.
    let after =
    date_parts c.args.text.now (Some (c.in-Some.year, c.in-Some.rest)) today c.in-Some.ensures.cases named in
    let (n, low, high, same) = month_after _ _ today c.in-None.ensures.cases after in
    c.in_err-read_month-in-None.ensures n low high same)

pub returns-in_err-read_day-in-Some-split_once : goal.returns-in_err-read_day-in-Some-split_once
returns-in_err-read_day-in-Some-split_once c =
    let year : to_z w32 (of_z w32 c.in_ok-year.year) ≡ c.in_ok-year.year = search rules in
    rw c.from_residual-in_err-read_day-in-Some-split_once.ensures (λ today named.
    let after =
    date_parts c.args.text.now (Some (c.in-Some.year, c.in-Some.rest)) today c.in-Some.ensures.cases named in
    let (date, is, month, day) =
    day_after _ _ (c.in-Some-split_once.month, c.in-Some-split_once.day) today c.in-Some-split_once.ensures.cases after
    in
    c.in_err-read_day-in-Some-split_once.ensures date (is.1 ∙ sym c.in_ok-year.ensures.1 ∙ sym year) month day)

pub returns-in_ok-read_day-in-Some-split_once : goal.returns-in_ok-read_day-in-Some-split_once
returns-in_ok-read_day-in-Some-split_once c =
    let year : to_z w32 (of_z w32 c.in_ok-year.year) ≡ c.in_ok-year.year = search rules in
    let found = c.in_ok-read_day-in-Some-split_once.ensures in
    word_of_day c.args.text.now (c.in-Some.year, c.in-Some.rest)
    (c.in-Some-split_once.month, c.in-Some-split_once.day) c.in_ok-read_day-in-Some-split_once.field-0
    c.in-Some.ensures.cases c.in-Some-split_once.ensures.cases
    (c.in_ok-year.ensures.0, found.0 ∙ year ∙ c.in_ok-year.ensures.1) found.1 found.2
