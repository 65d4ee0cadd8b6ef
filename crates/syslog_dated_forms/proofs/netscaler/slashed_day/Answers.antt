use Rattle.syslog_dated_forms.proofs.Names.{◌otherwise◌, day_of, first_front, mapped_front, match_map, month_first_row}
use Rattle.syslog_dated_forms.proofs.Names.{no_mapped, no_otherwise, Row, second_front, year_first_row, ℕ}
use Rattle.syslog_dated_forms.proofs.netscaler.slashed_day.Goals as goal

pub returns-in-Some : goal.returns-in-Some
returns-in-Some c = mapped_front (Row month_first_row otherwise Row year_first_row) (ℕ × (ℕ × ℕ)) day_of
    (first_front c.in-Some.ensures)

pub returns : goal.returns
returns c = match_map c.year_first.result
    (λ n. no_mapped (Row month_first_row otherwise Row year_first_row) (ℕ × (ℕ × ℕ)) day_of
    (no_otherwise c.in_default.ensures n))
    (λ x f. mapped_front (Row month_first_row otherwise Row year_first_row) (ℕ × (ℕ × ℕ)) day_of
    (second_front c.in_default.ensures f)) c.year_first.ensures
