-- How clauses see the structs of `netscaler`.
use Rattle.std.specs.Prelude.{ℕ}
use Rattle.syslog_text.specs.Pieces.Class.{Values}
use Rattle.syslog_dated_forms.specs.NetScaler.{month_first_row, year_first_row}
use Rattle.syslog_dated_forms.specs.declared.netscaler.Day.{Day}

abbrev pub month_first_values : Day → Values month_first_row
month_first_values d = (d.month, (d.day, (d.year, tt)))

abbrev pub year_first_values : Day → Values year_first_row
year_first_values d = (d.year, (d.month, (d.day, tt)))

abbrev pub day_value : Day → ℕ × (ℕ × ℕ)
day_value d = (d.year, (d.month, d.day))
