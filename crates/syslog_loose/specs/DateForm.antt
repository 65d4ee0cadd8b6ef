-- The form of the date that a text shows: whether it has a year, and an offset.
use Rattle.std.specs.Prelude.{◌≡◌}
use Rattle.syslog_loose.specs.Words.{Option, Some, None, MatchOption, MonthDate, ShowsMonthDate, Text}
use Rattle.syslog_loose.specs.declared.date_form.DateForm.{DateForm}
use Rattle.syslog_loose.specs.declared.date_form.DateForm.TheVariants.{Yearless, Dated, Whole}

-- the text shows no month date
abbrev pub ShowsNoDate : Text → Type 0
ShowsNoDate text = (date : MonthDate) → ShowsMonthDate text date → ⊥

-- the month date that the text shows, if it shows one
abbrev pub ShowsDate : Text → Option MonthDate → Type 0
ShowsDate text date = MatchOption date (ShowsNoDate text) (λ d. ShowsMonthDate text d)

-- a month date may have a year
abbrev pub date_form : Option MonthDate → DateForm
date_form None = Whole
date_form (Some date) = elim date.year [ Some _ ↦ Dated | None ↦ Yearless ]

-- the text shows a month date of this form; or none, and the form is that of any other date
abbrev pub HasDateForm : Text → DateForm → Type 0
HasDateForm text form = (date : Option MonthDate) × ShowsDate text date × (form ≡ date_form date)
