use Rattle.syslog_dated_forms.proofs.Names.{chars, counter_row, inl, is_ascii_digit, no_row, no_run, some_run}
use Rattle.syslog_text.proofs.TextLemmas.Runs.{ends_digits}
use Rattle.syslog_dated_forms.proofs.CiscoLemmas.{counter_row_det}
use Rattle.syslog_dated_forms.proofs.ChainLemmas.{◌next◌, chain_row, end}
use Rattle.syslog_dated_forms.proofs.cisco.counter.Goals as goal

pub returns : goal.returns
returns c = chain_row {Cs = counter_row} {x = c.args.text} counter_row_det
    (c.digits.ensures next c.and_then.ensures next c.and_then-2.ensures next end)

pub returns-then-not-begins_with_digit : goal.returns-then-not-begins_with_digit
returns-then-not-begins_with_digit c = no_row counter_row counter_row_det
    (inl (no_run is_ascii_digit (chars c.args.text.now)
    (ends_digits c.args.text.now c.utf8.text (rw c.as_bytes.ensures.value at c.if-not-begins_with_digit.ensures))
    (some_run is_ascii_digit) (λ p q v h. (h.0, h.1))))
