use Rattle.std.specs.Prelude.{ℕ}
use Rattle.syslog_text.specs.Pieces.Class.{Class, after}
use Rattle.syslog_text.specs.Text.{number}
use Rattle.syslog_text.proofs.PieceLemmas.Class.{match_map, mapped_front, no_mapped}
use Rattle.syslog_sent.specs.Date.{one_of_numbers}
use Rattle.syslog_sent.specs.Named.{◌otherwise◌}
use Rattle.syslog_sent.proofs.NamedLemmas.{first_front, no_otherwise, second_front}
use Rattle.syslog_sent.proofs.date.date_part.Goals as goal

abbrev either : Class
either = after 45 (number 99) otherwise after 47 (number 99)

pub returns-in-Some : goal.returns-in-Some
returns-in-Some c = mapped_front either ℕ one_of_numbers (first_front c.in-Some.ensures)

pub returns-in-None : goal.returns-in-None
returns-in-None c = match_map c.slashed.result
    (λ n. no_mapped either ℕ one_of_numbers (no_otherwise c.in-None.ensures n))
    (λ x f. mapped_front either ℕ one_of_numbers (second_front c.in-None.ensures f)) c.slashed.ensures
