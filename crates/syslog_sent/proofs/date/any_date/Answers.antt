use Rattle.syslog_text.proofs.PieceLemmas.Class.{match_map, mapped_front, no_mapped}
use Rattle.syslog_sent.specs.Date.{bsd_date, iso_date, one_of_dates}
use Rattle.syslog_sent.specs.Named.{◌otherwise◌}
use Rattle.syslog_sent.proofs.NamedLemmas.{first_front, no_otherwise, second_front}
use Rattle.syslog_sent.specs.declared.sent.SentDate.{SentDate}
use Rattle.syslog_sent.proofs.date.any_date.Goals as goal

pub returns-in-Some : goal.returns-in-Some
returns-in-Some c = mapped_front (bsd_date otherwise iso_date) SentDate one_of_dates (first_front c.in-Some.ensures)

pub returns-in-None : goal.returns-in-None
returns-in-None c = match_map c.iso_date.result
    (λ n. no_mapped (bsd_date otherwise iso_date) SentDate one_of_dates (no_otherwise c.in-None.ensures n))
    (λ x f. mapped_front (bsd_date otherwise iso_date) SentDate one_of_dates (second_front c.in-None.ensures f))
    c.iso_date.ensures
