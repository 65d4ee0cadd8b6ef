use Rattle.syslog_loose.proofs.{Names.month_date, ReadingLemmas.front_read}
use Rattle.syslog_loose.proofs.visit.front_date.Goals as goal

pub returns-then-reads_rfc3164 : goal.returns-then-reads_rfc3164
returns-then-reads_rfc3164 c =
    front_read month_date (λ d. d) _ _ _ _ c.if-reads_rfc3164.ensures c.blanks.ensures c.month_date.ensures
