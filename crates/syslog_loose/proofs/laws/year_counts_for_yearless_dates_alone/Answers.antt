use Rattle.syslog_loose.proofs.Rfc3164Lemmas.{other_read, quotes}
use Rattle.syslog_loose.proofs.laws.year_counts_for_yearless_dates_alone.Goals as goal

pub returns-clause-quotes : goal.returns-clause-quotes
returns-clause-quotes c rule text none dating other zone local m r =
    quotes rule other text m (other_read dating other zone local rule text none m r.read)
