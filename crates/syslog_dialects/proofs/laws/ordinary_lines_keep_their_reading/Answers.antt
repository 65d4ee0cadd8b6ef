use Rattle.syslog_dialects.proofs.SentReadingLemmas.{kept_reading, no_dialect}
use Rattle.syslog_dialects.proofs.laws.ordinary_lines_keep_their_reading.Goals as goal

pub returns-clause-kept : goal.returns-clause-kept
returns-clause-kept c = kept_reading

pub returns-clause-only : goal.returns-clause-only
returns-clause-only c = no_dialect
