use Rattle.syslog_dialects.proofs.Names.{month_date, no_front_no, Row, version_row}
use Rattle.syslog_dialects.proofs.PriorityAloneLemmas.{alone_told}
use Rattle.syslog_dialects.proofs.priority_alone.is_alone.Goals as goal

pub returns-in-Some : goal.returns-in-Some
returns-in-Some c = λ a. no_front_no month_date a.undated c.in-Some.ensures

pub returns-in-Some-past_version : goal.returns-in-Some-past_version
returns-in-Some-past_version c = λ a. no_front_no (Row version_row) a.unversioned c.in-Some-past_version.ensures.1

pub returns : goal.returns
returns c = alone_told _ c.is_empty.result c.utf8.text c.is_empty.ensures c.in_default.ensures
    c.in_default-past_version.ensures
