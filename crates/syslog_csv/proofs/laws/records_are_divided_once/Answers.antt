use Rattle.syslog_csv.proofs.RecordLemmas.{divided_once}
use Rattle.syslog_csv.proofs.laws.records_are_divided_once.Goals as goal

pub returns : goal.returns
returns c = divided_once
