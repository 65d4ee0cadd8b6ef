use Rattle.syslog_csv.proofs.RecordLemmas.{read_back}
use Rattle.syslog_csv.proofs.laws.written_records_are_read_back.Goals as goal

pub returns : goal.returns
returns c = read_back
