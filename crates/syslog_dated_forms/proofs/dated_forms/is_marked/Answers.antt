use Rattle.syslog_dated_forms.proofs.MarkLemmas.{unmarked}
use Rattle.syslog_dated_forms.proofs.dated_forms.is_marked.Goals as goal

pub returns-in-None : goal.returns-in-None
returns-in-None c is = unmarked c.args.text.now c.utf8.text (rw c.as_bytes.ensures.value at c.in-None.ensures)
