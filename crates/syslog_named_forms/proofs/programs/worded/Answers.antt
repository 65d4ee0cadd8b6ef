use Rattle.syslog_named_forms.proofs.Names.{drop, process_tail, worded_row, words}
use Rattle.syslog_named_forms.proofs.ReaderLemmas.{read}
use Rattle.syslog_named_forms.specs.Programs.{worded_of}
use Rattle.syslog_named_forms.proofs.HostLemmas.{no_host, past_host}
use Rattle.syslog_named_forms.proofs.RowLemmas.{worded_det}
use Rattle.syslog_named_forms.proofs.programs.worded.Goals as goal

pub returns-in_err-host : goal.returns-in_err-host
returns-in_err-host c text after = rw c.from_residual.ensures
    (no_host (drop 2 worded_row) worded_of (rw c.in_err-host.was at after))

pub returns : goal.returns
returns c text after = past_host (drop 2 worded_row) worded_of c.in_ok-host.host (rw c.in_ok-host.was at after) _
    (read words process_tail _ worded_det.1.1 _ _ c.words.result _ c.words.ensures
    c.process_from.ensures)
