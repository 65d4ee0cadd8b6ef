use Rattle.syslog_named_forms.proofs.Names.{drop, name, process_tail, spread_row}
use Rattle.syslog_named_forms.proofs.ReaderLemmas.{read}
use Rattle.syslog_named_forms.specs.Programs.{spread_of}
use Rattle.syslog_named_forms.proofs.HostLemmas.{no_host, past_host}
use Rattle.syslog_named_forms.proofs.RowLemmas.{spread_det}
use Rattle.syslog_named_forms.proofs.programs.spread.Goals as goal

pub returns-in_err-host : goal.returns-in_err-host
returns-in_err-host c text after = rw c.from_residual.ensures
    (no_host (drop 2 spread_row) spread_of (rw c.in_err-host.was at after))

pub returns : goal.returns
returns c text after = past_host (drop 2 spread_row) spread_of c.in_ok-host.host (rw c.in_ok-host.was at after) _
    (read name process_tail _ spread_det.1.1 _ _ c.name.result _ c.name.ensures
    c.process_from.ensures)
