use Rattle.syslog_named_forms.proofs.Names.{beginning, drop, seen, untagged, untagged_row}
use Rattle.syslog_named_forms.proofs.ReaderLemmas.{alone, begun}
use Rattle.syslog_named_forms.specs.Programs.{untagged_of, number_word}
use Rattle.syslog_named_forms.proofs.HostLemmas.{no_host, past_host}
use Rattle.syslog_named_forms.proofs.programs.untagged_message.Goals as goal

pub returns-in_err-host : goal.returns-in_err-host
returns-in_err-host c text after = rw c.from_residual.ensures
    (no_host (drop 2 untagged_row) untagged_of (rw c.in_err-host.was at after))

pub returns : goal.returns
returns c text after = past_host (drop 2 untagged_row) untagged_of c.in_ok-host.host (rw c.in_ok-host.was at after) _
    (alone (beginning number_word) (untagged (seen c.in_ok-host.host.hostname)) _ _
    (begun number_word _ _ c.number_word.result _ c.number_word.ensures c.untagged_from.ensures))
