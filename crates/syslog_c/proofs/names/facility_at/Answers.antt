use Rattle.syslog_c.proofs.Words.{◌∙◌, ap, slice_get}
use Rattle.syslog_pieces.specs.Pri.{facilities}
use Rattle.syslog_c.proofs.NameLemmas.{eighth}
use Rattle.syslog_c.proofs.names.facility_at.Goals as goal

pub returns : goal.returns
returns c = c.decompose_pri.ensures.facility ∙ ap (slice_get facilities) (eighth c.args.number)
