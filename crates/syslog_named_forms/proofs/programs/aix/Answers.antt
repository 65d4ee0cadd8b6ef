use Rattle.syslog_named_forms.proofs.Names.{[], ◌also◌, ◌∷◌, always_on, exactly, optional, row_reads}
use Rattle.std.proofs.Common.{codes}
use Rattle.syslog_named_forms.proofs.Names.{of_forms}
use Rattle.syslog_named_forms.specs.Programs.{aix_row}
use Rattle.syslog_named_forms.proofs.programs.aix.Goals as goal

pub returns : goal.returns
returns c = row_reads aix_row (search of_forms depth 24) c.args.text
    (c.plain_word.result ∷ c.map.result ∷ c.and_then.result ∷ c.and_then-2.result ∷ [])
    (c.plain_word.ensures also always_on (optional (exactly (codes "|security"))) c.plain_word.result c.map.result
    c.map.ensures.cases also c.and_then.ensures also c.and_then-2.ensures also tt)
