use Rattle.syslog_dialects.proofs.Names.{[], ◌∷◌, alone_form, UniFi}
use Rattle.syslog_sent.proofs.DialectLemmas.{here, later}
use Rattle.syslog_dialects.specs.PriorityAlone.{point_form, program_form}
use Rattle.syslog_sent.specs.declared.dialect.Dialect.TheVariants.{PriorityAlone}
use Rattle.syslog_dialects.proofs.dialects.read_last.Goals as goal

pub returns-in-Some : goal.returns-in-Some
returns-in-Some c = here program_form (point_form ∷ alone_form ∷ []) _ _ c.in-Some.ensures

pub returns-in-Some-read_point_alone : goal.returns-in-Some-read_point_alone
returns-in-Some-read_point_alone c = later program_form (point_form ∷ alone_form ∷ []) _ UniFi _ c.in_default.ensures
    (here point_form (alone_form ∷ []) _ _ c.in-Some-read_point_alone.ensures)

pub returns-in_err-sent : goal.returns-in_err-sent
returns-in_err-sent c = rw c.from_residual.ensures
    (c.in_default.ensures, (c.in_default-read_point_alone.ensures, (c.in_err-sent.ensures, tt)))

pub returns : goal.returns
returns c = later program_form (point_form ∷ alone_form ∷ []) _ PriorityAlone _ c.in_default.ensures
    (later point_form (alone_form ∷ []) _ PriorityAlone _ c.in_default-read_point_alone.ensures
    (here alone_form [] _ _ c.in_ok-sent.ensures))
