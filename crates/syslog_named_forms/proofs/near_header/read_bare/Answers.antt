use Rattle.syslog_named_forms.proofs.Names.{[], ◌also◌, ◌then◌, ◌∷◌, ids_row, inl, NearlyRfc5424, refl, rest, rest_det}
use Rattle.syslog_named_forms.proofs.Names.{rest_front, row_of}
use Rattle.syslog_named_forms.specs.NearHeader.{bare_says}
use Rattle.syslog_named_forms.proofs.NearHeaderLemmas.{ids_det, named, unnamed}
use Rattle.syslog_named_forms.proofs.near_header.read_bare.Goals as goal

pub returns-in_err-names : goal.returns-in_err-names
returns-in_err-names c text front = rw c.from_residual.ensures
    (unnamed ids_row (rest ∷ []) ids_det (rest_det also tt) front (inl c.in_err-names.ensures))

pub returns : goal.returns
returns c text front = named ids_row (rest ∷ []) ids_det (rest_det also tt) front NearlyRfc5424 bare_says
    c.in_ok-names.ensures (row_of (rest ∷ []) (rest_front _ then refl)) c.sent.ensures
