use Rattle.syslog_named_forms.proofs.Names.{[], ◌also◌, ◌past◌, ◌then◌, ◌∷◌, beginning, beginning_det, beginning_front}
use Rattle.syslog_named_forms.proofs.Names.{ids_row, inl, no_beginning, refl, row_of}
use Rattle.syslog_elements.specs.StructuredData.Pairs.{paired}
use Rattle.syslog_sent.specs.declared.dialect.Dialect.TheVariants.{CheckPoint}
use Rattle.syslog_named_forms.specs.NearHeader.{paired_says}
use Rattle.syslog_named_forms.proofs.NearHeaderLemmas.{ids_det, named, unnamed}
use Rattle.syslog_named_forms.proofs.near_header.read_paired.Goals as goal

pub returns-in_err-names : goal.returns-in_err-names
returns-in_err-names c text front = rw c.from_residual.ensures
    (unnamed ids_row (beginning paired ∷ []) ids_det (beginning_det paired also tt) front (inl c.in_err-names.ensures))

pub returns-in_err-paired_list : goal.returns-in_err-paired_list
returns-in_err-paired_list c text front = rw c.from_residual-in_err-paired_list.ensures
    (unnamed ids_row (beginning paired ∷ []) ids_det (beginning_det paired also tt) front
    (c.in_ok-names.ensures past inl (no_beginning c.in_err-paired_list.ensures.list)))

pub returns : goal.returns
returns c text front = named ids_row (beginning paired ∷ []) ids_det (beginning_det paired also tt) front CheckPoint
    paired_says c.in_ok-names.ensures
    (row_of (beginning paired ∷ []) (beginning_front c.in_ok-paired_list.ensures.list then refl)) c.sent.ensures
