use Rattle.syslog_named_forms.proofs.Names.{◌past◌, ◌then◌, ids_row, inl, NearlyRfc5424, nil_last, refl, rest_front}
use Rattle.syslog_named_forms.proofs.Names.{row_of}
use Rattle.syslog_named_forms.specs.NearHeader.{nil_says}
use Rattle.syslog_named_forms.proofs.NearHeaderLemmas.{ids_det, named, nil_last_det, unnamed}
use Rattle.syslog_named_forms.proofs.near_header.read_nil.Goals as goal

pub returns-in_err-names : goal.returns-in_err-names
returns-in_err-names c text front = rw c.from_residual.ensures
    (unnamed ids_row nil_last ids_det nil_last_det front (inl c.in_err-names.ensures))

pub returns-in_err-after_nil : goal.returns-in_err-after_nil
returns-in_err-after_nil c text front = rw c.from_residual-in_err-after_nil.ensures
    (unnamed ids_row nil_last ids_det nil_last_det front
    (c.in_ok-names.ensures past inl c.in_err-after_nil.ensures))

pub returns : goal.returns
returns c text front = named ids_row nil_last ids_det nil_last_det front NearlyRfc5424 nil_says
    c.in_ok-names.ensures
    (row_of nil_last (c.in_ok-after_nil.ensures.1 then c.blanks.ensures then rest_front _ then refl)) c.sent.ensures
