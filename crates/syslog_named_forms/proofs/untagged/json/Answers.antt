use Rattle.syslog_named_forms.proofs.Names.{◌past◌, ◌then◌, inl, match_map, no_row, object_row, refl, row_of}
use Rattle.syslog_named_forms.proofs.RowLemmas.{object_det}
use Rattle.syslog_named_forms.proofs.untagged.json.Goals as goal

pub returns-in_err-inner : goal.returns-in_err-inner
returns-in_err-inner c = rw c.from_residual.ensures (no_row object_row object_det (inl c.in_err-inner.ensures))

pub returns : goal.returns
returns c = match_map c.name_or_end.result
    (λ n. no_row object_row object_det (c.in_ok-inner.ensures past c.blanks.ensures past inl n))
    (λ x (v, f). (_, row_of object_row (c.in_ok-inner.ensures then c.blanks.ensures then f then refl)))
    c.name_or_end.ensures
