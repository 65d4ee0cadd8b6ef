use Rattle.syslog_named_forms.proofs.Names.{[], ◌also◌, ◌past◌, ◌then◌, ◌∷◌, AllDeterministic, Class, inl, is_blank}
use Rattle.syslog_named_forms.proofs.Names.{List, no_row, refl, row_of, rows_join, rows_none_here, rows_none_later}
use Rattle.syslog_named_forms.proofs.Names.{some_run, some_run_det, source_row, word, word_det}
use Rattle.syslog_named_forms.proofs.NearHeaderLemmas.{source_det}
use Rattle.syslog_named_forms.proofs.near_header.ids.Goals as goal

-- the message id
abbrev more : List Class
more = word ∷ some_run is_blank ∷ []

more_det : AllDeterministic more
more_det = word_det also some_run_det is_blank also tt

pub returns-in_err-source : goal.returns-in_err-source
returns-in_err-source c = rw c.from_residual.ensures (rows_none_here source_row more c.in_err-source.ensures)

pub returns-in_err-msgid : goal.returns-in_err-msgid
returns-in_err-msgid c = rw c.from_residual-in_err-msgid.ensures (rows_none_later source_row more source_det
    c.in_ok-source.ensures (no_row more more_det (inl c.in_err-msgid.ensures)))

pub returns-in_err-rest : goal.returns-in_err-rest
returns-in_err-rest c = rw c.from_residual-in_err-rest.ensures (rows_none_later source_row more source_det
    c.in_ok-source.ensures (no_row more more_det (c.in_ok-msgid.ensures past inl c.in_err-rest.ensures)))

pub returns : goal.returns
returns c = rows_join source_row more c.in_ok-source.ensures
    (row_of more (c.in_ok-msgid.ensures then c.in_ok-rest.ensures then refl))
