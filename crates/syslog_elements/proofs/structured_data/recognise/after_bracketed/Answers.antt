use Rattle.syslog_elements.proofs.Names.{inl, refl, is_open_char, match_map, row_of, no_row, ◌then◌, ◌past◌}
use Rattle.syslog_elements.proofs.StructuredDataLemmas.Elements.{bracketed_row, bracketed_row_det}
use Rattle.syslog_text.proofs.TextLemmas.Runs.{run_front}
use Rattle.syslog_elements.proofs.structured_data.recognise.after_bracketed.Goals as goal

pub returns-in_err-rest : goal.returns-in_err-rest
returns-in_err-rest c =
    rw c.from_residual.ensures (no_row bracketed_row bracketed_row_det (inl c.in_err-rest.ensures))

pub returns : goal.returns
returns c =
    let f = run_front is_open_char _ _ _ c.split_run.ensures in
    match_map c.literal-2.result
    (λ n. no_row bracketed_row bracketed_row_det (c.in_ok-rest.ensures past f past inl n))
    (λ x g. (_, row_of bracketed_row (c.in_ok-rest.ensures then f then g then refl)))
    c.literal-2.ensures
