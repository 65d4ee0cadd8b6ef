use Rattle.syslog_strict.proofs.Words.{inl, refl, ElementValue}
use Rattle.syslog_text.proofs.PieceLemmas.Class.{◌past◌, ◌then◌, mapped_front, no_mapped, no_row, row_of}
use Rattle.syslog_text.specs.Pieces.Class.{Row}
use Rattle.syslog_strict.proofs.GrammarLemmas.{element_row_det}
use Rattle.syslog_strict.specs.Grammar.{element_of, element_row}
use Rattle.syslog_strict.proofs.valid.structured_data.sd_element.Goals as goal

pub returns-in_err-after_bracket-clause-reads : goal.returns-in_err-after_bracket-clause-reads
returns-in_err-after_bracket-clause-reads c = rw c.from_residual.ensures
    (no_mapped (Row element_row) ElementValue element_of
    (no_row element_row element_row_det (inl c.in_err-after_bracket.ensures)))

pub returns-in_err-id-clause-reads : goal.returns-in_err-id-clause-reads
returns-in_err-id-clause-reads c = rw c.from_residual-in_err-id.ensures
    (no_mapped (Row element_row) ElementValue element_of
    (no_row element_row element_row_det (c.in_ok-after_bracket.ensures
    past inl c.in_err-id.ensures)))

pub returns-in_err-rest-clause-reads : goal.returns-in_err-rest-clause-reads
returns-in_err-rest-clause-reads c = rw c.from_residual-in_err-rest.ensures
    (no_mapped (Row element_row) ElementValue element_of
    (no_row element_row element_row_det (c.in_ok-after_bracket.ensures
    past c.in_ok-id.ensures past c.params.ensures.1 past inl c.in_err-rest.ensures.reads)))

pub returns-clause-reads : goal.returns-clause-reads
returns-clause-reads c = (
  _,
  refl,
  mapped_front (Row element_row) ElementValue element_of (row_of element_row
      (c.in_ok-after_bracket.ensures then c.in_ok-id.ensures then c.params.ensures.1 then c.in_ok-rest.ensures.reads.1
      then refl)),
)
