use Rattle.syslog_strict.proofs.Words.{[], ◌∷◌, Text}
use Rattle.syslog_text.proofs.PieceLemmas.Class.{◌also◌, match_map}
use Rattle.syslog_text.proofs.PieceLemmas.Rules.{always_on, mapped_reads, row_reads, texted_on}
use Rattle.syslog_text.specs.Pieces.Class.{Row}
use Rattle.syslog_strict.proofs.GrammarLemmas.{param_det}
use Rattle.syslog_strict.specs.Grammar.{param_of, param_row, param_value}
use Rattle.syslog_strict.proofs.valid.structured_data.sd_param.Goals as goal

pub returns-clause-reads : goal.returns-clause-reads
returns-clause-reads c = mapped_reads (Row param_row) (Text × Text) param_of _ c.and_then-3.result
    (row_reads param_row param_det c.args.text
    (c.param_name.result ∷ c.and_then.result ∷ c.and_then-2.result ∷ c.map.result ∷ c.and_then-3.result ∷ [])
    (c.param_name.ensures also c.and_then.ensures
    also match_map c.and_then.result (λ e. e) (λ x h. h.0) c.and_then-2.ensures
    also texted_on param_value c.and_then-2.result c.map.result
    (always_on param_value c.and_then-2.result c.map.result c.map.ensures.cases)
    also match_map c.map.result (λ e. e) (λ x h. h.0) c.and_then-3.ensures also tt))
