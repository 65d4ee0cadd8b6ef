use Rattle.syslog_named_forms.proofs.Names.{[], ◌also◌, ◌∷◌, always_on, later_word, many, match_map, row_reads, spaced}
use Rattle.syslog_named_forms.proofs.Names.{words_row}
use Rattle.syslog_named_forms.proofs.RowLemmas.{words_row_det}
use Rattle.syslog_named_forms.proofs.programs.words_end.Goals as goal

pub returns : goal.returns
returns c = row_reads words_row words_row_det c.args.text
    (c.word.result ∷ c.and_then.result ∷ c.map.result ∷ [])
    (c.word.ensures.reads
    also match_map c.word.result (λ e. e) (λ x h. h.0) c.and_then.ensures
    also always_on (many (spaced later_word)) c.and_then.result c.map.result c.map.ensures.cases also tt)
