use Rattle.syslog_named_forms.proofs.Names.{[], ◌also◌, ◌∷◌, Class, codes, exactly, exactly_det, match_map, optional}
use Rattle.syslog_named_forms.proofs.Names.{optional_det, repeated_tail, row_cons, row_reads}
use Rattle.syslog_text.proofs.PieceLemmas.Class.{row_none_later}
use Rattle.syslog_named_forms.proofs.Names.{of_forms}
use Rattle.syslog_named_forms.proofs.untagged.last_repeated.Goals as goal

abbrev last : Class
last = optional (exactly (codes "last "))

pub returns : goal.returns
returns c =
    let (v, f) = c.past_last.ensures in
    match_map c.and_then-2.result
    (λ n. row_none_later last repeated_tail (optional_det (exactly (codes "last ")) (exactly_det _)) f n)
    (λ x (vs, g). ((v, vs), row_cons last repeated_tail f g))
    (row_reads repeated_tail (search of_forms depth 24) c.past_last.result
    (c.repeated_words.result ∷ c.and_then.result ∷ c.and_then-2.result ∷ [])
    (c.repeated_words.ensures also c.and_then.ensures also c.and_then-2.ensures also tt))
