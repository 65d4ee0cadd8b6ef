use Rattle.syslog_named_forms.proofs.Names.{[], ◌also◌, ◌∷◌, box_of, box_row, drop, exactly, match_map, NamedTexts}
use Rattle.syslog_named_forms.proofs.Names.{no_mapped, None, program_said, program_tail, refl, Row, time_row}
use Rattle.syslog_named_forms.proofs.ProgramLemmas.{as_serial, box_front, box_front_det, box_more, no_box_word}
use Rattle.syslog_named_forms.proofs.ReaderLemmas.{goes_on, known, passed}
use Rattle.syslog_named_forms.proofs.RowLemmas.{box_det}
use Rattle.syslog_named_forms.proofs.programs.without_host.Goals as goal

pub returns-then-not-is_serial_word : goal.returns-then-not-is_serial_word
returns-then-not-is_serial_word c text rest host paren =
    no_mapped (Row box_row) NamedTexts box_of (no_box_word host c.if-not-is_serial_word.ensures)

pub returns : goal.returns
returns c text rest host paren = goes_on box_front box_more box_front_det box_of (λ ws. program_said None ws.1.1.1.1)
    (as_serial host c.if-not-is_serial_word.ensures) (λ ws. refl) _
    (known (exactly (40 ∷ [])) (drop 1 box_more) (λ ws. program_said None ws.1.1.1.1) box_det.1.1 paren _
    (passed time_row program_tail box_det.1.1.1 _ _ (λ _ _. refl)
    c.args.before_date (c.time.result ∷ c.and_then.result ∷ c.and_then-2.result ∷ []) _
    (c.time.ensures also match_map c.time.result (λ e. e) (λ x h. h.0) c.and_then.ensures
    also c.and_then-2.ensures also tt) c.program_from.ensures))
