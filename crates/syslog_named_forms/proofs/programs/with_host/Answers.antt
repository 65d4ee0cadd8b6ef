use Rattle.syslog_named_forms.proofs.Names.{[], ◌also◌, ◌∷◌, drop, exactly, is_plain_char, match_map, program_tail}
use Rattle.syslog_named_forms.proofs.Names.{refl, serial_of, serial_row, some_run, time_row}
use Rattle.syslog_named_forms.proofs.HostLemmas.{past_host}
use Rattle.syslog_named_forms.proofs.ReaderLemmas.{passed}
use Rattle.syslog_named_forms.proofs.RowLemmas.{serial_det}
use Rattle.syslog_named_forms.proofs.programs.with_host.Goals as goal

pub returns : goal.returns
returns c text after = past_host (drop 2 serial_row) serial_of c.args.host after _
    (passed (some_run is_plain_char ∷ exactly (32 ∷ []) ∷ exactly (40 ∷ []) ∷ time_row) program_tail
    serial_det.1.1 _ _ (λ _ _. refl) c.args.host.text
    (c.plain_word.result ∷ c.and_then.result ∷ c.and_then-2.result ∷ c.and_then-3.result ∷ c.and_then-4.result
    ∷ c.and_then-at_program.result ∷ []) _
    (c.plain_word.ensures also c.and_then.ensures also c.and_then-2.ensures also c.and_then-3.ensures
    also match_map c.and_then-3.result (λ e. e) (λ x h. h.0) c.and_then-4.ensures
    also c.and_then-at_program.ensures also tt) c.program_from.ensures)
