-- Decimals that are a run of digits of their own.
use Rattle.syslog_pieces.proofs.Names.{◌≡◌, ℕ, ◌<◌, List, [], ◌∷◌, length, refl, sym, ap, subst, ◌∙◌, arith, append-nil}
use Rattle.syslog_pieces.proofs.Names.{length-append, chars, is_ascii_digit, Text, Each, Front, NoFront, SplitsRun}
use Rattle.syslog_pieces.proofs.Names.{decimals}
use Rattle.syslog_pieces.proofs.Names.{fraction_value, front_same, no_front_no}
use Rattle.syslog_text.proofs.PieceLemmas.Class.{front_of}
use Rattle.syslog_text.proofs.TextLemmas.Runs.{ascii_chars, digits_ascii, chars_nonempty, no_run_front}
use Rattle.syslog_pieces.proofs.TimestampLemmas.Rfc3339.{decimals_det}

-- digits alone are decimals
all_digits : (run : Text) → 0 < length run → Each is_ascii_digit run → Front decimals run [] (fraction_value 9 run)
all_digits run long each = front_of run (sym (append-nil run)) (run, (tt, (long, each, tt), refl), refl)

run_empty : (run : Text) → Each is_ascii_digit run → NoFront decimals run → length run ≡ 0
run_empty [] each n = refl
run_empty (d ∷ run) each n = absurd (no_front_no decimals n (all_digits (d ∷ run) (omega arith) each))

front_long : {run q : Text} {n : ℕ} → Front decimals run q n → 0 < length run
front_long {q = q} f =
    let (ds, (u, h, same), value) = f.is in omega (arith, ap length f.whole, length-append f.piece q, h.0)

module _ (text xs ys : List ℕ) (s : SplitsRun is_ascii_digit text xs ys) where
  bytes : chars xs ≡ xs
  bytes = ascii_chars xs s.front_utf8 (digits_ascii (chars xs) s.each)

  each : Each is_ascii_digit xs
  each = subst (λ (x : Text). Each is_ascii_digit x) bytes s.each

  -- what a reader of the run's bytes finds, the text begins with
  pub run_decimals : {q : Text} {n : ℕ} → Front decimals xs q n → Front decimals (chars text) (chars ys) n
  run_decimals f =
      let long = front_long f in
      let value = (front_same decimals decimals_det f (all_digits xs long each)).1 in
      front_of (chars xs) s.characters (
        chars xs,
        (tt, (chars_nonempty xs s.front_utf8 long, s.each, s.ends), refl),
        value ∙ ap (λ (x : Text). fraction_value 9 x) (sym bytes),
      )

  pub no_run_decimals : NoFront decimals xs → NoFront decimals (chars text)
  no_run_decimals n = no_run_front is_ascii_digit text xs ys s (run_empty xs each n) decimals
      (λ p q v (ds, (u, h, same), value). (h.0, h.1))
