-- Runs of ASCII characters, by their bytes.
use Rattle.std.proofs.Common.{◌≡◌, ℕ, ◌<◌, ◌≤◌, Bool, true, false, List, [], ◌∷◌, length, get_or, take, drop, suc}
use Rattle.std.proofs.Common.{inl, inr, arith, refl, sym, ap, ◌∙◌, nat_eq}
use Rattle.std.proofs.Common.{length-drop, length-take}
use Rattle.std.proofs.lemmas.Bool.{cases_Bool}
use Rattle.std.proofs.lemmas.Bool.Decides.{nat_tests}
use Rattle.std.proofs.lemmas.List.{get_or-take}
use Rattle.std.proofs.lemmas.Str.{IsUtf8-drop, chars-IsAscii, chars_from_encodes}
use Rattle.std.specs.Str.{IsUtf8, NoCharPasses, NonePass, chars}
use Rattle.syslog_text.specs.Bodies.Scan.{EndsRun}
use Rattle.syslog_text.specs.Pieces.Class.{Each, Text}
use Rattle.syslog_text.proofs.TextLemmas.Runs.{ascii_cut, ends_by_byte, ends_run, first_left, low_ascii}
use Rattle.syslog_sent.specs.Runs.{is_either_char, is_plain_char, is_unquoted, is_word_char}

each_by_place : (h : ℕ → Bool) (bs : List ℕ) → ((k : ℕ) → k < length bs → h (get_or bs k 0) ≡ true) → Each h bs
each_by_place h [] f = tt
each_by_place h (b ∷ bs) f = (f 0 (omega arith), each_by_place h bs (λ k lt. f (suc k) (omega arith)))

-- a run of characters that are ASCII
pub ends_ascii : (test : ℕ → Bool) → ((c : ℕ) → test c ≡ true → c < 128) → (bs : List ℕ) (n : ℕ) → IsUtf8 bs
    → n ≤ length bs
    → ((k : ℕ) → k < n → test (get_or bs k 0) ≡ true) → (n < length bs → test (get_or bs n 0) ≡ false)
    → EndsRun test bs n
ends_ascii test low bs n u le pass stop =
    let cut = ascii_cut bs n u le (λ k lt. low (get_or bs k 0) (pass k lt)) in
    let each : Each test (take n bs) = each_by_place test (take n bs) (λ k lt.
    (let within : k < n = omega (arith, lt, length-take n bs) in rw (get_or-take n bs k 0 within) (pass k within))) in
    let front : chars (take n bs) ≡ take n bs = chars-IsAscii (take n bs) (low_ascii test (take n bs) low each) in
    ends_run test bs n u cut (rw front each) (ends_by_byte test (drop n bs) (IsUtf8-drop bs n u cut) (λ l c byte char.
    elim (cases_Bool (test c)) [
      | inl holds ↦ (let same : get_or bs n 0 ≡ c = sym (first_left n bs) ∙ byte (low c holds) in
          let stopped : test (get_or bs n 0) ≡ false = stop (omega (arith, l, length-drop n bs)) in
          let bad : true ≡ false = sym holds ∙ ap test (sym same) ∙ stopped in cc)
      | inr fails ↦ fails
    ]))

pub word_low : (c : ℕ) → is_word_char c ≡ true → c < 128
word_low c h = grind (arith, nat_tests)

pub plain_low : (c : ℕ) → is_plain_char c ≡ true → c < 128
plain_low c h = grind (arith, nat_tests)

pub either_low : (c : ℕ) → is_either_char c ≡ true → c < 128
either_low c h = grind (arith, nat_tests)

-- ---- what a search of a quote says

unquoted : (cs : Text) → NonePass (λ d. nat_eq d 34) cs → Each is_unquoted cs
unquoted [] n = tt
unquoted (c ∷ cs) n = (rw n.0 refl, unquoted cs n.1)

pub each_unquoted : (bs : List ℕ) → IsUtf8 bs → NoCharPasses (λ d. nat_eq d 34) bs → Each is_unquoted (chars bs)
each_unquoted bs u (cs, e, n) = rw (← chars_from_encodes cs bs u e) (unquoted cs n)
