-- The program's arguments as words.
use Rattle.syslog_tidy.proofs.Names.{◌≡◌, List, ◌∷◌, ◌++◌, length, inl, refl, true, arith, changed_word, refused_word}
use Rattle.syslog_tidy.proofs.Names.{ℕ, ℤ, [], ap, inr, sym, ◌∙◌}
use Rattle.std.proofs.Common.{◌-◌, ◌<◌, ◌≤◌, Bor, map, take, drop, get_or, nat_eq}
use Rattle.std.{proofs.lemmas.List.take_all, specs.Cmp.Lexicographic.bytes_decides, specs.Cmp.Lexicographic.pointwise}
use Rattle.syslog_command_line.specs.Arguments.{AreYearWords, help_word, version_word}
use Rattle.syslog_tidy.specs.Arguments.{AskForLines, AsksFor, OnlyFlag, flags_of}
use Rattle.syslog_tidy.{specs.declared.args.Output.Output, specs.declared.args.Task.Task}
use Rattle.syslog_tidy.specs.declared.args.Output.TheVariants.{Settled, Changed, Refused}
use Rattle.syslog_tidy.specs.declared.args.Task.TheVariants.{Help, Version, Lines}

-- a flag is longer than a year and `--`
no_year : (flag : List ℕ) (after : List (List ℕ)) (year : ℤ) → 4 < length flag → AreYearWords (flag ∷ after) year → ⊥
no_year flag after year long (word, inl alone, named) =
    let same = ap (λ (words : List (List ℕ)). length (get_or words 0 [])) alone in omega (arith, same, named.0.1)
no_year flag after year long (word, inr dashed, named) =
    let same = ap (λ (words : List (List ℕ)). length (get_or words 0 [])) dashed in omega (arith, same)

after_flag : (output : Output) (after more : List (List ℕ)) → flags_of output ++ after ≡ flags_of output ++ more
    → after ≡ more
after_flag Settled after more same = same
after_flag Changed after more same = cc
after_flag Refused after more same = cc

-- so words that begin with one name no year
no_settled : (words after : List (List ℕ)) (output : Output) → words ≡ flags_of output ++ after
    → ((year : ℤ) → ¬ (AreYearWords after year)) → (year : ℤ) → ¬ (AreYearWords words year)
no_settled words after Settled split none year named = none year (rw split at named)
no_settled words after Changed split none year named =
    no_year changed_word after year (omega arith) (rw split at named)
no_settled words after Refused split none year named =
    no_year refused_word after year (omega arith) (rw split at named)

-- words whose flag was read, and that name no year after it, are no arguments
pub no_arguments : (words after : List (List ℕ)) (output : Output) → words ≡ flags_of output ++ after
    → OnlyFlag words output → ((year : ℤ) → ¬ (AreYearWords after year))
    → (other : Output) (year : ℤ) → ¬ (AskForLines words other year)
no_arguments words after output split only none other year (more, same, named) =
    elim (only other more same) [
      | inl here ↦ none year (rw (after_flag output more after (sym (rw here at same) ∙ split)) at named)
      | inr settled ↦ no_settled words after output split none year (rw (← (rw settled at same)) at named)
    ]

-- the words after a first one
pub flag_first : (args : List (Bor (List ℕ))) (d : Bor (List ℕ)) (flag : List ℕ) → 1 ≤ length args
    → pointwise nat_eq (get_or args 0 d).now flag ≡ true
    → map (λ (arg : Bor (List ℕ)). arg.now) args
    ≡ flag ∷ map (λ (arg : Bor (List ℕ)). arg.now) (take (length args - 1) (drop 1 args))
flag_first [] d flag some same = absurd (omega (arith, some))
flag_first (x ∷ xs) d flag some same =
    rw (take_all (length (x ∷ xs) - 1) xs (omega arith), (bytes_decides x.now flag).0 same) refl

-- two words, of which the first is this one
pub two_words : (args : List (Bor (List ℕ))) (d e : Bor (List ℕ)) (first : List ℕ) → length args ≡ 2
    → pointwise nat_eq (get_or args 0 d).now first ≡ true
    → map (λ (arg : Bor (List ℕ)). arg.now) args ≡ first ∷ (get_or args 1 e).now ∷ []
two_words (x ∷ (y ∷ [])) d e first two same =
    ap (λ (word : List ℕ). word ∷ (y.now ∷ [])) ((bytes_decides x.now first).0 same)
two_words args d e first two same = absurd (omega (arith, two))

-- where neither word is alone and there are no arguments, nothing is asked for
pub no_task : (words : List (List ℕ)) → ¬ (words ≡ help_word ∷ []) → ¬ (words ≡ version_word ∷ [])
    → ((other : Output) (year : ℤ) → ¬ (AskForLines words other year)) → (task : Task) → ¬ (AsksFor words task)
no_task words no_help no_version none Help = no_help
no_task words no_help no_version none Version = no_version
no_task words no_help no_version none (Lines output year) = none output year
