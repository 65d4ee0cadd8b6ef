-- The program's arguments as words.
use Rattle.syslog_command_line.proofs.Names.{List, length, get_or, MatchOption, Option, Some, subst, arith, IsYear}
use Rattle.syslog_command_line.proofs.Names.{end_word, ◌≡◌, ℕ, ℤ, Bor, [], ◌∷◌, map, None, ap, inl, inr, pos, sym, true}
use Rattle.std.proofs.Common.{◌↔◌, nat_eq}
use Rattle.std.{specs.Cmp.Lexicographic.bytes_decides, specs.Cmp.Lexicographic.pointwise, specs.Str.Parse.digits_value}
use Rattle.syslog_command_line.specs.Arguments.{AreYearWords}

-- one word, and whether it is this one
pub word_alone : (args : List (Bor (List ℕ))) (d : Bor (List ℕ)) (wanted : List ℕ) → length args ≡ 1
    → (pointwise nat_eq (get_or args 0 d).now wanted ≡ true) ↔ (map (λ arg. arg.now) args ≡ wanted ∷ [])
word_alone (x ∷ []) d wanted one = (
  λ same. ap (λ (word : List ℕ). word ∷ []) ((bytes_decides x.now wanted).0 same),
  λ same. (bytes_decides x.now wanted).1 (ap (λ (words : List (List ℕ)). get_or words 0 []) same),
)
word_alone args d wanted one = absurd (omega (arith, one))

-- two words, of which the first is `--`, name the year that the second names
pub year_after : (args : List (Bor (List ℕ))) (d e : Bor (List ℕ)) (year : Option ℤ) → length args ≡ 2
    → pointwise nat_eq (get_or args 0 d).now end_word ≡ true
    → MatchOption year (¬ (IsYear (get_or args 1 e).now))
    (λ (y : ℤ). IsYear (get_or args 1 e).now × (y ≡ pos (digits_value 10 (get_or args 1 e).now)))
    → MatchOption year ((y : ℤ) → ¬ (AreYearWords (map (λ (arg : Bor (List ℕ)). arg.now) args) y))
    (λ (y : ℤ). AreYearWords (map (λ (arg : Bor (List ℕ)). arg.now) args) y)
year_after (x ∷ (y ∷ [])) d e (Some year) two same named =
    (y.now, inr (ap (λ (word : List ℕ). word ∷ (y.now ∷ [])) ((bytes_decides x.now end_word).0 same)), named)
year_after (x ∷ (y ∷ [])) d e None two same named = λ year words.
    elim words.1 [
      | inl alone ↦ absurd (let more = ap length alone in omega (arith, more))
      | inr after ↦
          named (subst IsYear (sym (ap (λ (ws : List (List ℕ)). get_or ws 1 []) after)) words.2.0)
    ]
year_after args d e year two same named = absurd (omega (arith, two))
