-- Texts with JSON's escapes, a piece after the other.
use Rattle.syslog_object.proofs.Names.{is_plain, PlainBetween, unescaped, true, List, ◌++◌, length}
use Rattle.syslog_object.proofs.Names.{take, arith, escape, ◌≡◌, ℕ, ◌<◌, ◌≤◌, ap, sym, ◌∙◌}
use Rattle.std.proofs.{Common.get_or-take, lemmas.Grind.flat_map-append}
use Rattle.std.{proofs.lemmas.List.length-take, specs.Fmt.digits, specs.Prelude.⊤}
use Rattle.json.{proofs.Printed.Plain.escape_on_plain, specs.Print.escape_byte}
use lib.Utf8.{encode}
use Rattle.std.proofs.lemmas.Bool.{true≢false}
use Rattle.syslog_object.proofs.UnescapedLemmas.{stay}

-- what the bytes of a literal's members unfold
unfoldable pub members_on_literals : ⊤
unfolding escape_byte digits encode
members_on_literals = tt

-- no byte needs an escape
abbrev pub Plain : List ℕ → Type 0
Plain xs = PlainBetween xs 0 (length xs)

pub plain_escape : (xs : List ℕ) → Plain xs → escape xs ≡ xs
plain_escape xs plain = escape_on_plain true xs plain

pub plain_front : (xs : List ℕ) (n : ℕ) → n ≤ length xs → PlainBetween xs 0 n → Plain (take n xs)
plain_front xs n within plain k low high =
    let few : k < n = omega (arith, length-take n xs) in
    ap is_plain (get_or-take n xs k 0 few) ∙ plain k low few

pub plain_unescaped : (xs rest : List ℕ) → Plain xs → unescaped (xs ++ rest) ≡ xs ++ unescaped rest
plain_unescaped xs rest plain =
    stay xs rest (λ k low is. true≢false (sym (plain k (omega arith) low) ∙ ap is_plain is))

pub escape-append : (xs ys : List ℕ) → escape (xs ++ ys) ≡ escape xs ++ escape ys
escape-append xs ys = flat_map-append escape_byte xs ys
