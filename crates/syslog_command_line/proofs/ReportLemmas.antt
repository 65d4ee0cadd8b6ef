-- Messages that are put together without memory, and their writing.
use Rattle.syslog_command_line.proofs.Names.{◌≡◌, ◌++◌, ◌≤◌, ◌∙◌, ℕ, [], List, Option, ap, append_assoc}
use Rattle.syslog_command_line.proofs.Names.{arith, length, rules, subst}
use Rattle.std.proofs.Common.{Bool, ◌+◌, append-nil, codes, sym}
use Rattle.std.{proofs.lemmas.List.length-append, specs.Fmt.Cut.cut_to}
use Rattle.syslog_command_line.specs.Report.{WritesUnlessFailed}

-- a text that has room is not cut
cut_fits : (n : ℕ) (text : List ℕ) → length text ≤ n → cut_to n text ≡ text
unfolding cut_to
cut_fits n text fits = search rules

-- one more part of a text that fits
pub one_part : (n : ℕ) (so_far part rest all new : List ℕ) → so_far ++ (part ++ rest) ≡ all → length all ≤ n
    → new ≡ cut_to n (so_far ++ part) → new ++ rest ≡ all
one_part n so_far part rest all new joined fits added =
    let sum : length so_far + (length part + length rest) ≤ n =
    rw (← joined, length-append so_far (part ++ rest), length-append part rest) at fits in
    let whole : new ≡ so_far ++ part =
    added ∙ cut_fits n (so_far ++ part) (rw (length-append so_far part) (omega (arith, sum))) in
    ap (λ (text : List ℕ). text ++ rest) whole ∙ append_assoc so_far part rest ∙ joined

-- two parts that fit together
pub two_parts : (n : ℕ) (a b none first all : List ℕ) → none ≡ [] → first ≡ cut_to n (none ++ a)
    → all ≡ cut_to n (first ++ b) → length a + length b ≤ n → all ≡ a ++ b
two_parts n a b none first all empty one two fits =
    let begun : first ≡ a = (rw empty at one) ∙ cut_fits n a (omega (arith, fits)) in
    (rw begun at two) ∙ cut_fits n (a ++ b) (rw (length-append a b) fits)

-- what is said of a text is said of the same text
pub same_text : (before after : Option (List ℕ)) (failed : Bool) (text whole : List ℕ) → text ≡ whole
    → WritesUnlessFailed before after failed text → WritesUnlessFailed before after failed whole
same_text before after failed text whole same wrote =
    subst (λ (t : List ℕ). WritesUnlessFailed before after failed t) same wrote

-- one kind of lines in brackets
pub one_kind : (count : List ℕ) → count ++ codes " not UTF-8)" ≡ (count ++ codes " not UTF-8") ++ codes ")"
one_kind count = sym (append_assoc count (codes " not UTF-8") (codes ")"))

-- and two
pub two_kinds : (count other : List ℕ) → count ++ (codes " not UTF-8, " ++ (other ++ codes " too long)"))
    ≡ (count ++ codes " not UTF-8") ++ (((codes ", " ++ (other ++ codes " too long")) ++ []) ++ codes ")")
two_kinds count other =
    let closed : ((codes ", " ++ (other ++ codes " too long")) ++ []) ++ codes ")"
    ≡ codes ", " ++ (other ++ codes " too long)") =
    ap (λ (l : List ℕ). l ++ codes ")") (append-nil (codes ", " ++ (other ++ codes " too long")))
    ∙ ap (λ (l : List ℕ). codes ", " ++ l) (append_assoc other (codes " too long") (codes ")")) in
    sym (ap (λ (l : List ℕ). (count ++ codes " not UTF-8") ++ l) closed
    ∙ append_assoc count (codes " not UTF-8") (codes ", " ++ (other ++ codes " too long)")))
