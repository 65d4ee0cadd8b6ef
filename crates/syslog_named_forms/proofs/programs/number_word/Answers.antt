use Rattle.syslog_named_forms.proofs.Names.{[], ◌++◌, ◌∙◌, ◌∷◌, ◌≡◌, false, is_not_whitespace, refl, subst, Text, told}
use Rattle.syslog_named_forms.proofs.Names.{true}
use Rattle.std.proofs.lemmas.Bool.{and_parts}
use Rattle.syslog_sent.specs.Named.{is_number}
use Rattle.syslog_named_forms.specs.Programs.{names_none, opens_number}
use Rattle.syslog_named_forms.proofs.programs.number_word.Goals as goal

number_opens : (v q : Text) → is_number v ≡ true → opens_number (v ++ q) ≡ true
number_opens [] q h = cc
number_opens (c ∷ v) q h = (and_parts _ _ h).0

pub returns-then-not-opens_number : goal.returns-then-not-opens_number
returns-then-not-opens_number c p q v e ((z, (some, each, ends), is), named) =
    let digit : opens_number (p ++ q) ≡ true = number_opens p q
    (subst (λ (x : Text). is_number x ≡ true) is (and_parts _ _ named).0) in
    absurd (let bad : false ≡ true = c.if-not-opens_number.ensures ∙ rw e digit in cc)

pub returns : goal.returns
returns c = told is_not_whitespace names_none refl c.split_run.result.0 c.split_run.result.1 _ _ c.split_run.ensures
    c.names_none.ensures c.then_some.ensures
