use Rattle.syslog_elements.proofs.Names.{rules, ◌≡◌, [], ◌∷◌, refl, chars, Text, IsDashBefore}
use Rattle.syslog_elements.proofs.structured_data.rfc3164_list.after_dash.Goals as goal

pub returns-in_err-rest : goal.returns-in_err-rest
returns-in_err-rest c =
    let n : (q : Text) → chars c.args.text.now ≡ 45 ∷ q → IsDashBefore c.args.rule q
    → ⊥ = λ q e a. c.in_err-rest.ensures (45 ∷ []) q tt e refl in
    search rules
