use Rattle.syslog_command_line.proofs.Names.{◌≡◌, List, ◌∷◌, ◌++◌, MatchOption, Option, Some, None, arith, drop, length}
use Rattle.syslog_command_line.proofs.Names.{refl, ℕ, [], ◌∙◌}
use Rattle.std.{proofs.lemmas.Iterator.Adapters.YieldsList-from_vec, proofs.lemmas.Iterator.items_from_collect}
use Rattle.std.{proofs.lemmas.Result.IfOk-weaker, specs.Option.option_to_list}
use Rattle.syslog_command_line.proofs.words.after_name.Goals as goal

after_first : {X : Type 0} (Is : X → Type 0) (r : Option X) (old new : List X) (m n : ℕ) → n ≡ length new
    → old ≡ option_to_list r ++ new → MatchOption r ((m ≡ 0) × (n ≡ 0)) Is → new ≡ drop 1 old
after_first Is (Some x) old new m n count split steps = rw split refl
after_first Is None old [] m n count split steps = rw split refl
after_first Is None old (x ∷ new) m n count split steps = absurd (omega (arith, count, steps.1))

pub returns : goal.returns
returns c =
    let counted = c.next.new.self.rest.ok.0 in
    let all = items_from_collect c.collect.result c.collect.ensures.ran (YieldsList-from_vec _ refl counted) in
    IfOk-weaker c.collect.result _ _ (λ rest same. same
    ∙ after_first _ c.next.result _ _ _ _ counted c.next.ensures.items c.next.ensures.cases) all
