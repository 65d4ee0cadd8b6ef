use Rattle.std.proofs.Common.{◌≡◌, ◌↔◌, ℕ, List, [], ◌∷◌, map, Some, Result, Ok, sym, ap, subst, ◌∙◌}
use Rattle.std.specs.Prelude.{String, string_bytes}
use Rattle.std.specs.Borrow.{Bor}
use Rattle.std.specs.Global.{Global}
use Rattle.std.specs.List.{AllByRecursion}
use Rattle.std.specs.Str.{chars}
use Rattle.std.specs.declared.alloc.AllocError.{AllocError}
use Rattle.syslog_text.specs.Pieces.Class.{Text}
use Rattle.syslog_text.specs.Pieces.View.{shown}
use Rattle.syslog_elements.specs.StructuredData.Element.{param_value}
use Rattle.syslog_elements.specs.StructuredData.Params.{IsParamItem, NextParam}
use Rattle.syslog_elements.proofs.StructuredDataLemmas.Units.{unescaped_one}
use Rattle.syslog_tests.proofs.tests.callers.alerts.fires.Invariants.{IsOther}
use Rattle.syslog_tests.proofs.tests.callers.alerts.fires.Goals as goal

abbrev Shown : Type 0
Shown = Bor (List ℕ)

abbrev AreOther : Text → Text → List (Shown × Shown) → Type 0
AreOther name value ps = AllByRecursion (IsOther name value) (map (param_value (λ s. shown s)) ps)

-- an item that is no match leaves the question to those after it
passed : (name value : Text) (old new : List (Shown × Shown)) (item : Result (Bor Shown × String Global) AllocError)
    (found : Bor Shown × String Global)
    → NextParam (λ s. s.now) old (Some item) new → item ≡ Ok found
    → ((shown found.0.now ≡ name) × (chars (string_bytes found.1) ≡ value) → ⊥)
    → AreOther name value old ↔ AreOther name value new
passed name value [] new item found n e k = absurd (let none = n.0 in cc)
passed name value (p ∷ rest) new item found n e k =
    let (names, unescaped) =
    subst (λ (r : Result (Bor Shown × String Global) AllocError). IsParamItem (λ s. s.now) p r) e n.0 in
    let other : IsOther name value (param_value (λ s. shown s) p) =
    λ same i. k (ap (λ (x : Shown). shown x) names ∙ same, unescaped_one _ _ _ unescaped i) in
    subst (λ (xs : List (Shown × Shown)). AreOther name value (p ∷ rest) ↔ AreOther name value xs) (sym n.1)
    ((λ h. h.1), (λ h. (other, h)))

pub loop-item-preserved : goal.loop-item-preserved
loop-item-preserved c =
    let step = passed _ _ _ _ _ (c.in_ok-name.name, c.in_ok-name.value) c.in-Some.ensures.steps c.in_ok-name.was
    (λ both. let t = c.is_named.ensures.1 (both.0, ap chars c.as_str.ensures.value ∙ both.1) in let f = c.if-is_named in
    cc) in
    let stays = c.loop-item.invariant.2 in
    (tt, tt, ((λ h. stays.0 (step.1 h)), (λ h. step.0 (stays.1 h))))
