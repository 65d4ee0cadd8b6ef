use Rattle.std.proofs.Common.{◌≡◌, ◌↔◌, map}
use Rattle.std.specs.List.{AllByRecursion}
use Rattle.std.specs.Str.{chars}
use Rattle.syslog_text.specs.Pieces.Class.{Text}
use Rattle.syslog_text.specs.Pieces.View.{shown}
use Rattle.syslog_elements.specs.StructuredData.Element.{element_value, param_value}
use Rattle.syslog_elements.specs.StructuredData.Escapes.{IsUnescaped}
use Rattle.syslog_tests.proofs.tests.callers.alerts.fires.Given as goal

-- the parameter is another than that of the rule
abbrev pub IsOther : Text → Text → Text × Text → Type 0
IsOther name value p = (p.0 ≡ name) → IsUnescaped p.1 value → ⊥

-- each parameter that is left is another exactly where each of the element is
abbrev pub invariant-loop-item : goal.invariant-loop-item
invariant-loop-item l =
    (goal.iterator-loop-item).can_next l.item-iterator
    × (goal.iterator-loop-item).is_finite l.item-iterator
    × (AllByRecursion (IsOther (chars l.rule.name.now) (chars l.rule.value.now))
    (map (param_value (λ s. shown s)) l.item-iterator)
    ↔ AllByRecursion (IsOther (chars l.rule.name.now) (chars l.rule.value.now))
    (element_value (λ s. shown s) l.element).params)
