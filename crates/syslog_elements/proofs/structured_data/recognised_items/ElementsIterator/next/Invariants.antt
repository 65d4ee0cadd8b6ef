use Rattle.syslog_elements.proofs.Names.{◌≡◌, length, shadow, Utf8, chars, IsDead, many, item, strict, OneMeaning}
use Rattle.syslog_elements.proofs.Names.{NoFront, one_value, elements_left}
use Rattle.syslog_elements.specs.StructuredData.Pairs.{pairs}
use Rattle.syslog_elements.proofs.structured_data.recognised_items.ElementsIterator.next.Given as goal

abbrev pub invariant-items : goal.invariant-items
invariant-items l = shadow (Utf8 l.rest) × IsDead (chars l.rest) l.dead × NoFront pairs (chars l.self.pairs.now) ×
    ((m : OneMeaning (many item) (chars l.rest)) ×
    (elements_left l.fn.self ≡ strict (one_value m)) × (elements_left l.self ≡ strict (one_value m)))

abbrev pub decreases-items : goal.decreases-items
decreases-items l = length (chars l.rest)
