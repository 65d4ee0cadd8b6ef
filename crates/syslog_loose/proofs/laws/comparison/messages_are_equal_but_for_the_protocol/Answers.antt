use Rattle.syslog_loose.proofs.Names.{◌∙◌, ap, sym, text_of, MessageValue, message_value}
use Rattle.std.specs.Cmp.{partial_equiv_from_equiv}
use Rattle.syslog_loose.specs.{Equal.message_eq, EqualLaws.message_equivalence}
use Rattle.syslog_loose.proofs.laws.comparison.messages_are_equal_but_for_the_protocol.Goals as goal

pub returns-clause-reflexive : goal.returns-clause-reflexive
returns-clause-reflexive g c a = message_equivalence.refl (message_value (text_of g.S.AsStr.text) a)

pub returns-clause-symmetric : goal.returns-clause-symmetric
returns-clause-symmetric g c a b e = sym (message_equivalence.symm (message_value (text_of g.S.AsStr.text) a)
    (message_value (text_of g.S.AsStr.text) b)) ∙ e

pub returns-clause-transitive : goal.returns-clause-transitive
returns-clause-transitive g c a b d e f =
    (partial_equiv_from_equiv message_equivalence).trans (message_value (text_of g.S.AsStr.text) a)
    (message_value (text_of g.S.AsStr.text) b) (message_value (text_of g.S.AsStr.text) d) e f

pub returns-clause-same : goal.returns-clause-same
returns-clause-same g c a b e =
    let value = message_value (text_of g.S.AsStr.text) a in
    ap (λ (v : MessageValue). message_eq value v) (sym e) ∙ message_equivalence.refl value
