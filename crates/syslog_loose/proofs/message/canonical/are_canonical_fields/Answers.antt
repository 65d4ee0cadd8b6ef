use Rattle.syslog_loose.proofs.Names.{◌↔◌, refl, subst, sym, IsTrue, text_of, last_is, IsCanonicalFor}
use Rattle.syslog_loose.proofs.Names.{IsCanonicalInBoth, dash_rule, fields_value}
use Rattle.syslog_loose.proofs.message.canonical.are_canonical_fields.Goals as goal

pub returns-in-RFC5424 : goal.returns-in-RFC5424
returns-in-RFC5424 g c es are canonical =
    let m = fields_value (text_of g.S.AsStr.text) c.args.fields.now es in
    let r = c.are_canonical_rfc5424.result in
    subst (λ p. IsTrue r ↔ (IsCanonicalInBoth m × IsCanonicalFor dash_rule p m)) (sym c.in-RFC5424.is)
    (last_is r ((c.if-not-are_canonical_in_both.ensures es canonical).0 refl) (c.are_canonical_rfc5424.ensures es))
