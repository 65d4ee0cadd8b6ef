use Rattle.syslog_strict.proofs.Words.{arith, ap, refl, map, ◌∙◌, chars, shown, is_among}
use Rattle.syslog_strict.proofs.ValidLemmas.{seen_put}
use Rattle.syslog_strict.proofs.ids.Ids.insert.Goals as goal

pub returns-in-Ok : goal.returns-in-Ok
returns-in-Ok c = λ seen h. seen_put c.args.self.now _ seen c.args.id c.utf8.id h c.in-Ok.is_new c.in-Ok.ensures.added
    (c.if-is_one_of.ensures ∙ ap (λ xs. is_among (chars c.args.id.now) (map (λ s. shown s) xs))
    c.as_slice.ensures.value)
    (grind arith) refl c.in-Ok.ensures.updates.0
