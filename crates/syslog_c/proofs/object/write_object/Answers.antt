use Rattle.syslog_c.proofs.Words.{Option, inl, inr, refl, rules, subst, Text, line_value}
use Rattle.std.specs.Str.{chars}
use Rattle.syslog_loose.specs.Unparsed.{IsLeftUnparsed}
use Rattle.syslog_c.proofs.LineLemmas.{on_line_map, tried_map}
use Rattle.syslog_c.proofs.TextLemmas.{puts_more}
use Rattle.syslog_c.specs.Texts.{PutsObject, raw_text}
use Rattle.syslog_c.proofs.object.write_object.Goals as goal

pub returns-in-Ok : goal.returns-in-Ok
returns-in-Ok c =
    let it = c.in-Ok.sent in
    let m = line_value it.line in
    let puts : PutsObject it.dialect m (IsLeftUnparsed it.line) (raw_text c.args.raw (chars c.in-Ok.text.now))
    c.args.room.now c.put_object.new.room c.put_object.new.needed c.put_object.result =
    subst (λ (raw : Option Text). PutsObject it.dialect m (IsLeftUnparsed it.line) raw c.args.room.now
    c.put_object.new.room c.put_object.new.needed c.put_object.result) (search rules) c.put_object.ensures in
    inr (inr (tried_map _ _ (λ rules dating text read. inl (
      it.dialect,
      m,
      read.1,
      puts_more it.dialect m _ _ _ _ _ _ _ read.2 (subst (λ (t : Text).
          PutsObject it.dialect m (IsLeftUnparsed it.line) (raw_text c.args.raw t) c.args.room.now
          c.put_object.new.room c.put_object.new.needed c.put_object.result) read.0 puts),
    )) c.in-Ok.ensures))

pub returns-in-Err : goal.returns-in-Err
returns-in-Err c = on_line_map _ _ _ (λ left. (refl, refl))
    (λ rules dating text refused. inr (refused, (refl, refl))) c.in-Err.ensures
