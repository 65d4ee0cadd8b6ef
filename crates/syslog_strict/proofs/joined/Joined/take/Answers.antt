use Rattle.syslog_strict.proofs.Words.{◌≡◌, cond, None, subst, ap, ◌∙◌, btree_map_updates_text, chars-nil, get_by_text}
use Rattle.syslog_strict.proofs.Words.{bytes_eq, chars, text_or_none}
use Rattle.syslog_strict.proofs.joined.Joined.take.Goals as goal

pub returns-in-Some-clause-others : goal.returns-in-Some-clause-others
returns-in-Some-clause-others c = λ q. subst
    (λ bs. get_by_text c.remove.new.self q ≡ cond (bytes_eq bs q) None (get_by_text c.args.self.now.params q))
    c.as_str.ensures.value
    (btree_map_updates_text c.as_str.result.now c.args.self.now.params c.remove.new.self _ c.in-Some.ensures.updates q)

pub returns-in_ok-push-in-None-clause-params : goal.returns-in_ok-push-in-None-clause-params
returns-in_ok-push-in-None-clause-params c = ap chars c.new.ensures.bytes ∙ chars-nil
    ∙ ap text_or_none (subst (λ bs. None ≡ get_by_text c.args.self.now.params bs) c.as_str.ensures.value
    c.in-None.ensures.value)
