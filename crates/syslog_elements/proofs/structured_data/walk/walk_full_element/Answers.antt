use Rattle.syslog_elements.proofs.Names.{sym, ◌∙◌, rules}
use Rattle.syslog_elements.proofs.StructuredDataLemmas.{Closing.dead_bytes, Walk.bare_is_not_full}
use Rattle.syslog_elements.proofs.structured_data.walk.walk_full_element.Goals as goal

pub walk_element-requires : goal.walk_element-requires
walk_element-requires g c =
    let dead = dead_bytes c.args.text.now c.utf8.text in search rules

pub returns-in_default-clause-walked : goal.returns-in_default-clause-walked
returns-in_default-clause-walked g c p q v w h = (rw c.in_default.is at c.walk_element.ensures.walked).0 p q v w h.0

pub returns-then-params_len-eq0-clause-walked : goal.returns-then-params_len-eq0-clause-walked
returns-then-params_len-eq0-clause-walked g c =
    bare_is_not_full _ _ _ c.in-Ok.ensures.walked.front (sym c.params_len.ensures ∙ c.if-params_len-eq0.true)
