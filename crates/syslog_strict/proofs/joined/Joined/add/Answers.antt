use Rattle.syslog_strict.proofs.Words.{ap, ◌∙◌, ◌++◌, btree_map_updates_text, get_by_text, flat_map, chars, Text}
use Rattle.syslog_strict.proofs.Words.{param_text, element_seen, converted_element, converted_name}
use Rattle.std.proofs.Common.{string_bytes}
use Rattle.syslog_strict.proofs.{ElementLemmas.joined_more, TextLemmas.started}
use Rattle.syslog_strict.proofs.joined.Joined.add.Goals as goal

pub returns-in-Ok : goal.returns-in-Ok
returns-in-Ok c = λ seen h. joined_more c.args.self.now _ (λ q. get_by_text c.take.new.self.params q) seen
    (converted_element (element_seen c.args.element.now)) c.push_name.new.out c.push_params.new.out h
    (started _ _ _ c.in_ok-push_name.ensures (ap chars c.new-id.ensures.bytes) ∙ ap converted_name c.id.ensures)
    (c.in_ok-push_params.ensures ∙ ap (λ (x : Text). x
    ++ flat_map param_text (converted_element (element_seen c.args.element.now)).params)
    c.in_ok-params.ensures.params)
    c.in_ok-params.ensures.ids c.in_ok-params.ensures.others
    (btree_map_updates_text (string_bytes c.push_name.new.out) c.take.new.self.params
    c.insert.new.self _ c.in-Ok.ensures.updates)
