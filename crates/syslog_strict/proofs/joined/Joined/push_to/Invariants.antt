use Rattle.syslog_strict.proofs.Words.{◌≡◌, ◌∷◌, [], ◌++◌, drop, get_by_text, flat_map, string_bytes, joined_text}
use Rattle.syslog_strict.proofs.Words.{text_or_none, text_in}
use Rattle.syslog_strict.proofs.joined.Joined.push_to.Given as goal

abbrev pub invariant-loop-id : goal.invariant-loop-id
invariant-loop-id l = text_in l.out ++ flat_map (λ id. 91 ∷ (text_in id
    ++ (text_or_none (get_by_text l.self.params (string_bytes id)) ++ (93 ∷ [])))) (drop l.id-index l.self.ids.items)
    ≡ text_in l.fn.out ++ joined_text l.self
