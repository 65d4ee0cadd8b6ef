use Rattle.syslog_elements.proofs.Names.{◌≡◌, true, take, nat_eq, count_by, list_all, text_of, param_value, param_eq}
use Rattle.syslog_elements.proofs.structured_data.equality.are_as_frequent.Given as goal

abbrev pub invariant-loop-param : goal.invariant-loop-param
invariant-loop-param g l =
    list_all (λ p. nat_eq (count_by (λ q. param_eq (param_value (text_of g.S.AsStr.text) p) (param_value (text_of
    g.S.AsStr.text) q)) l.a) (count_by (λ q. param_eq (param_value (text_of g.S.AsStr.text) p) (param_value (text_of
    g.S.AsStr.text) q)) l.b)) (take l.param-index l.a) ≡ true
