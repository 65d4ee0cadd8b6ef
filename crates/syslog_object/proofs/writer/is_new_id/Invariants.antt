use Rattle.syslog_object.proofs.Names.{drop, map, IsNewKey}
use Rattle.syslog_object.proofs.writer.is_new_id.Given as goal

abbrev pub invariant-loop-other : goal.invariant-loop-other
invariant-loop-other l =
    IsNewKey l.id (map (λ s. s.now) (drop l.other-index l.ids)) → IsNewKey l.id (map (λ s. s.now) l.ids)
