use Rattle.syslog_dialects.proofs.Names.{◌≡◌, inl, IsOrdinary, IsSome, MatchBool, rules, subst, sym, true}
use Rattle.syslog_dialects.proofs.PairedLemmas.{nothing_paired}
use Rattle.syslog_dialects.proofs.ordinary.is_ordinary.Goals as goal

pub returns-then-is_none : goal.returns-then-is_none
returns-then-is_none c =
    let line = c.args.line.now in
    let told : c.is_none.result ≡ true = search rules in
    let version : IsSome line.version = search rules in
    subst (λ b. MatchBool b (IsOrdinary line) (IsOrdinary line → ⊥)) (sym told)
    (inl (version, nothing_paired line c.unparsed.result (search rules) c.unparsed.ensures))
