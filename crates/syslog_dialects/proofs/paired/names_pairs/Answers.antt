use Rattle.syslog_dialects.proofs.Names.{chars, MatchBool, NamesPairs, subst, sym}
use Rattle.syslog_dialects.proofs.PairedLemmas.{names_told, no_names}
use Rattle.syslog_dialects.proofs.paired.names_pairs.Goals as goal

pub returns-in-Some : goal.returns-in-Some
returns-in-Some c =
    let t = chars c.args.text.now in
    subst (λ b. MatchBool b (NamesPairs t) (NamesPairs t → ⊥)) (sym c.is_some.ensures)
    (names_told c.in-Some.ensures.1 c.paired_list.result c.paired_list.ensures.list)

pub returns-in-None : goal.returns-in-None
returns-in-None c = no_names c.in-None.ensures
