use Rattle.syslog_strict.proofs.Words.{[], ◌∷◌, ◌++◌}
use Rattle.syslog_text.proofs.PieceLemmas.Class.{front_of}
use Rattle.syslog_text.proofs.PieceLemmas.Rules.{no_run, runs_all, runs_joined, runs_more}
use Rattle.syslog_elements.specs.StructuredData.Escapes.{pair}
use Rattle.syslog_strict.proofs.ValidLemmas.{no_unit_after, split_runs}
use Rattle.syslog_strict.proofs.valid.structured_data.param_value.Goals as goal

pub units-init : goal.units-init
units-init c = (c.utf8.text, ([], no_run))

pub returns-in_default : goal.returns-in_default
returns-in_default c =
    let (units, r) = c.units.invariant.1 in
    let (more, plain) = split_runs c.split_run.ensures in (
      units ++ more,
      runs_all (runs_joined r plain) (no_unit_after _ c.split_run.ensures.ends
          c.in_default.ensures.reads),
    )

pub units-preserved : goal.units-preserved
units-preserved c =
    let (units, r) = c.units.invariant.1 in
    let (more, plain) = split_runs c.split_run.ensures in
    let (d, f) = c.in-Some.ensures.reads in (
      c.in-Some.ensures.utf8,
      ((units ++ more) ++ pair d ∷ [], runs_more (runs_joined r plain) (front_of f.piece f.whole f.is)),
    )
