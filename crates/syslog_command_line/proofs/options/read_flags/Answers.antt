use Rattle.std.proofs.lemmas.Result.{err_from_is_err_and}
use Rattle.syslog_command_line.proofs.OptionLemmas.{ReadSoFar-end, ReadSoFar-more, ReadSoFar-wrong}
use Rattle.syslog_command_line.proofs.options.read_flags.Goals as goal

pub returns-in_err-flag : goal.returns-in_err-flag
returns-in_err-flag c =
    let p = err_from_is_err_and c.from_residual.result c.from_residual.ensures.1 in
    let (among, first, none) = c.in_err-flag.ensures in
    rw (p.1, p.2) (ReadSoFar-wrong _ _ _ _ _ c.flags.invariant among first none)

pub flags-preserved : goal.flags-preserved
flags-preserved c = ReadSoFar-more _ _ _ _ _ _ c.in-Some.flag c.in-Some.value c.flags.invariant
    (rw c.in-Some.is at c.in_ok-flag.ensures) c.add.ensures

pub returns : goal.returns
returns c = ReadSoFar-end _ _ _ _ c.flags.invariant (rw c.in_default.is at c.in_ok-flag.ensures)
