use Rattle.std.proofs.Common.{inl, ◌∙◌}
use Rattle.syslog_c.proofs.decode.write_decoded.Goals as goal

pub returns-in-Ok : goal.returns-in-Ok
returns-in-Ok c =
    inl (_, inl (c.in-Ok.ensures.1, c.as_bytes.ensures.value ∙ c.in-Ok.ensures.0), c.put.ensures)
