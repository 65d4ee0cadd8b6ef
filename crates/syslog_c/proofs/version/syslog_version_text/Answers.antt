use Rattle.std.specs.Str.{chars}
use Rattle.syslog_c.proofs.version.syslog_version_text.Goals as goal

pub returns : goal.returns
unfolding chars
returns c = c.text_of.ensures
