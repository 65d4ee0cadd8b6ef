use Rattle.syslog_lines.proofs.FrameLaws.{framed, all_framed}
use Rattle.syslog_lines.proofs.laws.written_frames_are_read_back.Goals as goal

pub returns-clause-one : goal.returns-clause-one
returns-clause-one c = framed

pub returns-clause-all : goal.returns-clause-all
returns-clause-all c = all_framed
