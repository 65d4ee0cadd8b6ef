-- How clauses see what the readers of names return.
use Rattle.std.specs.Prelude.{[], Option, MatchOption}
use Rattle.syslog_text.specs.Pieces.Class.{Text, Class, Front, NoFront}
use Rattle.syslog_text.specs.Pieces.View.{seen, shown}
use Rattle.syslog_sent.specs.Named.{NamedTexts, ProgramText}
use Rattle.syslog_sent.specs.declared.named.Named.{Named}
use Rattle.syslog_sent.specs.declared.named.Program.{Program}

abbrev pub program_seen : Program → ProgramText
program_seen p = record { name = shown p.name; process = seen p.process }

abbrev pub named_value : Named → NamedTexts
named_value n = record {
  hostname = seen n.hostname;
  appname = seen n.appname;
  process = seen n.process;
  msg = shown n.msg;
}

-- the names and the message that the whole text has by this class, or that it has none
abbrev pub Names : (C : Class) → (Named → C.Value) → Text → Option Named → Type 0
Names C view text r = MatchOption r (NoFront C text) (λ n. Front C text [] (view n))
