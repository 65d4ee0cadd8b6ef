use Rattle.syslog_named_forms.proofs.Names.{◌otherwise◌, first_front, mapped_front, match_map, name, no_mapped}
use Rattle.syslog_named_forms.proofs.Names.{no_otherwise, second_front, Text, words}
use Rattle.syslog_named_forms.specs.Unified.{either_name}
use Rattle.syslog_named_forms.proofs.unified.entry_name.Goals as goal

pub returns-in-Some : goal.returns-in-Some
returns-in-Some c = mapped_front (words otherwise name) Text either_name (first_front c.in-Some.ensures)

pub returns-in-None : goal.returns-in-None
returns-in-None c = match_map c.name.result
    (λ n. no_mapped (words otherwise name) Text either_name (no_otherwise c.in-None.ensures n))
    (λ x f. mapped_front (words otherwise name) Text either_name (second_front c.in-None.ensures f)) c.name.ensures
