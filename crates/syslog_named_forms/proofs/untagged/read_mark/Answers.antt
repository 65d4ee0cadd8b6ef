use Rattle.syslog_named_forms.proofs.untagged.read_mark.Goals as goal

pub returns-in-Cef : goal.returns-in-Cef
returns-in-Cef c = rw c.in-Cef.is c.cef.ensures

pub returns-in-Leef : goal.returns-in-Leef
returns-in-Leef c = rw c.in-Leef.is c.leef.ensures

pub returns-in-Repeated : goal.returns-in-Repeated
returns-in-Repeated c = rw c.in-Repeated.is c.repeated.ensures

pub returns-in-PaloAlto : goal.returns-in-PaloAlto
returns-in-PaloAlto c = rw c.in-PaloAlto.is c.palo_alto.ensures

pub returns-in-Pair : goal.returns-in-Pair
returns-in-Pair c = rw c.in-Pair.is c.pair_start.ensures

pub returns-in-Json : goal.returns-in-Json
returns-in-Json c = rw c.in-Json.is c.json.ensures

pub returns-in-Idrac : goal.returns-in-Idrac
returns-in-Idrac c = rw c.in-Idrac.is c.idrac.ensures

pub returns-in-Level : goal.returns-in-Level
returns-in-Level c = rw c.in-Level.is c.level.ensures

pub returns-in-Topics : goal.returns-in-Topics
returns-in-Topics c = rw c.in-Topics.is c.topics.ensures

pub returns-in-Bracket : goal.returns-in-Bracket
returns-in-Bracket c = rw c.in-Bracket.is c.open_bracket.ensures

pub returns-in-Dated : goal.returns-in-Dated
returns-in-Dated c = rw c.in-Dated.is c.dated.ensures
