use Rattle.syslog_pieces.proofs.Names.{ap, text_of, procid_value}
use Rattle.syslog_pieces.proofs.ProcIdLemmas.{name_told}
use Rattle.syslog_pieces.proofs.procid.is_canonical_process.Goals as goal

pub returns-then-is_canonical_word : goal.returns-then-is_canonical_word
returns-then-is_canonical_word g c =
    name_told _ _ _ _ _ c.as_str-name.ensures (ap (procid_value (text_of g.S.AsStr.text)) c.in-Name.is)
    c.is_canonical_word.ensures c.if-is_canonical_word.true c.names_number.ensures
