use Rattle.syslog_dated_forms.proofs.Names.{◌otherwise◌, address, front_of, host_of, inl, mapped_front, match_map}
use Rattle.syslog_dated_forms.proofs.Names.{no_mapped, no_otherwise, second_front, Text, word_origin}
use Rattle.syslog_dated_forms.proofs.cisco.origin.Goals as goal

pub returns-in-Some : goal.returns-in-Some
returns-in-Some c = let f = c.in-Some.ensures in mapped_front (address otherwise word_origin) Text host_of
    {v = inl _} (front_of f.piece f.whole f.is)

pub returns : goal.returns
returns c = match_map c.word_origin.result
    (λ n. no_mapped (address otherwise word_origin) Text host_of (no_otherwise c.in_default.ensures n))
    (λ x f. mapped_front (address otherwise word_origin) Text host_of (second_front c.in_default.ensures f))
    c.word_origin.ensures
