-- Equality of messages is an equivalence.
use Rattle.syslog_loose.specs.Words.{facility_number, severity_number, nat_list_eq_equiv, options_equiv, lists_equiv}
use Rattle.std.specs.Cmp.{IsEquivalence, on_equiv, and_equiv, int_eq_equiv, nat_eq_equiv}
use Rattle.syslog_pieces.specs.ProcId.EqualLaws.{procid_equivalence}
use Rattle.syslog_elements.specs.StructuredData.EqualLaws.{element_equivalence}
use Rattle.syslog_loose.specs.Equal.{message_eq}

pub message_equivalence : IsEquivalence message_eq
message_equivalence =
    and_equiv (on_equiv (λ m. m.facility) (options_equiv (on_equiv facility_number nat_eq_equiv)))
    (and_equiv (on_equiv (λ m. m.severity) (options_equiv (on_equiv severity_number nat_eq_equiv)))
    (and_equiv (on_equiv (λ m. m.timestamp) (options_equiv (on_equiv (λ t. t.instant.nanosecond) int_eq_equiv)))
    (and_equiv (on_equiv (λ m. m.hostname) (options_equiv nat_list_eq_equiv))
    (and_equiv (on_equiv (λ m. m.appname) (options_equiv nat_list_eq_equiv))
    (and_equiv (on_equiv (λ m. m.procid) (options_equiv procid_equivalence))
    (and_equiv (on_equiv (λ m. m.msgid) (options_equiv nat_list_eq_equiv))
    (and_equiv (on_equiv (λ m. m.structured_data) (lists_equiv element_equivalence))
    (on_equiv (λ m. m.msg) nat_list_eq_equiv))))))))
