-- The printed text of a message, which is the form of RFC 5424 section 6, or of RFC 3164 section 4.
use Rattle.std.specs.Prelude.{◌+◌, ◌*◌, ◌∷◌, ◌++◌, decimal}
use Rattle.syslog_loose.specs.Words.{facility_number, severity_number, dash, ProcId, OffsetTimestamp, element_text}
use Rattle.syslog_loose.specs.Words.{ℕ, List, [], Option, None, Some, option_map_or, flat_map, Text, ElementValue}
pub use Rattle.syslog_elements.specs.StructuredData.Element.{joined_elements, elements_text}
use Rattle.syslog_pieces.specs.{ProcId.procid_text, Timestamp.Printed.printed_stamp}
pub use Rattle.syslog_pieces.specs.ProcId.{process_text}
pub use Rattle.syslog_text.specs.Text.{name_text}
use Rattle.syslog_loose.specs.declared.message.Protocol.TheVariants.{RFC3164, RFC5424}
use Rattle.syslog_loose.specs.Message.{MessageValue}

abbrev pub timestamp_text : Option OffsetTimestamp → Text
timestamp_text None = dash
timestamp_text (Some s) = printed_stamp s.instant.nanosecond s.offset.seconds

-- the elements and a space, or nothing where there are none
abbrev pub spaced_elements : List ElementValue → Text
spaced_elements [] = []
spaced_elements (e ∷ es) = flat_map element_text (e ∷ es) ++ (32 ∷ [])

-- `app[process]: `, `app: `, or `: ` where there is no app name
abbrev pub tag_text : Option Text → Option (ProcId Text) → Text
tag_text None p = 58 ∷ 32 ∷ []
tag_text (Some a) None = a ++ (58 ∷ 32 ∷ [])
tag_text (Some a) (Some p) = a ++ (91 ∷ (procid_text p ++ (93 ∷ 58 ∷ 32 ∷ [])))

-- the composed priority; an absent facility counts as 5 (syslog), an absent severity as 7 (debug)
abbrev pub priority_of : MessageValue → ℕ
priority_of m = option_map_or facility_number m.facility 5 * 8 + option_map_or severity_number m.severity 7

-- what is printed of a message of RFC 5424 after its timestamp
abbrev pub rest_5424 : MessageValue → Text
rest_5424 m =
    32 ∷ (name_text m.hostname ++ (32 ∷ (name_text m.appname ++ (32 ∷ (process_text m.procid
    ++ (32 ∷ (name_text m.msgid ++ (32 ∷ (elements_text m.structured_data ++ (32 ∷ m.msg))))))))))

-- and of one of RFC 3164
abbrev pub rest_3164 : MessageValue → Text
rest_3164 m =
    32 ∷ (name_text m.hostname ++ (32 ∷ (tag_text m.appname m.procid
    ++ (spaced_elements m.structured_data ++ m.msg))))

-- what is printed of a message after its timestamp
abbrev pub rest_text : MessageValue → Text
rest_text m = elim m.protocol [ RFC5424 version ↦ rest_5424 m | RFC3164 ↦ rest_3164 m ]

-- `<priority>version timestamp host app process id elements msg`
unfoldable pub printed_5424 : ℕ → MessageValue → Text
printed_5424 version m =
    60 ∷ (decimal (priority_of m) ++ (62 ∷ (decimal version ++ (32 ∷ (timestamp_text m.timestamp ++ rest_5424 m)))))

-- `<priority> timestamp host app[process]: elements msg`, without the message id
unfoldable pub printed_3164 : MessageValue → Text
printed_3164 m =
    60 ∷ (decimal (priority_of m) ++ (62 ∷ 32 ∷ (timestamp_text m.timestamp ++ rest_3164 m)))

-- the printed text of a message
abbrev pub printed : MessageValue → Text
printed m = elim m.protocol [ RFC5424 version ↦ printed_5424 version m | RFC3164 ↦ printed_3164 m ]
