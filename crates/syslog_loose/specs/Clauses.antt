-- The definitions of this crate that its clauses cite, passed on from one place. Declares nothing.
pub use Rattle.syslog_loose.specs.Bodies.Cases.{incomplete, printed_number}
pub use Rattle.syslog_loose.specs.Bodies.Jumps.{CutsColons, EndsColons, IsDashed, PassesDashes, colons, colons_before}
pub use Rattle.syslog_loose.specs.Bodies.Jumps.{message_end, past_colons, tail_text, with_msg}
pub use Rattle.syslog_loose.specs.Bodies.Start.{BeginsWith, BeginsWithout, IsAfterPriority}
pub use Rattle.syslog_loose.specs.Bodies.View3164.{FieldsAreRead, NamesHost, NamesProgram, names_value}
pub use Rattle.syslog_loose.specs.Bodies.View5424.{FitsNames, FitsSpaced, ReadsHeader, ReadsNames5424, ReadsSpaced}
pub use Rattle.syslog_loose.specs.Canonical.{AreElements, IsBounded, IsCanonical, fields_value}
pub use Rattle.syslog_loose.specs.DashChange.{BeginsDashChange, HasDashChange, ReadsDifferently, WasCanonical}
pub use Rattle.syslog_loose.specs.{DashChange.WasUnreadable, EqualLaws.message_equivalence}
pub use Rattle.syslog_loose.specs.{DateForm.HasDateForm, OneLine.IsOneLine, declared.line.Line.Line}
pub use Rattle.syslog_loose.specs.{Equal.message_eq, Equal.stamp_eq, Line.KnowsForm, Line.line_value}
pub use Rattle.syslog_loose.specs.Quirks.{HasQuirksAlone, HasNoColon, HasNoQuirk, IsNearlyCanonical, IsOfMonthDate}
pub use Rattle.syslog_loose.specs.{LineTexts.IsLine3164, LineTexts.IsLine5424, Rows.IsAfterStamp, Rows.stamped_row}
pub use Rattle.syslog_loose.specs.Message.{MessageValue, message_value, with_elements}
pub use Rattle.syslog_loose.specs.Passes.{AnswersPass, EndsOnce, HasRank, IsStable, IsLater, PassesLead, Prints}
pub use Rattle.syslog_loose.specs.Passes.{ReachesRank, WritesRound, round_answer}
pub use Rattle.syslog_loose.specs.Printed.{elements_text, printed, rest_3164, rest_5424, rest_text, spaced_elements}
pub use Rattle.syslog_loose.specs.ReadBack.{AnswersAgain, AnswersItself, FieldsAsRead, ReadsProtocol}
pub use Rattle.syslog_loose.specs.Reading.{Answers, AnswersEachMonth, AnswersOrWhole, AsksYear, InYear, IsOnlyRead}
pub use Rattle.syslog_loose.specs.Reading.{IsQuoted, IsRead, IsUnreadable, dash_rule}
pub use Rattle.syslog_loose.specs.Rfc3164.{IsRead3164, Names3164, Quotes3164, Resolves, rfc3164_row}
pub use Rattle.syslog_loose.specs.Rfc5424.{IsNot5424, IsRead5424, rfc5424_row}
pub use Rattle.syslog_loose.specs.Settling.{IsFirstSettled, IsRound, IsSettled, NoneSettled, Settles, Weighs, answer_in}
pub use Rattle.syslog_loose.specs.TagForm.{IsForm, IsIdOf, IsNoForm}
pub use Rattle.syslog_loose.specs.Visit.{IsCompleted, IsLineOf, Made, MadeOf}
pub use Rattle.syslog_loose.specs.declared.{fault.ParseFault.TheVariants.Invalid, message.Protocol.TheVariants.RFC5424}
pub use Rattle.syslog_loose.specs.declared.{message.Message.Message, message.Protocol.Protocol, variant.Variant.Variant}
