-- The words of std, syslog_text and this crate that several clauses cite, passed on from one place.
-- Declares nothing.
pub use Rattle.std.specs.{Fmt.WritesOnOk, List.AllByRecursion, Ordering.on}
pub use Rattle.std.specs.Iterator.{Drains, YieldsFirstBy, item_count}
pub use Rattle.syslog_text.specs.Pieces.View.{ClonesKeepText, Reads, Recognises, seen, shown, text_of}
pub use Rattle.syslog_text.specs.Pieces.Class.{Front, NoFront, Text, exactly, optional, run, some_run, texted}
pub use Rattle.syslog_text.specs.{Pieces.Lists.many, Text.CharClass.has}
pub use Rattle.syslog_elements.specs.StructuredData.{IsValue, IsValueUnit, forgiving, item, Rfc3164List.rfc3164_list}
pub use Rattle.syslog_elements.specs.StructuredData.Collected.{HasCollected, HasNoted}
pub use Rattle.syslog_elements.specs.StructuredData.Element.{ElementValue, element_text, element_value, elements_text}
pub use Rattle.syslog_elements.specs.StructuredData.Element.{joined_elements, param_value}
pub use Rattle.syslog_elements.specs.StructuredData.Rfc3164List.{BeginsNoList, IsDashBefore, elements_or, full_element}
pub use Rattle.syslog_elements.specs.StructuredData.Visited.{elements_left, list_elements, list_text, params_left}
pub use Rattle.syslog_elements.specs.StructuredData.Visited.{AreItems, IsTallied, IsWalked, Visits, element_seen}
