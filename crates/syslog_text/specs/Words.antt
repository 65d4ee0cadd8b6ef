-- The words of std and this crate that several clauses cite, passed on from one place. Declares nothing.
pub use Rattle.std.specs.Char.{is_ascii_digit, is_not_whitespace}
pub use Rattle.std.specs.List.{AllByRecursion}
pub use Rattle.syslog_text.specs.Pieces.{Each, Ends, Front, Reads, Skips, Text, exactly, optional, run, seen, shown}
pub use Rattle.syslog_text.specs.Pieces.{some_run, spaced, texted}
pub use Rattle.syslog_text.specs.Text.{field_seen}
pub use Rattle.syslog_text.specs.Text.CharClass.{has}
pub use Rattle.syslog_text.specs.Text.Digits.{pad3}
