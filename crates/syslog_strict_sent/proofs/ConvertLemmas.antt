-- What is written of a text that is read as its sender meant it.
use Rattle.std.proofs.Common.{◌≡◌, Bool, Option, Some, None, Result, Ok, Err, sym, subst, ◌∙◌}
use Rattle.std.specs.Prelude.{MatchResult}
use Rattle.syslog_text.specs.Pieces.Class.{Text}
use Rattle.syslog_pieces.specs.Timestamp.Zone.{Dating}
use Rattle.syslog_loose.proofs.ReadingLemmas.{invalid_or_memory}
use Rattle.syslog_loose.specs.Line.{line_value}
use Rattle.syslog_loose.specs.Message.{MessageValue}
use Rattle.syslog_loose.specs.Printed.{printed}
use Rattle.syslog_loose.specs.Unparsed.{IsLeftUnparsed}
use Rattle.syslog_loose.specs.declared.dates.Dates.{Dates}
use Rattle.syslog_loose.specs.declared.fault.ParseFault.{ParseFault}
use Rattle.syslog_loose.specs.declared.fault.ParseFault.TheVariants.{Memory}
use Rattle.syslog_loose.specs.declared.line.Line.{Line}
use Rattle.syslog_loose.specs.declared.variant.Variant.{Variant}
use Rattle.syslog_dialects.proofs.MessageLemmas.{sent_msg, sent_process}
use Rattle.syslog_dialects.proofs.SentReadingLemmas.{read_not_unsent, read_once}
use Rattle.syslog_dialects.specs.SentReading.{IsReadSent, IsSentIn, LeavesSent}
use Rattle.syslog_sent.specs.declared.dialect.Dialect.{Dialect}
use Rattle.syslog_strict.proofs.ConversionLaws.{HasReadMsg, read_whole, strict_text}
use Rattle.syslog_strict.specs.{Call.IsLineText, Call.NoSyslogMsg, Conversion.converted, Conversion.whole}
use Rattle.syslog_strict_sent.specs.Converted.{ConvertsSent, IsSentText}

-- the message of a dialect's line has a message part that is read back
sent_read : (dates : Dates) (is_read : Bool) (text : Text) (dialect : Dialect) (m : MessageValue)
    → IsSentIn dates is_read text dialect m → HasReadMsg m
sent_read dates is_read text dialect m is =
    let msg = sent_msg dates is_read text dialect m is in
    record { front = msg.0; end = msg.1; process = sent_process dates is_read text dialect m is }

module _ (dates : Dates) (dating : Dating) (dialects : Bool) (variant : Variant) (input : Text) where
  -- so has that of any, with what was left unparsed before it
  read_msg_sent : (dialect : Option Dialect) (m : MessageValue) (u : Text)
      → IsReadSent dates dating dialects variant input dialect m → LeavesSent dialect variant input u
      → HasReadMsg (whole m u)
  read_msg_sent None m u (only, kept) leaves = read_whole variant dating input m u only.read leaves
  read_msg_sent (Some dialect) m u (asked, (is_read, left, is)) leaves =
      subst (λ (x : Text). HasReadMsg (whole m x)) (sym leaves) (sent_read dates is_read input dialect m is)

  sent_text : (text : Text) (dialect : Option Dialect) (m : MessageValue) (u : Text)
      → IsReadSent dates dating dialects variant input dialect m → LeavesSent dialect variant input u
      → text ≡ printed (converted (whole m u)) → IsSentText dates dating dialects variant input text
  sent_text text dialect m u read leaves e = record {
    dialect = dialect;
    message = m;
    read = read;
    only = λ other n too. read_once dates dating dialects variant input dialect other m n read too;
    unparsed = u;
    leaves = leaves;
    is = strict_text (whole m u) text (read_msg_sent dialect m u read leaves) e;
  }

  -- the line as which the text is read, written
  pub line_converts : (text : Text) (dialect : Option Dialect) (line : Line) (r : Result (Unit {0}) ParseFault)
      → NoSyslogMsg input → IsReadSent dates dating dialects variant input dialect (line_value line)
      → ((u : Text) → IsLeftUnparsed line u → LeavesSent dialect variant input u)
      → MatchResult r (λ _. IsLineText line text) (λ fault. fault ≡ Memory)
      → ConvertsSent dates dating dialects variant input r text
  line_converts text dialect line (Ok x) other read leaves (u, left, e) =
      (other, sent_text text dialect (line_value line) u read (leaves u left) e)
  line_converts text dialect line (Err fault) other read leaves memory = (
    other,
    (
      λ invalid. absurd (invalid_or_memory (sym memory ∙ invalid)),
      λ unsent. absurd (read_not_unsent dates dating dialects variant input dialect (line_value line) read unsent),
    ),
  )
