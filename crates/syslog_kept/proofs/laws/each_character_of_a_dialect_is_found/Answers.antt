use Rattle.std.proofs.Common.{Some, sym, subst}
use Rattle.syslog_text.specs.Pieces.Class.{Text}
use Rattle.syslog_object.specs.Object.{beside_line, message_json}
use Rattle.syslog_sent.specs.Dialect.{dialect_text}
use Rattle.syslog_kept.specs.Sent.{AccountsForSent}
use Rattle.syslog_kept.proofs.SentLemmas.{sent_accounts}
use Rattle.syslog_kept.proofs.laws.each_character_of_a_dialect_is_found.Goals as goal

pub returns : goal.returns
returns c dates dating dialects variant text dialect m unparsed raw (asked, (is_read, left, is)) none =
    subst (λ (x : Text).
    AccountsForSent dates dialect (message_json m (beside_line (dialect_text (Some dialect)) x raw)) text)
    (sym none) (sent_accounts dates is_read text dialect m raw is)
