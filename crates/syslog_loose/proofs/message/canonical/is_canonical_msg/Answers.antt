use Rattle.syslog_loose.proofs.{CanonicalLemmas.visible_told, Names.rules}
use Rattle.syslog_loose.proofs.message.canonical.is_canonical_msg.Goals as goal

pub returns-then-begins_unblank : goal.returns-then-begins_unblank
returns-then-begins_unblank c = search (rules, visible_told)
