use Rattle.syslog_c.proofs.SentLemmas.{sent_fields}
use Rattle.syslog_c.proofs.sent.fields_sent.Goals as goal

pub returns : goal.returns
returns c rules dating text dialect named shown =
    let flags = c.with_flags-fields.ensures.flags in
    sent_fields rules dating text c.args.sent.now dialect c.fields_of-fields.result c.with_flags-fields.result named
    shown c.fields_of-fields.ensures c.with_flags-fields.ensures.stamp flags.0 flags.1
