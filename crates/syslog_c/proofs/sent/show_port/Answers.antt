use Rattle.syslog_c.proofs.SentLemmas.{port_fields}
use Rattle.syslog_c.proofs.sent.show_port.Goals as goal

pub returns : goal.returns
returns c text has rules dating line of are =
    port_fields rules dating text line c.args.fields.now c.show.new.stamp of are
    (c.show.ensures text has)
