use Rattle.syslog_loose.proofs.message.canonical.is_lone_host.Goals as goal

pub returns-in-Some : goal.returns-in-Some
returns-in-Some g c = rw c.in-Some.is (rw c.as_str.ensures at c.is_no_form.ensures)
