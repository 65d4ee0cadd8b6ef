use Rattle.syslog_loose.proofs.Names.{refl}
use Rattle.syslog_loose.proofs.message.canonical.is_lone_tag.Goals as goal

pub returns-then-is_canonical_tag : goal.returns-then-is_canonical_tag
returns-then-is_canonical_tag c =
    let tag = c.if-is_canonical_tag.ensures.0 refl in
    ((λ h. (tag.0, tag.1, tag.2, c.is_no_form.ensures.0 h)), (λ h. c.is_no_form.ensures.1 h.3))
