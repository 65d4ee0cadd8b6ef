use Rattle.syslog_named_forms.proofs.Names.{◌before◌, first, found, header_forms}
use Rattle.syslog_named_forms.proofs.named_forms.of_start.Goals as goal

pub returns-in-Some : goal.returns-in-Some
returns-in-Some c front = found header_forms (first c.in-Some.sent (c.in-Some.ensures _ front))

pub returns-in-Some-read_vendor : goal.returns-in-Some-read_vendor
returns-in-Some-read_vendor c front = found header_forms
    (c.in_default.ensures _ front before first c.in-Some-read_vendor.sent (c.in-Some-read_vendor.ensures _ front))

pub returns-in-Some-read_paired : goal.returns-in-Some-read_paired
returns-in-Some-read_paired c front = found header_forms
    (c.in_default.ensures _ front before c.in_default-read_vendor.ensures _ front before
    first c.in-Some-read_paired.sent (c.in-Some-read_paired.ensures _ front))

pub returns-in-Some-read_nil : goal.returns-in-Some-read_nil
returns-in-Some-read_nil c front = found header_forms
    (c.in_default.ensures _ front before c.in_default-read_vendor.ensures _ front before
    c.in_default-read_paired.ensures _ front before first c.in-Some-read_nil.sent (c.in-Some-read_nil.ensures _ front))

pub returns-in-Some-read_tag : goal.returns-in-Some-read_tag
returns-in-Some-read_tag c front = found header_forms
    (c.in_default.ensures _ front before c.in_default-read_vendor.ensures _ front before
    c.in_default-read_paired.ensures _ front before c.in_default-read_nil.ensures _ front before
    first c.in-Some-read_tag.sent (c.in-Some-read_tag.ensures _ front))

pub returns-in-Some-read_heroku : goal.returns-in-Some-read_heroku
returns-in-Some-read_heroku c front = found header_forms
    (c.in_default.ensures _ front before c.in_default-read_vendor.ensures _ front before
    c.in_default-read_paired.ensures _ front before c.in_default-read_nil.ensures _ front before
    c.in_default-read_tag.ensures _ front before
    first c.in-Some-read_heroku.sent (c.in-Some-read_heroku.ensures _ front))

pub returns-in-Some-read_bare : goal.returns-in-Some-read_bare
returns-in-Some-read_bare c front = found header_forms
    (c.in_default.ensures _ front before c.in_default-read_vendor.ensures _ front before
    c.in_default-read_paired.ensures _ front before c.in_default-read_nil.ensures _ front before
    c.in_default-read_tag.ensures _ front before c.in_default-read_heroku.ensures _ front before
    first c.in-Some-read_bare.sent (c.in-Some-read_bare.ensures _ front))

pub returns : goal.returns
returns c front = found header_forms
    (c.in_default.ensures _ front before c.in_default-read_vendor.ensures _ front before
    c.in_default-read_paired.ensures _ front before c.in_default-read_nil.ensures _ front before
    c.in_default-read_tag.ensures _ front before c.in_default-read_heroku.ensures _ front before
    c.in_default-read_bare.ensures _ front before record { finds = c.of_seconds.ensures })
