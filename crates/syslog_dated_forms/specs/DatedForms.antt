-- The forms that are recognised by their date, in the order in which they are tried.
use Rattle.std.specs.Prelude.{List, [], ◌∷◌, ◌++◌}
use Rattle.syslog_dated_forms.specs.Cisco.{cisco_forms}
use Rattle.syslog_dated_forms.specs.Container.{container_form}
use Rattle.syslog_dated_forms.specs.Dated.{bsd_form, ctime_form, ctime_message_form, iso_form, journal_form, year_form}
use Rattle.syslog_dated_forms.specs.Esxi.{esxi_form}
use Rattle.syslog_dated_forms.specs.Kiwi.{kiwi_form}
use Rattle.syslog_dated_forms.specs.Filed.{filed_forms}
use Rattle.syslog_dated_forms.specs.InBrackets.{in_brackets_form}
use Rattle.syslog_dated_forms.specs.IosXr.{xr_form}
use Rattle.syslog_dated_forms.specs.NetScaler.{netscaler_form, unnamed_form}
use Rattle.syslog_dated_forms.specs.OpenWrt.{logread_form}
use Rattle.syslog_dated_forms.specs.ProCurve.{procurve_form}
use Rattle.syslog_sent.specs.Sent.{Form}
use Rattle.syslog_dated_forms.specs.SophosUtm.{utm_form}
use Rattle.syslog_dated_forms.specs.Ucm.{ucm_form}
use Rattle.syslog_dated_forms.specs.Undated.{timed_form, undated_form}
use Rattle.syslog_dated_forms.specs.UnixSeconds.{meraki_form, short_form, typed_form}

-- those of texts that begin with no month date and with none of RFC 3339
abbrev pub journal_forms : List Form
journal_forms = journal_form ∷ ucm_form ∷ unnamed_form ∷ netscaler_form ∷ utm_form ∷ logread_form ∷ ctime_message_form
    ∷ ctime_form ∷ year_form ∷ meraki_form ∷ short_form ∷ typed_form ∷ undated_form ∷ in_brackets_form ∷ []

abbrev pub xr_forms : List Form
xr_forms = xr_form ∷ container_form ∷ esxi_form ∷ kiwi_form ∷ procurve_form ∷ journal_forms

abbrev pub timed_forms : List Form
timed_forms = timed_form ∷ []

-- those of Cisco's with a date
abbrev pub marked_forms : List Form
marked_forms = cisco_forms ++ (filed_forms ++ timed_forms)

abbrev pub all_dated : List Form
all_dated = marked_forms ++ xr_forms

-- The forms that have nothing of their own after the date. They are tried after those that are recognised by that.
abbrev pub plain_forms : List Form
plain_forms = bsd_form ∷ iso_form ∷ []
