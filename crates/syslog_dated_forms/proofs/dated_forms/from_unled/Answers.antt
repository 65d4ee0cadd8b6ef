use Rattle.syslog_dated_forms.proofs.Names.{any_date, container_row, drop, esxi_row, iso_date, kiwi_row, None}
use Rattle.syslog_dated_forms.proofs.Names.{procurve_row, refl, xr_forms}
use Rattle.syslog_sent.proofs.LedLemmas.{not_iso}
use Rattle.syslog_dated_forms.proofs.OtherFormLemmas.{not_begun}
use Rattle.syslog_dated_forms.proofs.TriedLemmas.{Tried, ◌pass◌, ◌turn◌, over, tried}
use Rattle.syslog_dated_forms.proofs.dated_forms.from_unled.Goals as goal

pub returns : goal.returns
returns c none = let iso = not_iso none.undated in
    let all : Tried _ xr_forms None c.or_in-15.new.found = c.or_in.ensures turn
    not_begun iso_date (drop 2 container_row) none.gap iso pass not_begun iso_date (drop 2 esxi_row) none.gap iso pass
    not_begun iso_date (drop 2 kiwi_row) none.gap iso pass
    not_begun any_date (drop 2 procurve_row) none.gap none.undated pass
    c.or_in-2.ensures turn c.or_in-3.ensures turn c.or_in-4.ensures turn c.or_in-5.ensures turn
    c.or_in-6.ensures turn c.or_in-7.ensures turn c.or_in-8.ensures turn c.or_in-9.ensures turn
    c.or_in-10.ensures turn c.or_in-11.ensures turn c.or_in-12.ensures turn
    c.or_in-13.ensures turn c.or_in-14.ensures turn c.or_in-15.ensures turn over in
    tried all refl
