-- Each character of a line of a dialect that has a date of its own is of a text or of the date that it says, or is left
-- out.
use Rattle.syslog_dialects.proofs.Names.{[], ◌++◌, ◌also◌, ◌otherwise◌, ◌then◌, ◌∙◌, ◌∷◌, ◌≡◌, any_date, ap}
use Rattle.syslog_dialects.proofs.Names.{append_assoc, AreFound, beside, Class, Date, date_first, Dialect}
use Rattle.syslog_dialects.proofs.Names.{division_front, drop, Ends, Form, Front, front_of, host, host_first, if_there}
use Rattle.syslog_dialects.proofs.Names.{inl, inr, is_blank, left_of, left_out, List, loose, Name, nat_eq, None, not}
use Rattle.syslog_dialects.proofs.Names.{number, Option, optional, Part, present_front, refl, Row, row_head, row_of}
use Rattle.syslog_dialects.proofs.Names.{run, SentDate, SentValue, Some, some_run, spaced, subst, such_that, sym}
use Rattle.syslog_dialects.proofs.Names.{tag_word, Text, Values}
use Rattle.std.specs.Char.{is_not_whitespace}
use Rattle.syslog_text.proofs.PieceLemmas.Class.{each_left}
use Rattle.syslog_loose.specs.Rfc3164.{HasProcess, Names3164, NamesByForm, Resolves, names}
use Rattle.syslog_loose.specs.TagForm.{IsForm, IsIdOf}
use Rattle.syslog_loose.proofs.Rfc3164Lemmas.{one_form}
use Rattle.syslog_loose.proofs.Rfc3164Lemmas.Near.{form_parts}
use Rattle.syslog_dated_forms.specs.Cisco.{IsAsa, IsNxOs, cisco_forms, cisco_row, cisco_sent, date_row, dated_in, label}
use Rattle.syslog_dated_forms.specs.Cisco.{label_row, labelled, message_row, mnemonic, origin, place, place_row, start}
use Rattle.syslog_dated_forms.specs.Cisco.{start_row, host_of, word_origin}
use Rattle.syslog_dated_forms.specs.Address.{address}
use Rattle.syslog_dated_forms.proofs.CiscoLemmas.{address_is}
use Rattle.syslog_dated_forms.specs.Undated as undated
use Rattle.syslog_dated_forms.specs.Ucm.{half_date, ucm_row, ucm_sent}
use Rattle.syslog_dated_forms.specs.Container.{IsStream, container_row, output, stream_row}
use Rattle.syslog_sent.specs.Date.{bsd_date, iso_date, odd_bsd_date, odd_iso_date}
use Rattle.syslog_dated_forms.specs.Dated.{bsd_row, ctime_message_row, ctime_message_sent, ctime_row, dated_sent}
use Rattle.syslog_dated_forms.specs.Dated.{iso_row, journal_row, year_date, year_date_row, year_row}
use Rattle.syslog_dated_forms.specs.DatedForms as dated
use Rattle.syslog_dated_forms.specs.DatedForms.{xr_forms}
use Rattle.syslog_dialects.specs.Dialects.{dated_forms}
use Rattle.syslog_dated_forms.specs.Esxi.{esxi_row, esxi_sent}
use Rattle.syslog_dated_forms.specs.Kiwi.{kiwi_row, kiwi_sent}
use Rattle.syslog_dated_forms.specs.Filed.{IsAny, filed_forms, filed_row, filed_sent}
use Rattle.syslog_dated_forms.specs.InBrackets.{in_brackets_row, in_brackets_sent, stamp}
use Rattle.syslog_dialects.specs.Found.{IsDateOf, cisco_hosts, cisco_left_out, filed_date, filed_device, filed_rest}
use Rattle.syslog_dialects.specs.Found.{host_alone, second_place}
use Rattle.syslog_dated_forms.specs.IosXr.{card, card_row, host_in, node, process, process_in, process_row, xr_row}
use Rattle.syslog_dated_forms.specs.IosXr.{xr_sent}
use Rattle.syslog_dated_forms.specs.IosXr as xr
use Rattle.syslog_dated_forms.specs.NetScaler.{netscaler_row, slashed_date, unnamed_row, unnamed_sent}
use Rattle.syslog_dated_forms.specs.OpenWrt.{logread_row, logread_sent}
use Rattle.syslog_dated_forms.specs.ProCurve.{procurve_row, procurve_sent}
use Rattle.syslog_sent.specs.Sent.{IsSent}
use Rattle.syslog_dated_forms.specs.SophosUtm.{colon_date, utm_row}
use Rattle.syslog_dated_forms.specs.Tail.{TailValue, tail, tail_row, wide_row, wide_tail}
use Rattle.syslog_dated_forms.specs.UnixSeconds.{meraki_row, meraki_sent, short_row, short_sent, typed_row, typed_sent}
use Rattle.syslog_dated_forms.specs.UnixSeconds.{unix_date}
use Rattle.syslog_sent.specs.Zone.{bare_word}
use Rattle.syslog_sent.specs.declared.dialect.Dialect.TheVariants as dialect
use Rattle.syslog_dialects.proofs.OrderLemmas.{EndsSo, Ending, Has, IsOut, SaysOne, SaysSo, Shows, Told, ToldSo, Way}
use Rattle.syslog_dialects.proofs.OrderLemmas.{begun, blank_signs, dash_field, end_of, first, host_named, is_told}
use Rattle.syslog_dialects.proofs.OrderLemmas.{later, listed, mapped_found, meant, meant_one, name_before, no_field}
use Rattle.syslog_dialects.proofs.OrderLemmas.{out_more, passed, pieces, row_has, says_more, shown, signs_before}
use Rattle.syslog_dialects.proofs.OrderLemmas.{so_found, tag_named, text_field, way_ends, ways, whole_found, whole_of}
use Rattle.syslog_loose.proofs.PrintedLemmas.{visible_ends_blanks}

-- ---- forms

-- of each text of the form each character is accounted for, and no blank begins its message
abbrev pub IsFoundForm : Form → Type 0
IsFoundForm F = (text : Text) (sent : SentValue) → IsSent F text sent
    → AreFound F.dialect text sent × Ends is_blank sent.msg

abbrev pub AllFound : List Form → Type 0
AllFound [] = Unit {0}
AllFound (F ∷ Fs) = IsFoundForm F × AllFound Fs

pub both_found : (As Bs : List Form) → AllFound As → AllFound Bs → AllFound (As ++ Bs)
both_found [] Bs a b = b
both_found (F ∷ As) Bs a b = (a.0, both_found As Bs a.1 b)

-- the pieces of a row tell what they say
abbrev RowTold : Dialect → (row : List Class) → (Values row → SentValue) → Type 0
RowTold it row says_of = (t : Text) (v : Values row) → Front (Row row) t [] v
    → ToldSo (left_of it (says_of v).hostname) t (says_of v)

-- a form whose pieces say it
pub said_so : (it : Dialect) (row : List Class) (says_of : Values row → SentValue) → RowTold it row says_of
    → IsFoundForm (record { dialect = it; row = row; Means = λ v s. s ≡ says_of v })
said_so it row says_of told text sent s =
    let (is, front) = is_told (says_of s.values) (told text s.values (division_front row s.division)) in
    subst (λ (x : SentValue). AreFound it text x × Ends is_blank x.msg) (sym s.means) (inl is, front)

-- the row says it in this order, whichever host it says
abbrev pub RowSays : (order : SentValue → List Part) (it : Dialect) (row : List Class)
    (says_of : Values row → SentValue) → ((h : Option Text) → Way (left_of it h) row) → Type 0
RowSays order it row says_of way =
    (h : Option Text) → SaysSo (way h) (λ v. order (says_of v)) (λ v. (says_of v).msg)

pub said : (it : Dialect) (row : List Class) (says_of : Values row → SentValue)
    (way : (h : Option Text) → Way (left_of it h) row) → RowSays date_first it row says_of way
    → IsFoundForm (record { dialect = it; row = row; Means = λ v s. s ≡ says_of v })
said it row says_of way same = said_so it row says_of (λ t v f. let h = (says_of v).hostname in
    inl (so_found row (way h) (λ v. date_first (says_of v)) (λ v. (says_of v).msg) (same h) t v f))

-- with the host before the date
pub said_late : (it : Dialect) (row : List Class) (says_of : Values row → SentValue)
    (way : (h : Option Text) → Way (left_of it h) row) → RowSays host_first it row says_of way
    → IsFoundForm (record { dialect = it; row = row; Means = λ v s. s ≡ says_of v })
said_late it row says_of way same = said_so it row says_of (λ t v f. let h = (says_of v).hostname in
    inr (so_found row (way h) (λ v. host_first (says_of v)) (λ v. (says_of v).msg) (same h) t v f))

-- ---- dates

pub any_is_date : (p q : Text) (d : SentDate) → any_date.Is p q d → IsDateOf p q d
any_is_date p q d (inl e, is, same) = subst (IsDateOf p q) (sym same) (inl is)
any_is_date p q d (inr e, is, same) = subst (IsDateOf p q) (sym same) (inr (inl is.1))

-- a piece of the class is a date
abbrev pub a_date : {left : List Class} (C : Class) (date_in : C.Value → SentDate)
    → ((p q : Text) (v : C.Value) → C.Is p q v → IsDateOf p q (date_in v)) → SaysOne left C
a_date C date_in is = shown C (λ v. Date (date_in v)) is

abbrev pub an_any_date : {left : List Class} → SaysOne left any_date
an_any_date = a_date any_date (λ d. d) any_is_date

abbrev pub an_iso_date : {left : List Class} → SaysOne left iso_date
an_iso_date = a_date iso_date (λ d. d) (λ p q d is. inr (inl is))

abbrev pub a_bsd_date : {left : List Class} → SaysOne left bsd_date
a_bsd_date = a_date bsd_date (λ d. d) (λ p q d is. inl is)

abbrev pub an_odd_bsd_date : {left : List Class} → SaysOne left odd_bsd_date
an_odd_bsd_date = a_date odd_bsd_date (λ d. d) (λ p q d is. inl (is.0, is.1.0, is.2))

abbrev pub an_odd_iso_date : {left : List Class} → SaysOne left odd_iso_date
an_odd_iso_date = a_date odd_iso_date (λ d. d) (λ p q d is. inr (inl is.1))

abbrev pub a_cisco_date : {left : List Class} → SaysOne left (Row date_row)
a_cisco_date = a_date (Row date_row) (λ v. dated_in v.0 v.1.0) (λ p q v is. inr (inr (inl (v, is, refl))))

abbrev pub a_slashed_date : {left : List Class} → SaysOne left slashed_date
a_slashed_date = a_date slashed_date (λ d. d) (λ p q d is. inr (inr (inr (inl is))))

abbrev pub a_colon_date : {left : List Class} → SaysOne left colon_date
a_colon_date = a_date colon_date (λ d. d) (λ p q d is. inr (inr (inr (inr (inl is)))))

abbrev pub a_unix_date : {left : List Class} → SaysOne left unix_date
a_unix_date = a_date unix_date (λ d. d) (λ p q d is. inr (inr (inr (inr (inr (inl is))))))

abbrev pub a_stamp : {left : List Class} → SaysOne left stamp
a_stamp = a_date stamp (λ v. v.1.0) (λ p q v is. inr (inr (inr (inr (inr (inr (inl (v, is, refl))))))))

-- with a clock of twelve hours
abbrev pub a_half_date : {left : List Class} → SaysOne left half_date
a_half_date = a_date half_date (λ d. d) (λ p q d is. inr (inr (inr (inr (inr (inr (inr is)))))))

-- a year and a date are such as Cisco's may be
year_shown : (p q : Text) (v : Values year_date_row) → (Row year_date_row).Is p q v
    → (Row date_row).Is p q (Some v.0, v.1)
year_shown p q (y, vs) ([], e, h) = absurd h
year_shown p q (y, vs) (a ∷ ps, e, (n, h)) = (a ∷ ps, e, (n, h))

pub year_is_date : (p q : Text) (d : SentDate) → year_date.Is p q d → IsDateOf p q d
year_is_date p q d (v, is, same) = inr (inr (inl ((Some v.0, v.1), year_shown p q v is, same)))

abbrev pub a_year_date : {left : List Class} → SaysOne left year_date
a_year_date = a_date year_date (λ d. d) year_is_date

-- ---- Cisco

pub device_has : (left : List Class) → Has left (address otherwise word_origin) (λ v parts. Name (host_of v) ∷ parts)
device_has left t q (inl v) f parts msg told =
    says_more (address otherwise word_origin) (Name v) f (sym (address_is f.piece q v f.is.0)) told
device_has left t q (inr v) f parts msg told =
    says_more (address otherwise word_origin) (Name v) f (sym f.is.1.0.2) told

abbrev pub an_origin : {left : List Class} → SaysOne left origin
an_origin {left} = meant_one (address otherwise word_origin) host_of (device_has left)

pub label_has : (left : List Class) → Has left (Row label_row) (λ v parts. Name v.0 ∷ parts)
label_has left = row_has left label_row (search (an_origin, pieces) depth 9)

abbrev pub a_label : {left : List Class} → SaysOne left label
a_label {left} = meant_one (Row label_row) (λ v. v.0) (label_has left)

pub start_has : (Cs : List Class) → Has (cisco_left_out ++ Cs) (Row start_row) (λ v. if_there Name (labelled v))
start_has Cs = row_has (cisco_left_out ++ Cs) start_row (search (a_label, pieces) depth 16)

abbrev pub a_start : {Cs : List Class} → Shows (cisco_left_out ++ Cs) start
a_start {Cs} = meant (Row start_row) (Option Text) labelled (if_there Name) (start_has Cs)

pub place_has : (Cs : List Class) → Has (cisco_left_out ++ Cs) (Row place_row) (λ v. if_there Name v.1.0)
place_has Cs = row_has (cisco_left_out ++ Cs) place_row (search (an_origin, pieces) depth 16)

abbrev pub a_place : {Cs : List Class} → Shows (cisco_left_out ++ Cs) place
a_place {Cs} = meant (Row place_row) (Option Text) (λ v. v.1.0) (if_there Name) (place_has Cs)

-- the tag, and nothing else
pub tag_found : (left : List Class) → Ending left (Row message_row) (λ v. Name v.0 ∷ []) (λ v. v.1.1.1.1.0)
tag_found left = so_found message_row (search ways depth 9) _ _ (λ v. (refl, refl))

abbrev pub the_tag : {left : List Class} → EndsSo left (Row message_row)
the_tag {left} = record { parts = λ v. Name v.0 ∷ []; msg = λ v. v.1.1.1.1.0; ends = tag_found left }

-- the host, where it comes before the date, or after it
abbrev cisco_parts : Values cisco_row → List Part
cisco_parts (None, ((y, (date, _)), (other, ((tag, _), _)))) =
    Date (dated_in y date) ∷ if_there Name other (Name tag ∷ [])
cisco_parts (Some h, ((y, (date, _)), (other, ((tag, _), _)))) = Name h ∷ Date (dated_in y date) ∷ Name tag ∷ []

-- where no host comes before the date
led_found : (Cs : List Class) (t : Text) (v : Values (drop 1 cisco_row)) → Front (Row cisco_row) t [] (None, v)
    → Told (cisco_left_out ++ Cs) t (cisco_parts (None, v)) (cisco_sent (None, v)).msg
led_found Cs t v = way_ends cisco_row
    (search (a_start, a_place, a_cisco_date, the_tag, ways) depth 9) t (None, v)

-- where one does, the second is left out
second_out : IsOut (cisco_left_out ++ cisco_hosts) second_place
second_out = listed (search (first, later) depth 9)

hosted_found : (t h : Text) (v : Values (drop 1 cisco_row)) → Front (Row cisco_row) t [] (Some h, v)
    → Told (cisco_left_out ++ cisco_hosts) t (cisco_parts (Some h, v)) (cisco_sent (Some h, v)).msg
hosted_found t h v f =
    let (u, started, more) = row_head start (drop 1 cisco_row) f in
    let (w, dated, others) = row_head (Row date_row) (drop 2 cisco_row) more in
    let (x, placed, ends) = row_head place (drop 3 cisco_row) others in
    let it = end_of (Row message_row) ends in
    let (r, tag, body) = row_head mnemonic (drop 1 message_row) it in
    (a_start {Cs = cisco_hosts}).has t u (Some h) started _ _ (a_cisco_date.has u w v.0 dated _ _
    (out_more place placed (second_out.is_out placed.piece x v.1.0 (placed.is, (r, v.1.1.0.0, tag)))
    (tag_found (cisco_left_out ++ cisco_hosts) x v.1.1.0 it)))

-- a row that says what a line of Cisco's does
abbrev CiscoTold : (row : List Class) → (Values row → SentValue) → Type 0
CiscoTold row says_of = (t : Text) (v : Values row) → Front (Row row) t [] v
    → ToldSo (cisco_left_out ++ beside (says_of v).hostname cisco_hosts) t (says_of v)

cisco_told : CiscoTold cisco_row cisco_sent
cisco_told t (None, v) f = inl (led_found (beside v.1.0 cisco_hosts) t v f)
cisco_told t (Some h, v) f = inr (hosted_found t h v f)

-- those of one system
system_told : (P : Values cisco_row → Type 0) → CiscoTold (such_that (Row cisco_row) P ∷ []) (λ v. cisco_sent v.0)
system_told P t v f =
    let it = end_of (such_that (Row cisco_row) P) f in
    cisco_told t v.0 (front_of it.piece it.whole it.is.0)

cisco_all : AllFound cisco_forms
cisco_all =
    said_so dialect.CiscoAsa (such_that (Row cisco_row) IsAsa ∷ []) (λ v. cisco_sent v.0) (system_told IsAsa)
    also said_so dialect.CiscoNxOs (such_that (Row cisco_row) IsNxOs ∷ []) (λ v. cisco_sent v.0) (system_told IsNxOs)
    also said_so dialect.CiscoIos cisco_row cisco_sent cisco_told also tt

-- ---- as a collector files them

-- the same parts of more text
told_more : (left : List Class) {t u : Text} (sent : SentValue)
    → ((parts : List Part) → Told left u parts sent.msg → Told left t parts sent.msg)
    → ToldSo left u sent → ToldSo left t sent
told_more left sent more (inl told) = inl (more (date_first sent) told)
told_more left sent more (inr told) = inr (more (host_first sent) told)

line_found : (line : Values cisco_row) {t : Text} → Front (Row cisco_row) t [] line
    → Told (cisco_left_out ++ cisco_hosts) t (cisco_parts line) (cisco_sent line).msg
line_found (None, v) {t} f = led_found cisco_hosts t v f
line_found (Some h, v) {t} f = hosted_found t h v f

device_out : IsOut (cisco_left_out ++ cisco_hosts) filed_device
device_out = listed (search (first, later) depth 9)

-- the device is the host where the line shows none
device_told : (device : Text) (line : Values cisco_row) {t u : Text} → Front origin t u device
    → Front (Row filed_rest) u [] (tt, (line, tt))
    → Told (cisco_left_out ++ cisco_hosts) u (cisco_parts line) (cisco_sent line).msg
    → ToldSo (cisco_left_out ++ beside (filed_sent device line).hostname cisco_hosts) t (filed_sent device line)
device_told device (Some h, v) {u = u} f more told = inr (out_more origin f
    (device_out.is_out f.piece u device (f.is, ([], (tt, ((Some h, v), tt)), more))) told)
device_told device (None, (d, (Some o, v))) {u = u} f more told = inl (out_more origin f
    (device_out.is_out f.piece u device (f.is, ([], (tt, ((None, (d, (Some o, v))), tt)), more))) told)
device_told device (None, (d, (None, v))) {t} {u} f more told =
    inr (an_origin.has t u device f (cisco_parts (None, (d, (None, v))))
    v.0.1.1.1.1.0 told)

date_out : (Cs : List Class) → IsOut (cisco_left_out ++ Cs) filed_date
date_out Cs = listed (search (first, later) depth 9)

filed_told : (P : Values cisco_row → Type 0)
    → CiscoTold (filed_row (such_that (Row cisco_row) P)) (λ v. filed_sent v.1.1.1.0 v.1.1.1.1.1.0)
filed_told P t v f =
    let C = such_that (Row cisco_row) P in
    let line = v.1.1.1.1.1.0 in
    let (a, blank, f1) = row_head (run is_blank) (drop 1 (filed_row C)) f in
    let (b, dated, f2) = row_head any_date (drop 2 (filed_row C)) f1 in
    let (c, gap, f3) = row_head (some_run is_blank) (drop 3 (filed_row C)) f2 in
    let (d, device, f4) = row_head origin (drop 4 (filed_row C)) f3 in
    let (e, space, f5) = row_head (some_run is_blank) (drop 5 (filed_row C)) f4 in
    let it = end_of C f5 in
    let whole : Front (Row cisco_row) e [] line = front_of it.piece it.whole it.is.0 in
    let left : Front (Row filed_rest) d [] (tt, (line, tt)) = row_of filed_rest (space then whole then refl) in
    let named = device_told v.1.1.1.0 line device left
    (out_more (some_run is_blank) space (inl (blank_signs space.piece space.is.1)) (line_found line whole)) in
    let after : Front (Row (some_run is_blank ∷ origin ∷ filed_rest)) b [] (tt, (v.1.1.1.0, (tt, (line, tt)))) =
    row_of (some_run is_blank ∷ origin ∷ filed_rest) (gap then device then space then whole then refl) in
    let hosts = beside (filed_sent v.1.1.1.0 line).hostname cisco_hosts in
    told_more (cisco_left_out ++ hosts) (filed_sent v.1.1.1.0 line) (λ parts told.
    out_more (run is_blank) blank (inl (blank_signs blank.piece blank.is.0))
    (out_more any_date dated
    ((date_out hosts).is_out dated.piece b v.1.0 (dated.is, ([], (tt, (v.1.1.1.0, (tt, (line, tt)))), after)))
    (out_more (some_run is_blank) gap (inl (blank_signs gap.piece gap.is.1)) told))) named

filed_all : AllFound filed_forms
filed_all =
    said_so dialect.CiscoAsa (filed_row (such_that (Row cisco_row) IsAsa)) (λ v. filed_sent v.1.1.1.0 v.1.1.1.1.1.0)
    (filed_told IsAsa)
    also said_so dialect.CiscoNxOs (filed_row (such_that (Row cisco_row) IsNxOs))
    (λ v. filed_sent v.1.1.1.0 v.1.1.1.1.1.0) (filed_told IsNxOs)
    also said_so dialect.CiscoIos (filed_row (such_that (Row cisco_row) IsAny))
    (λ v. filed_sent v.1.1.1.0 v.1.1.1.1.1.0) (filed_told IsAny) also tt

-- ---- IOS-XR

pub process_found : (left : List Class) → Ending left process (λ v. Name v.0 ∷ Name v.1.0 ∷ []) (λ v. v.1.1)
process_found left = mapped_found left (Row process_row) (Text × (Text × Text)) process_in
    (λ v. Name v.0 ∷ Name v.1.0 ∷ []) (λ v. v.1.1)
    (so_found process_row (search ways depth 16) _ _ (λ v. (refl, refl)))

abbrev pub the_process : {left : List Class} → EndsSo left process
the_process {left} = record { parts = λ v. Name v.0 ∷ Name v.1.0 ∷ []; msg = λ v. v.1.1; ends = process_found left }

pub xr_host_has : (left : List Class) → Has left (Row xr.host_row) (λ v parts. Name v.0 ∷ parts)
xr_host_has left = row_has left xr.host_row (search (an_origin, pieces) depth 9)

abbrev pub an_xr_host : {left : List Class} → SaysOne left xr.host
an_xr_host {left} = meant_one (Row xr.host_row) (λ v. v.0) (xr_host_has left)

-- the node is a word too
abbrev a_node : {Cs : List Class} → Shows (left_out dialect.CiscoIosXr ++ Cs) node
a_node = passed (listed (later first))

pub card_has : (Cs : List Class)
    → Has (left_out dialect.CiscoIosXr ++ Cs) (Row card_row) (λ v. if_there Name (host_in v))
card_has Cs = row_has (left_out dialect.CiscoIosXr ++ Cs) card_row (search (an_xr_host, a_node, pieces) depth 12)

abbrev pub a_card : {Cs : List Class} → Shows (left_out dialect.CiscoIosXr ++ Cs) card
a_card {Cs} = meant (Row card_row) (Option Text) host_in (if_there Name) (card_has Cs)

-- ---- what the port reads after a date

-- the names of a text, an id among them or none
abbrev pub three : Option Text → Option Text → Option Text → List Part
three host app id = if_there Name host (if_there Name app (if_there Name id []))

-- a text of the form
form_told : {left : List Class} (it tag id : Text) {u msg : Text} → IsForm it tag id → Told left u [] msg
    → Told left (it ++ u) (Name tag ∷ Name id ∷ []) msg
form_told {left} it tag id {u} {msg} form told =
    let same = ap (λ (x : Text). x ++ u) (form_parts it tag id form).whole
    ∙ append_assoc tag (91 ∷ (id ++ (93 ∷ []))) u
    ∙ ap (λ (x : Text). tag ++ (91 ∷ x)) (append_assoc id (93 ∷ []) u) in
    subst (λ (x : Text). Told left x (Name tag ∷ Name id ∷ []) msg) (sym same)
    (name_before tag (signs_before (91 ∷ []) (refl, tt) (name_before id (signs_before (93 ∷ []) (refl, tt) told))))

id_told : {left : List Class} (it tag id : Text) (process : Option Text) {u msg : Text} → IsForm it tag id
    → IsIdOf it process → Told left u [] msg → Told left (it ++ u) (Name tag ∷ if_there Name process []) msg
id_told it tag id None form is told = absurd (is (tag, (tt, (id, (tt, tt)))) form)
id_told {left} it tag id (Some id') {u} {msg} form (tag', form') told =
    subst (λ (x : Text). Told left (it ++ u) (Name x ∷ Name id' ∷ []) msg)
    (one_form it tag' id' tag id form' form).0 (form_told it tag' id' form' told)

-- the name of a program, which follows what tells this host
program_told : {left : List Class} (h : Option Text) (it : Text) (n : Names3164) (id : Option Text) {t u msg : Text}
    → NamesByForm h it (names h (Some it) None) n → IsIdOf it id → Told left u [] msg
    → ((parts : List Part) → Told left (it ++ u) parts msg → Told left t (if_there Name h parts) msg)
    → Told left t (three n.hostname n.appname id) msg
program_told {left} h it n id {t} {msg = msg} (inl (tag, number, of, form, named, e)) is told more =
    subst (λ (x : Names3164). Told left t (three x.hostname x.appname id) msg) (sym e)
    (more (Name tag ∷ if_there Name id []) (id_told it tag number id form is told))
program_told {left} h it n None {t} {msg = msg} (inr (no_form, e)) is told more =
    subst (λ (x : Names3164). Told left t (three x.hostname x.appname None) msg) (sym e)
    (more (Name it ∷ []) (name_before it told))
program_told h it n (Some id) (inr (no_form, e)) (tag, form) told more =
    absurd (no_form (tag, (tt, (id, (tt, tt)))) form)

-- a lone name
lone_told : {left : List Class} (it : Text) (n : Names3164) (id : Option Text) {u msg : Text}
    → NamesByForm None it (names (Some it) None None) n → IsIdOf it id → Told left u [] msg
    → Told left (it ++ u) (three n.hostname n.appname id) msg
lone_told {left} it n id {u} {msg} (inl (tag, number, of, form, named, e)) is told =
    subst (λ (x : Names3164). Told left (it ++ u) (three x.hostname x.appname id) msg) (sym e)
    (id_told it tag number id form is told)
lone_told {left} it n None {u} {msg} (inr (no_form, e)) is told =
    subst (λ (x : Names3164). Told left (it ++ u) (three x.hostname x.appname None) msg) (sym e) (name_before it told)
lone_told it n (Some id) (inr (no_form, e)) (tag, form) told = absurd (no_form (tag, (tt, (id, (tt, tt)))) form)

no_names : {left : List Class} (n : Names3164) (id : Option Text) {t msg : Text} → n ≡ names None None None
    → id ≡ None → Told left t [] msg → Told left t (three n.hostname n.appname id) msg
no_names {left} n id {t} {msg} e f told =
    subst (λ (x : Names3164). Told left t (three x.hostname x.appname id) msg) (sym e)
    (subst (λ (x : Option Text). Told left t (if_there Name x []) msg) (sym f) told)

abbrev tail_parts : TailValue → List Part
tail_parts v = three v.hostname v.appname v.process

-- beside the tag `-` a host is left out
module _ (Cs : List Class) where
  alone_told : {t u w msg : Text} (h : Text) → Front (optional (spaced host)) t u (Some (Some h))
      → Front (optional (spaced tag_word)) u w (Some None) → Told (host_alone ∷ Cs) w [] msg
      → Told (host_alone ∷ Cs) t [] msg
  alone_told {w = w} h f g told =
      let it = present_front (spaced host) f in
      let tag = present_front (spaced tag_word) g in
      let (r, whole, is) = tag.is in
      out_more (spaced host) it
      (inr (inl (Some h, (it.is, (w, None, front_of tag.piece tag.whole (r, whole, (is, refl)))))))
      (dash_field tag_word.Is tag_named g told)

  -- the names that the two fields mean
  fields_told : (origin program : Option (Option Text)) (n : Names3164) (id : Option Text) {t u w msg : Text}
      → Resolves origin program n → HasProcess origin program id → Front (optional (spaced host)) t u origin
      → Front (optional (spaced tag_word)) u w program → Told (host_alone ∷ Cs) w [] msg
      → Told (host_alone ∷ Cs) t (three n.hostname n.appname id) msg
  fields_told None None n id e is f g told =
      no_names n id e is (no_field (spaced host) f (no_field (spaced tag_word) g told))
  fields_told (Some None) None n id e is f g told =
      no_names n id e is (dash_field host.Is host_named f (no_field (spaced tag_word) g told))
  fields_told (Some (Some lone)) None n id by is f g told =
      text_field host.Is host_named lone f (lone_told lone n id by is (no_field (spaced tag_word) g told))
  fields_told None (Some (Some it)) n id by is f g told = program_told None it n id by is told
      (λ parts more. no_field (spaced host) f (text_field tag_word.Is tag_named it g more))
  fields_told (Some None) (Some (Some it)) n id by is f g told = program_told None it n id by is told
      (λ parts more. dash_field host.Is host_named f (text_field tag_word.Is tag_named it g more))
  fields_told (Some (Some h)) (Some (Some it)) n id by is f g told = program_told (Some h) it n id by is told
      (λ parts more. text_field host.Is host_named h f (name_before h (text_field tag_word.Is tag_named it g more)))
  fields_told None (Some None) n id e is f g told =
      no_names n id e is (no_field (spaced host) f (dash_field tag_word.Is tag_named g told))
  fields_told (Some None) (Some None) n id e is f g told =
      no_names n id e is (dash_field host.Is host_named f (dash_field tag_word.Is tag_named g told))
  fields_told (Some (Some h)) (Some None) n id e is f g told = no_names n id e is (alone_told h f g told)

  tail_found : Ending (host_alone ∷ Cs) tail tail_parts (λ v. v.msg)
  tail_found t v f =
      let (o, g, m, n, row, by, same_host, same_app, is) = f.is in
      let fields : Front (Row tail_row) t [] (o, (g, (tt, (m, (tt, (v.msg, tt)))))) =
      front_of f.piece f.whole row in
      let (u, a, others) = row_head (optional (spaced host)) (drop 1 tail_row) fields in
      let (w, b, ends) = row_head (optional (spaced tag_word)) (drop 2 tail_row) others in
      let told = way_ends (drop 2 tail_row) (search ways depth 9) w (tt, (m, (tt, (v.msg, tt)))) ends in
      subst (λ (x : Option Text). Told (host_alone ∷ Cs) t (three x v.appname v.process) v.msg) (sym same_host)
      (subst (λ (x : Option Text). Told (host_alone ∷ Cs) t (three n.hostname x v.process) v.msg) (sym same_app)
      (fields_told o g n v.process by is a b told))

  abbrev the_fields : EndsSo (host_alone ∷ Cs) tail
  the_fields = record { parts = tail_parts; msg = λ v. v.msg; ends = tail_found }

  pub wide_found : Ending (host_alone ∷ Cs) wide_tail tail_parts (λ v. v.msg)
  wide_found = mapped_found (host_alone ∷ Cs) (Row wide_row) TailValue (λ v. v.1.0) tail_parts (λ v. v.msg)
      (way_ends wide_row (search (the_fields, ways) depth 9))

abbrev pub the_tail : {Cs : List Class} → EndsSo (host_alone ∷ Cs) wide_tail
the_tail {Cs} = record { parts = tail_parts; msg = λ v. v.msg; ends = wide_found Cs }

-- ---- other dates

-- the name of a stream begins the message, and is no blank
pub output_found : (left : List Class) → Ending left output (λ v. []) (λ v. v)
output_found left t v f =
    let (r, words, stream) = f.is.2 in
    let (q, word, more) = row_head (such_that bare_word IsStream) (drop 1 stream_row) stream in
    let (u, is, e) = word.is.0 in
    let visible = each_left is_not_whitespace (λ c. not (nat_eq c 58)) word.piece is.1 in
    whole_found begun left t v
    (subst (Ends is_blank) (sym word.whole ∙ whole_of output f) (visible_ends_blanks word.piece q is.0 visible)) f

abbrev pub the_output : {left : List Class} → EndsSo left output
the_output {left} = record { parts = λ v. []; msg = λ v. v; ends = output_found left }

ruleset dates = (an_any_date, an_iso_date, a_bsd_date, an_odd_bsd_date, an_odd_iso_date, a_cisco_date, a_half_date)

ruleset own_dates = (a_slashed_date, a_colon_date, a_unix_date, a_stamp, a_year_date)

ruleset dated_ways = (dates, own_dates, an_origin, a_label, a_card, the_tag, the_process, the_output, the_tail, ways)

xr_all : AllFound xr_forms
xr_all =
    said_late dialect.CiscoIosXr xr_row xr_sent (λ h. search dated_ways depth 24) (λ h v. (refl, refl))
    also said dialect.Container container_row (λ v. loose (Some v.1.0) None None None v.1.1.1.0)
    (λ h. search dated_ways depth 24) (λ h v. (refl, refl))
    also said dialect.Esxi esxi_row esxi_sent (λ h. search dated_ways depth 24) (λ h v. (refl, refl))
    also said dialect.SeverityFirst kiwi_row kiwi_sent (λ h. search dated_ways depth 24) (λ h v. (refl, refl))
    also said dialect.ProCurve procurve_row procurve_sent (λ h. search dated_ways depth 24) (λ h v. (refl, refl))
    also said dialect.Journal journal_row (λ v. dated_sent v.1.1.1.0 v.1.1.1.1.0)
    (λ h. search dated_ways depth 24) (λ h v. (refl, refl))
    also said_late dialect.CiscoIos ucm_row ucm_sent (λ h. search dated_ways depth 24) (λ h v. (refl, refl))
    also said dialect.NetScaler unnamed_row unnamed_sent (λ h. search dated_ways depth 24) (λ h v. (refl, refl))
    also said dialect.NetScaler netscaler_row (λ v. dated_sent v.1.0 v.1.1.0)
    (λ h. search dated_ways depth 24) (λ h v. (refl, refl))
    also said dialect.SophosUtm utm_row (λ v. dated_sent v.1.0 v.1.1.0)
    (λ h. search dated_ways depth 24) (λ h v. (refl, refl))
    also said dialect.SeverityFirst logread_row logread_sent (λ h. search dated_ways depth 24) (λ h v. (refl, refl))
    also said dialect.Bracketed ctime_message_row ctime_message_sent
    (λ h. search dated_ways depth 24) (λ h v. (refl, refl))
    also said dialect.BsdDate ctime_row (λ v. dated_sent v.1.1.1.0 v.1.1.1.1.0)
    (λ h. search dated_ways depth 24) (λ h v. (refl, refl))
    also said dialect.BsdDate year_row (λ v. dated_sent v.1.0 v.1.1.0)
    (λ h. search dated_ways depth 24) (λ h v. (refl, refl))
    also said dialect.UnixSeconds meraki_row meraki_sent (λ h. search dated_ways depth 24) (λ h v. (refl, refl))
    also said dialect.UnixSeconds short_row short_sent (λ h. search dated_ways depth 24) (λ h v. (refl, refl))
    also said dialect.UnixSeconds typed_row typed_sent (λ h. search dated_ways depth 24) (λ h v. (refl, refl))
    also said dialect.CiscoUndated undated.undated_row undated.undated_sent
    (λ h. search dated_ways depth 24) (λ h v. (refl, refl))
    also said dialect.Bracketed in_brackets_row in_brackets_sent
    (λ h. search dated_ways depth 24) (λ h v. (refl, refl)) also tt

pub dated_all : AllFound dated_forms
dated_all = both_found dated.marked_forms xr_forms
    (both_found cisco_forms (filed_forms ++ dated.timed_forms) cisco_all
    (both_found filed_forms dated.timed_forms filed_all (said dialect.CiscoUndated undated.timed_row undated.timed_sent
    (λ h. search dated_ways depth 24) (λ h v. (refl, refl)) also tt))) xr_all

pub plain_dated_all : AllFound dated.plain_forms
plain_dated_all =
    said dialect.BsdDate bsd_row (λ v. dated_sent v.1.0 v.1.1.0)
    (λ h. search dated_ways depth 24) (λ h v. (refl, refl))
    also said dialect.NearlyRfc3339 iso_row (λ v. dated_sent v.1.0 v.1.1.0)
    (λ h. search dated_ways depth 24) (λ h v. (refl, refl)) also tt
