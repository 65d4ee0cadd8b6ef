-- Each piece of a line is a part that its object accounts for.
use Rattle.std.proofs.Common.{◌≡◌, ◌≤◌, ◌∙◌, ◌/◌, ◌%◌, inl, inr, ℕ, List, [], ◌∷◌, ◌++◌, Option, Some, None}
use Rattle.std.proofs.Common.{refl, sym, ap, subst, append_assoc, append-nil, arith, map, unwrap_or}
use Rattle.std.proofs.lemmas.Bool.{cases_lt}
use Rattle.std.proofs.lemmas.Option.{slice_get_past}
use Rattle.std.specs.Option.{option_and_then, option_map}
use Rattle.std.specs.Prelude.{codes, slice_get}
use Rattle.json.specs.Find.{get}
use Rattle.json.specs.Json.{Json, string}
use Rattle.syslog_text.specs.Pieces.Class.{Division, Front, Text, Values, after, exactly, optional}
use Rattle.syslog_pieces.specs.Pri.{facilities, facility_of, facility_number, severities, severity_of, severity_number}
use Rattle.syslog_pieces.specs.Pri as pri_of
use Rattle.syslog_pieces.specs.ProcId.{IsProcessWord, NamesProcess, procid_text}
use Rattle.syslog_elements.specs.StructuredData.{forgiving, strict}
use Rattle.syslog_elements.specs.StructuredData.Element.{ElementValue}
use Rattle.syslog_elements.specs.StructuredData.Rfc3164List.{rfc3164_list}
use Rattle.syslog_elements.specs.StructuredData.Unparsed.{IsUnparsed, if_any}
use Rattle.syslog_text.specs.Text.{host, name_text, number, tag_word, trimmed}
use Rattle.syslog_pieces.specs.Timestamp.{IsHeaderStamp}
use Rattle.syslog_pieces.specs.Timestamp.Printed.{printed_stamp}
use Rattle.syslog_pieces.specs.Timestamp.Rfc3164.{rfc3164_stamp}
use Rattle.syslog_pieces.specs.Timestamp.Zone.{Dating}
use Rattle.syslog_pieces.specs.declared.procid.ProcId.{ProcId}
use Rattle.syslog_elements.specs.declared.structured_data.rfc3164_list.DashRule.{DashRule}
use Rattle.syslog_pieces.specs.declared.timestamp.OffsetTimestamp.{OffsetTimestamp}
use Rattle.syslog_text.proofs.PieceLemmas.Class.{division_front, front_division, front_of, row_of, row_pieces}
use Rattle.syslog_text.proofs.PieceLemmas.Class.{unique_division}
use Rattle.syslog_text.proofs.PieceLemmas.Class.{◌also◌, ◌then◌}
use Rattle.syslog_elements.proofs.StructuredDataLemmas.Unparsed.{left_of_items}
use Rattle.syslog_pieces.proofs.PriLemmas.{priority_composed}
use Rattle.syslog_elements.proofs.StructuredDataLemmas.Elements.{strict_append}
use Rattle.syslog_elements.proofs.StructuredDataLemmas.Elements.{strict_some}
use Rattle.syslog_text.proofs.TextLemmas.Runs.{host_text, names_text}
use Rattle.syslog_pieces.proofs.TimestampLemmas.Rfc3339.{printed_stamp_back}
use Rattle.syslog_loose.specs.Message.{MessageValue, message_of_parts}
use Rattle.syslog_loose.specs.Reading.{IsRead, dash_rule}
use Rattle.syslog_loose.specs.Rfc3164.{IsRead3164, Means3164, Names3164, NamesByForm, Resolves, names, rfc3164_row}
use Rattle.syslog_loose.specs.Rfc5424.{IsRead5424, message_of, rfc5424_row}
use Rattle.syslog_loose.specs.TagForm.{IsForm, form_row}
use Rattle.syslog_loose.specs.Unparsed.{Leaves, Leaves5424, leaving_row, left_of}
use Rattle.syslog_loose.specs.declared.variant.Variant.{Variant}
use Rattle.syslog_loose.specs.declared.variant.Variant.TheVariants.{Either, RFC3164, RFC5424}
use Rattle.syslog_loose.proofs.Rfc5424Lemmas.{rfc5424_det}
use Rattle.syslog_object.specs.Object.{beside_line, message_json, number_json, protocol_text, structured_json}
use Rattle.syslog_object.specs.Object.{text_json}
use Rattle.syslog_object.specs.Object.{timestamp_json}
use Rattle.syslog_kept.specs.Part.{AreParts, Part, blanks, dash_at, either, maybe, name_at, text_at, this}
use Rattle.syslog_kept.specs.Elements.{HasElements, elements, structured_data}
use Rattle.syslog_kept.specs.Kept.{AccountsFor, HasStamp, IsPriorityOf, dated, digits_of, host_and_program, priority}
use Rattle.syslog_kept.specs.Kept.{process}
use Rattle.syslog_kept.specs.Kept.{program, rfc3339, spaced, visible, version}
use Rattle.syslog_kept.proofs.PartLemmas.{◌before◌, Begins, around, begins, full_parts, many_parts, row_parts}
use Rattle.syslog_kept.proofs.PartLemmas.{two_parts}
use Rattle.syslog_kept.proofs.ObjectLemmas.{appname_at, elements_at, elements_there, facility_at, hostname_at}
use Rattle.syslog_kept.proofs.ObjectLemmas.{message_at}
use Rattle.syslog_kept.proofs.ObjectLemmas.{msgid_at, procid_at, protocol_at, severity_at, timestamp_at, unparsed_at}
use Rattle.syslog_kept.proofs.ObjectLemmas.{version_at}
use Rattle.syslog_loose.specs.declared.message.Protocol.TheVariants as protocol

-- ---- the priority

-- the severity of a priority is the remainder by 8
severity_left : (n : ℕ) → option_map (λ s. number_json (severity_number s)) (severity_of n) ≡ Some (number_json (n % 8))
severity_left n =
    let (f, s, one, two, is) = priority_composed (n % 8) (omega arith) in
    let again : n % 8 % 8 ≡ n % 8 = omega arith in
    let left : severity_number s ≡ n % 8 = omega (arith, is) in
    let there : severity_of n ≡ Some s = ap (λ (k : ℕ). slice_get severities k) (sym again) ∙ two in
    rw there (ap (λ (k : ℕ). Some (number_json k)) left)

number_part : (o : Json) (n : ℕ)
    → get (codes "facility_code") o ≡ option_map (λ f. number_json (facility_number f)) (facility_of n)
    → get (codes "severity_code") o ≡ option_map (λ s. number_json (severity_number s)) (severity_of n)
    → IsPriorityOf o n
number_part o n facility severity = elim (cases_lt n 192) [
  | inl low ↦
      let (f, s, one, two, is) = priority_composed n low in
      inl (
        facility_number f,
        severity_number s,
        facility ∙ ap (option_map (λ x. number_json (facility_number x))) one,
        severity ∙ ap (option_map (λ x. number_json (severity_number x))) two,
        sym is,
      )
  | inr high ↦
      let far : 24 ≤ n / 8 = omega arith in
      let past : facility_of n ≡ None = slice_get_past facilities (n / 8) far in
      inr (high, facility ∙ ap (option_map (λ x. number_json (facility_number x))) past, severity ∙ severity_left n)
]

pub priority_part : (o : Json) (p q : Text) (v : Option ℕ)
    → get (codes "facility_code") o ≡ option_map (λ f. number_json (facility_number f)) (option_and_then facility_of v)
    → get (codes "severity_code") o ≡ option_map (λ s. number_json (severity_number s)) (option_and_then severity_of v)
    → (optional pri_of.priority).Is p q v → maybe (priority o) p
priority_part o p q None facility severity is = inl is.0
priority_part o p q (Some n) facility severity (ps, whole, each) =
    inr (subst (priority o) (sym whole)
    (row_parts pri_of.priority_row
    (this (60 ∷ []) ∷ (λ x. (k : ℕ) × digits_of k x × IsPriorityOf o k) ∷ this (62 ∷ []) ∷ []) ps q
    (tt, (n, (tt, tt)))
    ((λ a r h. h) also (λ a r h. (n, (h.0, h.1, h.3), number_part o n facility severity)) also (λ a r h. h)
    also tt) each))

version_part : (o : Json) (p q : Text) (n : ℕ) → get (codes "version") o ≡ Some (number_json n)
    → (number 4294967295).Is p q n → version o p
version_part o p q n there is = (n, (is.0, is.1, is.3), there)

-- ---- names

named_part : (o : Json) (key : List ℕ) (p : Text) (v : Option Text) → get key o ≡ option_map text_json v
    → p ≡ name_text v → name_at o key p
named_part o key p None there is = inl (is, there)
named_part o key p (Some t) there is = inr (there ∙ ap (λ (x : Text). Some (text_json x)) (sym is))

process_part : (o : Json) (p q : Text) (v : Option (ProcId Text))
    → get (codes "procid") o ≡ option_map (λ x. text_json (procid_text x)) v
    → IsProcessWord p q v → either (dash_at o (codes "procid")) (process o) p
process_part o p q None there is = inl (is.4, there)
process_part o p q (Some id) there (t, is, names_it) =
    inr (id, subst (λ (x : Text). NamesProcess x id) is.4.0 names_it, there)

-- ---- timestamps

pub stamp_there : (o : Json) (s : OffsetTimestamp) → get (codes "timestamp") o ≡ Some (timestamp_json s) → HasStamp o s
stamp_there o s there = (printed_stamp s.instant.nanosecond s.offset.seconds, there, refl, printed_stamp_back s)

stamp_part : (o : Json) (p q : Text) (v : Option OffsetTimestamp)
    → get (codes "timestamp") o ≡ option_map timestamp_json v → IsHeaderStamp p q v
    → either (dash_at o (codes "timestamp")) (rfc3339 o) p
stamp_part o p q None there is = inl (is, there)
stamp_part o p q (Some s) there is = inr (s, is.0, stamp_there o s there)

loose_stamp_part : (dating : Dating) (o : Json) (p q : Text) (v : Option OffsetTimestamp)
    → get (codes "timestamp") o ≡ option_map timestamp_json v → (rfc3164_stamp dating).Is p q v
    → either (dash_at o (codes "timestamp")) (either (rfc3339 o) (dated dating o)) p
loose_stamp_part dating o p q None there (inl is) = inl (is, there)
loose_stamp_part dating o p q None there (inr never) = absurd never
loose_stamp_part dating o p q (Some s) there (inl is) = inr (inl (s, is.0, stamp_there o s there))
loose_stamp_part dating o p q (Some s) there (inr (date, is, at)) =
    inr (inr (q, date, s, is, at, stamp_there o s there))

-- ---- structured data

-- what is left unparsed, which is nothing or found
unparsed_part : (o : Json) (u : Text) → get (codes "unparsed_structured_data") o ≡ option_map text_json (if_any u)
    → maybe (text_at o (codes "unparsed_structured_data")) u
unparsed_part o [] there = inl refl
unparsed_part o (c ∷ u) there = inr there

strict_part : (o : Json) (p q u : Text) (es : List ElementValue)
    → get (codes "structured_data") o ≡ structured_json es
    → get (codes "unparsed_structured_data") o ≡ option_map text_json (if_any u)
    → forgiving.Is p q es → IsUnparsed p u → structured_data o p
strict_part o p q u es there left (inl (d, none)) is = inl (d, there ∙ ap structured_json none)
strict_part o p q u es there left (inr (vs, some, are, same)) is =
    let (at, e) = left_of_items p q u vs are is in
    let fs = at.strict_ones in
    let split = same ∙ ap strict at.split ∙ strict_append (map Some fs) at.others
    ∙ ap (λ (x : List ElementValue). x ++ strict at.others) (sym (strict_some fs)) in
    inr (
      fs,
      strict at.others,
      subst (HasElements o) split (elements_there o es there),
      subst (AreParts (elements fs ∷ maybe (text_at o (codes "unparsed_structured_data")) ∷ [])) (sym at.front.whole)
          (two_parts (elements fs) (maybe (text_at o (codes "unparsed_structured_data"))) at.front.piece at.unparsed
          (many_parts at.front.piece at.unparsed fs at.front.is)
          (unparsed_part o at.unparsed (left ∙ ap (λ x. option_map text_json (if_any x)) e))),
    )

-- all elements are found
all_there : (o : Json) (p : Text) (es : List ElementValue) → get (codes "structured_data") o ≡ structured_json es
    → elements es p → structured_data o p
all_there o p es there is =
    inr (
      es,
      [],
      subst (HasElements o) (sym (append-nil es)) (elements_there o es there),
      subst (AreParts (elements es ∷ maybe (text_at o (codes "unparsed_structured_data")) ∷ [])) (append-nil p)
          (two_parts (elements es) (maybe (text_at o (codes "unparsed_structured_data"))) p [] is (inl refl)),
    )

loose_part : (o : Json) (rule : DashRule) (p q : Text) (v : Option (List ElementValue))
    → get (codes "structured_data") o ≡ structured_json (unwrap_or v []) → (optional (rfc3164_list rule)).Is p q v
    → structured_data o p
loose_part o rule p q None there is = all_there o p [] there is.0
loose_part o rule p q (Some es) there (inl (d, follows, none)) = inl (d, there ∙ ap structured_json none)
loose_part o rule p q (Some es) there (inr (some, is)) = all_there o p es there (full_parts p q es is)

-- ---- a line of RFC 5424

-- the pieces with these elements in the place of what is left of them
abbrev with_list : Values leaving_row → List ElementValue → Values rfc5424_row
with_list (pri, (v, (_, (stamp, (_, (name, (_, (app, (_, (id, (_, (msgid, (_, (_, (_, (m, _)))))))))))))))) es =
    (pri, (v, (tt, (stamp, (tt, (name, (tt, (app, (tt, (id, (tt, (msgid, (tt, (es, (tt, (m, tt))))))))))))))))

-- the parts between the white space at the ends
abbrev strict_inner : Json → List Part
strict_inner o =
    maybe (priority o) ∷ version o ∷ blanks ∷ either (dash_at o (codes "timestamp")) (rfc3339 o)
    ∷ blanks ∷ name_at o (codes "hostname") ∷ blanks ∷ name_at o (codes "appname")
    ∷ blanks ∷ either (dash_at o (codes "procid")) (process o) ∷ blanks ∷ name_at o (codes "msgid")
    ∷ blanks ∷ structured_data o ∷ blanks ∷ text_at o (codes "message") ∷ []

abbrev strict_object : Values leaving_row → List ElementValue → Option Text → Option Text → Json
strict_object vs es dialect raw =
    message_json (message_of (with_list vs es)) (beside_line dialect (left_of vs) raw)

strict_parts : (t : Text) (vs : Values leaving_row) (dialect raw : Option Text) → Division leaving_row t vs
    → (es : List ElementValue) × Division rfc5424_row t (with_list vs es)
    × AreParts (strict_inner (strict_object vs es dialect raw)) t
strict_parts t vs dialect raw d =
    let (t1, pri, (t2, number_, (t3, s1, (t4, stamp, (t5, s2, (t6, name, (t7, s3, more))))))) =
    row_pieces leaving_row (division_front leaving_row d) in
    let (t8, app, (t9, s4, (t10, id, (t11, s5, after_id)))) = more in
    let (t12, msgid, (t13, s6, (t14, list, (t15, s7, (t16, msg, end))))) = after_id in
    let ((es, forgiven), left) = list.is in
    let listed : Front forgiving t13 t14 es = front_of list.piece list.whole forgiven in
    let m : MessageValue = message_of (with_list vs es) in
    let b = beside_line dialect (left_of vs) raw in
    let o : Json = strict_object vs es dialect raw in
    let parts : AreParts (strict_inner o) t =
    begins pri (priority_part o pri.piece t1 vs.0 (facility_at m b) (severity_at m b) pri.is)
    before begins number_ (version_part o number_.piece t2 vs.1.0 (version_at m b) number_.is)
    before begins s1 s1.is.1
    before begins stamp (stamp_part o stamp.piece t4 vs.1.1.1.0 (timestamp_at m b) stamp.is)
    before begins s2 s2.is.1
    before begins name (named_part o (codes "hostname") name.piece vs.1.1.1.1.1.0 (hostname_at m b)
    (host_text name.piece t6 vs.1.1.1.1.1.0 name.is))
    before begins s3 s3.is.1
    before begins app (named_part o (codes "appname") app.piece vs.1.1.1.1.1.1.1.0 (appname_at m b)
    (names_text app.piece vs.1.1.1.1.1.1.1.0 app.is.4))
    before begins s4 s4.is.1
    before begins id (process_part o id.piece t10 vs.1.1.1.1.1.1.1.1.1.0 (procid_at m b) id.is)
    before begins s5 s5.is.1
    before begins msgid (named_part o (codes "msgid") msgid.piece vs.1.1.1.1.1.1.1.1.1.1.1.0 (msgid_at m b)
    (names_text msgid.piece vs.1.1.1.1.1.1.1.1.1.1.1.0 msgid.is.4))
    before begins s6 s6.is.0
    before begins list (strict_part o list.piece t14 (left_of vs) es (elements_at m b) (unparsed_at m b) forgiven left)
    before begins s7 s7.is.0
    before begins msg (message_at m b ∙ ap (λ (x : Text). Some (text_json x)) msg.is.1)
    before end in (
      es,
      front_division rfc5424_row (row_of rfc5424_row (pri then number_ then s1 then stamp then s2 then name then s3
          then app then s4 then id then s5 then msgid then s6 then listed then s7 then msg then end)),
      parts,
    )

strict_account : (text : Text) (m : MessageValue) (u : Text) (dialect raw : Option Text) → IsRead5424 text m
    → Leaves5424 text u → (dating : Dating) → AccountsFor dating (message_json m (beside_line dialect u raw)) text
strict_account text m u dialect raw read leaves dating =
    let (es, d, parts) = strict_parts (trimmed text) leaves.values dialect raw leaves.division in
    let same : m ≡ message_of (with_list leaves.values es) =
    read.means ∙ ap message_of (unique_division rfc5424_row rfc5424_det read.division d).1 in
    let o : Json = strict_object leaves.values es dialect raw in
    let found : AccountsFor dating o text =
    inl (
      protocol_at (message_of (with_list leaves.values es)) (beside_line dialect (left_of leaves.values) raw),
      around (strict_inner o) text parts,
    ) in
    let b = beside_line dialect (left_of leaves.values) raw in
    subst (λ (x : Text). AccountsFor dating (message_json m (beside_line dialect x raw)) text) (sym leaves.means)
    (subst (λ (n : MessageValue). AccountsFor dating (message_json n b) text) (sym same) found)

-- ---- the names of RFC 3164

-- what the object has of names
abbrev HasNames : Json → Names3164 → Type 0
HasNames o n = (get (codes "hostname") o ≡ option_map text_json n.hostname)
    × (get (codes "appname") o ≡ option_map text_json n.appname)
    × (get (codes "procid") o ≡ option_map (λ p. text_json (procid_text p)) n.procid)

form_part : (o : Json) (text tag id : Text) (process_ : ProcId Text) → IsForm text tag id → NamesProcess id process_
    → get (codes "appname") o ≡ Some (text_json tag) → get (codes "procid") o ≡ Some (text_json (procid_text process_))
    → program o text
form_part o text tag id process_ form names_it app there =
    inr (subst (AreParts (text_at o (codes "appname") ∷ this (91 ∷ []) ∷ process o ∷ this (93 ∷ []) ∷ []))
    (sym form.whole)
    (row_parts form_row (text_at o (codes "appname") ∷ this (91 ∷ []) ∷ process o ∷ this (93 ∷ []) ∷ []) form.pieces []
    (tag, (tt, (id, (tt, tt))))
    ((λ a r h. app ∙ ap (λ (x : Text). Some (text_json x)) h.2)
    also (λ a r h. h)
    also (λ a r h. (process_, subst (λ (x : Text). NamesProcess x process_) h.2 names_it, there))
    also (λ a r h. h)
    also tt) form.each))

-- a program of its own, or what the text means otherwise
program_part : (o : Json) (text : Text) (h : Option Text) (n : Names3164) → HasNames o n
    → NamesByForm h text (names h (Some text) None) n → program o text
program_part o text h n has (inl (tag, id, process_, form, names_it, is)) =
    form_part o text tag id process_ form names_it (has.1 ∙ ap (λ (x : Names3164). option_map text_json x.appname) is)
    (has.2 ∙ ap (λ (x : Names3164). option_map (λ p. text_json (procid_text p)) x.procid) is)
program_part o text h n has (inr (other, is)) = inl (has.1 ∙ ap (λ (x : Names3164). option_map text_json x.appname) is)

-- the host of such a text
program_host : (text : Text) (h : Option Text) (n : Names3164) → NamesByForm h text (names h (Some text) None) n
    → n.hostname ≡ h
program_host text h n (inl (tag, id, process_, form, names_it, is)) = ap (λ (x : Names3164). x.hostname) is
program_host text h n (inr (other, is)) = ap (λ (x : Names3164). x.hostname) is

-- a space and a part
after_space : (P : Part) (p t : Text) → p ≡ 32 ∷ t → P t → spaced P p
after_space P p t e is = subst (spaced P) (sym e) (32 ∷ [], t, refl, refl, (t, [], sym (append-nil t), is, refl))

-- both fields are there, or one
both_fields : (o : Json) (p r : Text) → maybe (spaced (name_at o (codes "hostname"))) p → maybe (spaced (program o)) r
    → host_and_program o (p ++ r)
both_fields o p r host_ program_ =
    inl (two_parts (maybe (spaced (name_at o (codes "hostname")))) (maybe (spaced (program o))) p r host_ program_)

lost_host : (o : Json) (p r : Text) → maybe (spaced visible) p → spaced (dash_at o (codes "appname")) r
    → host_and_program o (p ++ r)
lost_host o p r host_ tag =
    inr (two_parts (maybe (spaced visible)) (spaced (dash_at o (codes "appname"))) p r host_ tag)

-- a host alone, which may be of the form of a program
lone_part : (o : Json) (p r t q lone : Text) (n : Names3164) → HasNames o n → p ≡ 32 ∷ t
    → host.Is t q (Some lone) → r ≡ []
    → NamesByForm None lone (names (Some lone) None None) n → host_and_program o (p ++ r)
lone_part o p r t q lone n has e is none (inl (tag, id, process_, form, names_it, same)) =
    let own : t ≡ lone = host_text t q (Some lone) is in
    let here = form_part o lone tag id process_ form names_it
    (has.1 ∙ ap (λ (x : Names3164). option_map text_json x.appname) same)
    (has.2 ∙ ap (λ (x : Names3164). option_map (λ y. text_json (procid_text y)) x.procid) same) in
    subst (host_and_program o) (sym (ap (λ (x : Text). p ++ x) none ∙ append-nil p))
    (both_fields o [] p (inl refl) (inr (after_space (program o) p t e (subst (program o) (sym own) here))))
lone_part o p r t q lone n has e is none (inr (other, same)) =
    both_fields o p r
    (inr (after_space (name_at o (codes "hostname")) p t e
    (named_part o (codes "hostname") t (Some lone)
    (has.0 ∙ ap (λ (x : Names3164). option_map text_json x.hostname) same) (host_text t q (Some lone) is))))
    (inl none)

-- the field of a host that the object has
host_field_part : (o : Json) (p q : Text) (v : Option (Option Text)) (n : Option Text)
    → (optional (after 32 host)).Is p q v
    → unwrap_or v None ≡ n → get (codes "hostname") o ≡ option_map text_json n
    → maybe (spaced (name_at o (codes "hostname"))) p
host_field_part o p q None n is same there = inl is.0
host_field_part o p q (Some v) n (t, e, is) same there =
    inr (after_space (name_at o (codes "hostname")) p t e
    (named_part o (codes "hostname") t v (there ∙ ap (option_map text_json) (sym same)) (host_text t q v is)))

-- the field of a host, whether the object has it or not
any_host_part : (p q : Text) (v : Option (Option Text)) → (optional (after 32 host)).Is p q v → maybe (spaced visible) p
any_host_part p q None is = inl is.0
any_host_part p q (Some v) (t, e, is) = inr (after_space visible p t e is.1)

-- the field of a program
program_field_part : (o : Json) (r q : Text) (text : Text) → (optional (after 32 tag_word)).Is r q (Some (Some text))
    → program o text → maybe (spaced (program o)) r
program_field_part o r q text (t, e, is) here =
    inr (after_space (program o) r t e (subst (program o) (sym (names_text t (Some text) is.3)) here))

dash_field : (o : Json) (r q : Text) → (optional (after 32 tag_word)).Is r q (Some None)
    → get (codes "appname") o ≡ None → spaced (dash_at o (codes "appname")) r
dash_field o r q (t, e, is) there = after_space (dash_at o (codes "appname")) r t e (names_text t None is.3, there)

names_part : (o : Json) (p q r s : Text) (v w : Option (Option Text)) (n : Names3164) → HasNames o n
    → (optional (after 32 host)).Is p q v → (optional (after 32 tag_word)).Is r s w → Resolves v w n
    → host_and_program o (p ++ r)
names_part o p q r s None None n has left right is =
    both_fields o p r (inl left.0) (inl right.0)
names_part o p q r s (Some None) None n has left right is =
    let none = sym (ap (λ (x : Names3164). x.hostname) is) in
    both_fields o p r (host_field_part o p q (Some None) n.hostname left none has.0) (inl right.0)
names_part o p q r s (Some (Some lone)) None n has (t, e, is_host) right is =
    lone_part o p r t q lone n has e is_host right.0 is
names_part o p q r s None (Some (Some text)) n has left right is =
    both_fields o p r (inl left.0) (program_field_part o r s text right (program_part o text None n has is))
names_part o p q r s (Some origin) (Some (Some text)) n has left right is =
    both_fields o p r
    (host_field_part o p q (Some origin) n.hostname left (sym (program_host text origin n is)) has.0)
    (program_field_part o r s text right (program_part o text origin n has is))
names_part o p q r s v (Some None) n has left right is =
    lost_host o p r (any_host_part p q v left)
    (dash_field o r s right (has.1 ∙ ap (λ (x : Names3164). option_map text_json x.appname) is))

-- ---- a line of RFC 3164

abbrev loose_inner : Dating → Json → List Part
loose_inner dating o =
    maybe (priority o) ∷ blanks ∷ either (dash_at o (codes "timestamp")) (either (rfc3339 o) (dated dating o))
    ∷ host_and_program o ∷ blanks ∷ maybe (this (58 ∷ [])) ∷ blanks ∷ structured_data o ∷ blanks
    ∷ text_at o (codes "message") ∷ []

colon_part : (p q : Text) (v : Option (Unit {0})) → (optional (exactly (58 ∷ []))).Is p q v → maybe (this (58 ∷ [])) p
colon_part p q None is = inl is.0
colon_part p q (Some v) is = inr is

loose_parts : (rule : DashRule) (dating : Dating) (t : Text) (vs : Values (rfc3164_row rule dating)) (m : MessageValue)
    (dialect raw : Option Text) → Division (rfc3164_row rule dating) t vs → Means3164 rule dating vs m
    → AreParts (loose_inner dating (message_json m (beside_line dialect [] raw))) t
loose_parts rule dating t vs m dialect raw d (n, resolves, means) =
    let (t1, pri, (t2, s1, (t3, stamp, (t4, origin, (t5, tag, more))))) =
    row_pieces (rfc3164_row rule dating) (division_front (rfc3164_row rule dating) d) in
    let (t6, s2, (t7, mark, (t8, s3, (t9, list, (t10, s4, (t11, msg, end)))))) = more in
    let made : MessageValue = message_of_parts protocol.RFC3164 vs.0 vs.1.1.0 n.hostname n.appname n.procid None
    (unwrap_or vs.1.1.1.1.1.1.1.1.0 []) vs.1.1.1.1.1.1.1.1.1.1.0 in
    let b = beside_line dialect [] raw in
    let o : Json = message_json made b in
    let has : HasNames o n = (hostname_at made b, appname_at made b, procid_at made b) in
    let both : Begins (host_and_program o) t3 t5 = record {
      first = origin.piece ++ tag.piece;
      whole = origin.whole ∙ ap (λ (x : Text). origin.piece ++ x) tag.whole
          ∙ sym (append_assoc origin.piece tag.piece t5);
      is = names_part o origin.piece t4 tag.piece t5 vs.1.1.1.0 vs.1.1.1.1.0 n has origin.is tag.is resolves;
    } in
    let parts : AreParts (loose_inner dating o) t =
    begins pri (priority_part o pri.piece t1 vs.0 (facility_at made b) (severity_at made b) pri.is)
    before begins s1 s1.is.0
    before begins stamp (loose_stamp_part dating o stamp.piece t3 vs.1.1.0 (timestamp_at made b) stamp.is)
    before both
    before begins s2 s2.is.0
    before begins mark (colon_part mark.piece t7 vs.1.1.1.1.1.1.0 mark.is)
    before begins s3 s3.is.0
    before begins list (loose_part o rule list.piece t9 vs.1.1.1.1.1.1.1.1.0 (elements_at made b) list.is)
    before begins s4 s4.is.0
    before begins msg (message_at made b ∙ ap (λ (x : Text). Some (text_json x)) msg.is.1)
    before end in
    subst (λ (x : MessageValue). AreParts (loose_inner dating (message_json x b)) t) (sym means) parts

loose_account : (rule : DashRule) (dating : Dating) (text : Text) (m : MessageValue) (u : Text)
    (dialect raw : Option Text)
    → IsRead3164 rule dating text m → u ≡ [] → AccountsFor dating (message_json m (beside_line dialect u raw)) text
loose_account rule dating text m u dialect raw read none =
    let o : Json = message_json m (beside_line dialect [] raw) in
    let b = beside_line dialect [] raw in
    let (n, resolves, means) = read.means in
    let found : AccountsFor dating o text =
    inr (
      protocol_at m b ∙ ap (λ (x : MessageValue). Some (string (protocol_text x.protocol))) means,
      around (loose_inner dating o) text
          (loose_parts rule dating (trimmed text) read.values m dialect raw read.division read.means),
    ) in
    subst (λ (x : Text). AccountsFor dating (message_json m (beside_line dialect x raw)) text) (sym none) found

-- ---- a line

pub accounts : (variant : Variant) (dating : Dating) (text : Text) (m : MessageValue) (u : Text)
    (dialect raw : Option Text)
    → IsRead variant dating text m → Leaves variant text u
    → AccountsFor dating (message_json m (beside_line dialect u raw)) text
accounts RFC5424 dating text m u dialect raw read leaves = strict_account text m u dialect raw read leaves dating
accounts RFC3164 dating text m u dialect raw read leaves =
    loose_account dash_rule dating text m u dialect raw read leaves
accounts Either dating text m u dialect raw (inl read) (inl leaves) =
    strict_account text m u dialect raw read leaves dating
accounts Either dating text m u dialect raw (inl read) (inr (not, none)) = absurd (not read.values read.division)
accounts Either dating text m u dialect raw (inr (not, read)) (inl leaves) =
    let (es, d, parts) = strict_parts (trimmed text) leaves.values dialect raw leaves.division in
    absurd (not (with_list leaves.values es) d)
accounts Either dating text m u dialect raw (inr (not, read)) (inr (same, none)) =
    loose_account dash_rule dating text m u dialect raw read none
