-- Texts of RFC 5424: one division, and what is read back of a printed text: the message exactly if it is canonical, and
-- what is read is canonical, up to an absent facility or severity.
use Rattle.syslog_loose.proofs.Names.{no_truth, skip_leading_whitespace, drop_trailing_whitespace, stamp_text_canonical}
use Rattle.syslog_loose.proofs.Names.{[], is_not_whitespace, priority_composed, printed_stamp_back, append_cancel_right}
use Rattle.syslog_loose.proofs.Names.{AllDeterministic, run_det, IsCanonicalStamp, IsBoundedProtocol, IsCanonicalInBoth}
use Rattle.syslog_loose.proofs.Names.{unique_division, process_texts, IsCanonicalWord, option_and_then, facility_number}
use Rattle.syslog_loose.proofs.Names.{front_division, is_ascii_digit, timestamp_text, severity_number, OffsetTimestamp}
use Rattle.syslog_loose.proofs.Names.{ℕ, division_front, SyslogFacility, SyslogSeverity, BeforeAnything, IsCanonicalFor}
use Rattle.syslog_loose.proofs.Names.{rules, element_texts, message_texts, optional_some, option_map_or, AllByRecursion}
use Rattle.syslog_loose.proofs.Names.{optional_det, some_run_det, text_list, header_stamp, elements_text, named_process}
use Rattle.syslog_loose.proofs.Names.{AreInPieces, priority_det, MessageValue, process_word, process_text, ElementValue}
use Rattle.syslog_loose.proofs.Names.{◌≡◌, rest_quotes, host_quotes, rfc5424_row, both_values, printed_row, facility_of}
use Rattle.syslog_loose.proofs.Names.{◌∷◌, EndsVisibly, piece_front, number_back, IsCanonical, priority_of, named_names}
use Rattle.syslog_loose.proofs.Names.{all_joined, row_quotes, header_row, front_row, message_of, IsRead5424, rest_front}
use Rattle.syslog_loose.proofs.Names.{names_row, rest_whole, front_same, row_pieces, LOG_SYSLOG, Quotes5424, option_map}
use Rattle.syslog_loose.proofs.Names.{Text, name_text, rows_join, unwrap_or, SEV_DEBUG, host_back, IsBounded, words_row}
use Rattle.syslog_loose.proofs.Names.{rest_det, flat_map, some_run, optional, is_blank, priority, host_det, data_row}
use Rattle.syslog_loose.proofs.Names.{ap, NoFront, row_cons, row_head, Division, DashRule, Protocol, composed, tail_row}
use Rattle.syslog_loose.proofs.Names.{◌also◌, subst, Values, trimmed, number, Quoted, silent, decimal, classes, printed}
use Rattle.syslog_loose.proofs.Names.{◌∙◌, Front, IfSome, Format, ◌then◌, Option, IsSome, arith, row_of, ProcId, IsTrue}
use Rattle.syslog_loose.proofs.Names.{rest, List, Ends, host, word, ◌++◌, Some, None, refl, Bool, Class, Line, true}
use Rattle.syslog_loose.proofs.Names.{sym, run, ◌≤◌, ◌<◌, ◌^◌, ◌+◌, ◌*◌, ◌↔◌, Row}
use Rattle.syslog_loose.specs.Bodies.View5424.{FitsNames, names_before}
use Rattle.syslog_text.proofs.{PieceLemmas.Class.front_of, TextLemmas.Quotes.word_quotes}
use Rattle.syslog_text.proofs.PieceLemmas.Lists.{AllSound, row_back}
use Rattle.syslog_pieces.proofs.ProcIdLemmas.{process_quotes, process_word_det, process_back, process_canonical}
use Rattle.syslog_pieces.proofs.ProcIdLemmas.{process_bounded, absent_front, process_front}
use Rattle.syslog_text.proofs.TextLemmas.Words.{number_det, word_det, word_back, word_canonical, host_canonical}
use Rattle.syslog_text.proofs.TextLemmas.Words.{NoColonNext, blanks_next}
use Rattle.syslog_elements.proofs.StructuredDataLemmas.Elements.{forgiving_det, forgiving_back, forgiving_canonical}
use Rattle.syslog_elements.proofs.StructuredDataLemmas.Elements.{no_item_nil, no_item_before}
use Rattle.syslog_elements.proofs.StructuredDataLemmas.Units.{forgiving_quotes}
use Rattle.syslog_pieces.proofs.TimestampLemmas.Rfc3339.{header_stamp_det}
use Rattle.syslog_pieces.specs.ProcId.{IsCanonicalProcess, IsBoundedProcess}
use Rattle.syslog_text.specs.Text.Canonical.{IsCanonicalHost, IsVisible}
use Rattle.syslog_text.specs.Pieces.Format.{IsSound, RowReadsBack}
use Rattle.syslog_elements.specs.StructuredData.{forgiving, item}
use Rattle.syslog_elements.{proofs.StructuredDataLemmas.Unparsed.leaving_back, specs.StructuredData.Unparsed.leaving}
use Rattle.syslog_loose.specs.{Canonical.IsCanonical5424, Printed.printed_5424, Unparsed.Leaves5424}
use Rattle.syslog_loose.specs.declared.message.Protocol.TheVariants.{RFC5424}
use Rattle.syslog_loose.proofs.PrintedLemmas.{priority_small, stamp_unblank, last_append, elements_last, message_blanks}
use Rattle.syslog_loose.proofs.PrintedLemmas.{parts_back, priority_low, row_trimmed, last_ends, drop_ends, message_end}
use Rattle.syslog_loose.proofs.PrintedLemmas.{severity_beside, priority_front, priority_trimmed, visible_ends_blanks}

pub front_det : AllDeterministic front_row
front_det = search (rules, optional_det, priority_det, number_det, some_run_det, header_stamp_det)

pub names_det : AllDeterministic names_row
names_det = search (rules, some_run_det, host_det, word_det, process_word_det)

-- the process id that a word names
pub named_front : {t q : Text} {v : Option Text} → Front word t q v
    → Front process_word t q (option_map named_process v)
named_front {v = None} f = absent_front f
named_front {v = Some t} f = process_front (named_process t) f (named_names t)

-- so the names, one of which is a word, are there with the process that it names
pub names_front : {t q : Text} {vs : Values words_row} → Front (Row words_row) t q vs → Front (Row names_row) t q (
  tt,
  (vs.1.0, (tt, (vs.1.1.1.0, (tt, (option_map named_process vs.1.1.1.1.1.0, (tt, (vs.1.1.1.1.1.1.1.0, tt))))))),
)
names_front f =
    let (t1, s1, (t2, name, (t3, s2, (t4, app, (t5, s3, (t6, process, (t7, s4, (t8, id, end)))))))) =
    row_pieces words_row f in
    row_of names_row (s1 then name then s2 then app then s3 then named_front process then s4 then id then end)

pub header_det : AllDeterministic header_row
header_det = all_joined front_row names_row front_det names_det

pub data_det : AllDeterministic data_row
data_det = run_det is_blank also forgiving_det also run_det is_blank also rest_det also tt

pub rfc5424_det : AllDeterministic rfc5424_row
rfc5424_det = all_joined header_row data_row header_det data_det

-- a text is read as one message
pub one_message : (text : Text) (m n : MessageValue) → IsRead5424 text m → IsRead5424 text n → m ≡ n
one_message text m n r s =
    r.means ∙ ap message_of (unique_division rfc5424_row rfc5424_det r.division s.division).1 ∙ sym s.means

-- ---- the texts of a message are in the pieces
quoted_row : Quoted rfc5424_row
quoted_row =
    silent (optional priority) also silent (number 4294967295) also silent (some_run is_blank) also silent header_stamp
    also silent (some_run is_blank) also (text_list, host_quotes) also silent (some_run is_blank)
    also (text_list, word_quotes)
    also silent (some_run is_blank) also (process_texts, process_quotes) also silent (some_run is_blank)
    also (text_list, word_quotes) also silent (run is_blank) also ((λ es. flat_map element_texts es), forgiving_quotes)
    also silent (run is_blank) also ((λ t. t ∷ []), rest_quotes) also tt

pub quotes : (text : Text) (m : MessageValue) → IsRead5424 text m → Quotes5424 text m
unfolding quoted_row
quotes text m r = record {
  read = r;
  each = subst (λ (x : MessageValue). AreInPieces r.division.pieces (message_texts x)) (sym r.means)
      (row_quotes rfc5424_row quoted_row r.division.pieces [] r.values r.division.each);
}

-- ---- the pieces as formats: how each is read and printed, and what is read back

-- a version
abbrev pub version_number : Format
version_number = record {
  reads = number 4294967295;
  print = decimal;
  ReadsBack = λ n. n ≤ 4294967295;
  Before = λ q. Ends is_ascii_digit q;
}

-- blanks, printed as one space
abbrev pub blanks_field : Class → Format
blanks_field C = record { reads = C; print = λ v. 32 ∷ []; ReadsBack = λ v. Unit {0}; Before = λ q. Ends is_blank q }

abbrev pub space : Format
space = blanks_field (some_run is_blank)

-- a timestamp, or `-`
abbrev pub stamp_field : Format
stamp_field = record {
  reads = header_stamp;
  print = timestamp_text;
  ReadsBack = λ v. IfSome v IsCanonicalStamp;
  Before = λ q. (r : Text) × (q ≡ 32 ∷ r);
}

-- a name before a blank
abbrev pub name_field : (C : Class) → (C.Value → Text) → (C.Value → Type 0) → Format
name_field C print P = record { reads = C; print = print; ReadsBack = P; Before = λ q. Ends is_not_whitespace q }

abbrev pub host_field : Format
host_field = name_field host name_text (λ v. IfSome v IsCanonicalHost)

abbrev pub word_field : Format
word_field = name_field word name_text (λ v. IfSome v IsCanonicalWord)

abbrev pub process_field : Format
process_field = name_field process_word process_text (λ v. IfSome v IsCanonicalProcess × IfSome v IsBoundedProcess)

-- from the version up to the space before the elements
abbrev pub fields : List Format
fields =
    version_number ∷ space ∷ stamp_field ∷ space ∷ host_field ∷ space ∷ word_field ∷ space ∷ process_field ∷ space
    ∷ word_field ∷ []

-- ---- the printed fields, as formats

-- what is read of a timestamp is canonical
pub stamp_canonical : (p q : Text) (v : Option OffsetTimestamp) → header_stamp.Is p q v → IfSome v IsCanonicalStamp
stamp_canonical p q None h = tt
stamp_canonical p q (Some s) h = stamp_text_canonical p s h.0

stamp_sound : IsSound stamp_field
stamp_sound None q h b = refl
stamp_sound (Some s) q h b = (printed_stamp_back s h, b)

space_sound : IsSound space
space_sound v q h b = (omega arith, (refl, tt), b)

fields_sound : AllSound fields
fields_sound =
    (λ n q h b. number_back n 4294967295 q h (omega arith) b) also space_sound also stamp_sound also space_sound
    also host_back also space_sound also word_back also space_sound
    also (λ v q h b. process_back v q h.0 h.1 b) also space_sound also word_back also tt

-- a word, a host, a process id and elements begin with no blank
name_unblank : (v : Option Text) (q : Text) (P : Text → Type 0) → ((t : Text) → P t → IsVisible t) → IfSome v P
    → Ends is_blank (name_text v ++ q)
name_unblank None q P f h = refl
name_unblank (Some t) q P f h = let (long, visible) = f t h in visible_ends_blanks t q long visible

pub process_unblank : (v : Option (ProcId Text)) (q r : Text) → process_word.Is (process_text v) r v
    → Ends is_blank (process_text v ++ q)
process_unblank None q r h = refl
process_unblank (Some p) q r (t, w, n) = visible_ends_blanks (process_text (Some p)) q w.0 w.1

elements_unblank : (es : List ElementValue) (q : Text) → Ends is_blank (elements_text es ++ q)
elements_unblank [] q = refl
elements_unblank (e ∷ es) q = refl

-- ---- a rest that is in printed form

-- its list and its message part, after its names
pub data_printed : {line : Line} {text after start left own msg : Text} {es : List ElementValue}
    → FitsNames text line after → Front (run is_blank) after start tt → Front forgiving start left es → start ≡ own
    ++ left
    → text ≡ names_before line (32 ∷ (elements_text es ++ (32 ∷ msg)))
    → IsTrue line.is_printed × (after ≡ 32 ∷ start) × (own ≡ elements_text es) × (left ≡ 32 ∷ msg)
data_printed {left = left} {own = own} {msg = msg} {es = es} names gap list cut e =
    let end : Text = 32 ∷ msg in
    let (starts, more) = names.only (32 ∷ (elements_text es ++ end)) e in
    let one_space = front_of (32 ∷ []) (sym more) ((refl, tt), elements_unblank es end) in
    let here = (front_same (run is_blank) (run_det is_blank) gap one_space).0 in
    let back = forgiving_back es end (forgiving_canonical list.piece left es list.is)
    (no_item_before 32 msg (λ e. omega arith)) in
    let rest = (front_same forgiving forgiving_det list (front_of (elements_text es) here back)).0 in
    let same = sym cut ∙ here ∙ ap (λ (x : Text). elements_text es ++ x) (sym rest) in (
      starts,
      sym more ∙ ap (λ (x : Text). 32 ∷ x) (sym here),
      append_cancel_right own (elements_text es) left same,
      rest,
    )

-- all of it, by four tests
pub rest_fits : {line : Line} {text after start left own msg : Text} {es : List ElementValue}
    {b gap_fits list_fits space_fits : Bool} → FitsNames text line after → Front (run is_blank) after start tt
    → Front forgiving start left es → start ≡ own ++ left
    → IsTrue b ↔ AllByRecursion IsTrue (line.is_printed ∷ gap_fits ∷ list_fits ∷ space_fits ∷ true ∷ [])
    → IsTrue gap_fits ↔ (after ≡ 32 ∷ start) → IsTrue list_fits ↔ (own ≡ elements_text es)
    → IsTrue space_fits ↔ (left ≡ 32 ∷ msg)
    → IsTrue b ↔ (text ≡ names_before line (32 ∷ (elements_text es ++ (32 ∷ msg))))
rest_fits {line = line} {left = left} {es = es} names gap list cut all one own_is space = (
  (λ e. (let (starts, (g, (l, (s, _)))) = all.0 e in
      let body = cut ∙ ap (λ (x : Text). x ++ left) (own_is.0 l)
      ∙ ap (λ (x : Text). elements_text es ++ x) (space.0 s) in
      names.prints starts ∙ ap (λ (x : Text). names_before line x) (one.0 g ∙ ap (λ (x : Text). 32 ∷ x) body))),
  (λ e. (let (starts, g, l, s) = data_printed names gap list cut e in
      all.1 (starts, (one.1 g, (own_is.1 l, (space.1 s, (refl, tt))))))),
)

no_item_end : (msg : Text) → NoFront item (message_end msg)
unfolding message_end
no_item_end [] = no_item_nil
no_item_end (c ∷ cs) = no_item_before 32 (c ∷ cs) (λ e. omega arith)

-- ---- the printed text of a message, read back
abbrev pub values_of : ℕ → MessageValue → Values (classes fields)
values_of version m =
    (version, (tt, (m.timestamp, (tt, (m.hostname, (tt, (m.appname, (tt, (m.procid, (tt, (m.msgid, tt)))))))))))

-- with this structured data, as the class means it
abbrev line_values : (C : Class) → C.Value → ℕ → MessageValue → Values (header_row ++ tail_row C)
line_values C v version m = (
  Some (priority_of m),
  both_values (classes fields) (tail_row C) (values_of version m) (tt, (v, (tt, (m.msg, tt)))),
)

-- what trimming leaves of it
trimmed_5424 : (version : ℕ) (m : MessageValue) → EndsVisibly m.msg → trimmed (printed_5424 version m) ≡ 60 ∷ (decimal
    (priority_of m) ++ (62 ∷ printed_row fields (values_of version m) (32
    ∷ (elements_text m.structured_data ++ message_end m.msg))))
unfolding printed_5424
trimmed_5424 version m h =
    let last = last_append (32 ∷ []) (elements_text m.structured_data) (elements_last m.structured_data) in
    priority_trimmed (priority_of m) _
    ∙ ap (λ (x : Text). 60 ∷ (decimal (priority_of m) ++ (62 ∷ x)))
    (row_trimmed fields (values_of version m) (32 ∷ elements_text m.structured_data) m.msg last h)

module _ (version : ℕ) (m : MessageValue) (bounded : version ≤ 4294967295) (b : IsBounded m) (p : IsCanonicalInBoth m)
    (q : IsCanonical5424 m) where
  fields_back : (t : Text) → RowReadsBack fields (values_of version m) (32 ∷ t)
  fields_back t =
      (bounded, refl) also (tt, stamp_unblank m.timestamp _) also (p.timestamp, (_, refl))
      also (tt, name_unblank m.hostname _ IsCanonicalHost (λ t k. k.0) p.hostname) also (p.hostname, refl)
      also (tt, name_unblank m.appname _ IsCanonicalWord (λ t k. k.0) q.appname) also (q.appname, refl)
      also (tt, process_unblank m.procid _ [] (process_back m.procid [] q.procid b.procid tt))
      also ((q.procid, b.procid), refl)
      also (tt, name_unblank m.msgid _ IsCanonicalWord (λ t k. k.0) q.msgid) also (q.msgid, refl) also tt

  listed : forgiving.Is (elements_text m.structured_data) (message_end m.msg) m.structured_data
  listed = forgiving_back m.structured_data (message_end m.msg) p.elements (no_item_end m.msg)

  -- the one division, piece by piece, by whichever class the structured data is read
  line_divided : (C : Class) (v : C.Value) → C.Is (elements_text m.structured_data) (message_end m.msg) v
      → Division (header_row ++ tail_row C) (trimmed (printed_5424 version m)) (line_values C v version m)
  line_divided C v is =
      let text = elements_text m.structured_data in
      let end : Text = message_end m.msg in
      let body = row_of (tail_row C) (piece_front (run is_blank) (32 ∷ []) _ tt
      ((refl, tt), elements_unblank m.structured_data end) then piece_front C text end v is
      then message_blanks m.msg p.msg_front then rest_front m.msg then refl) in
      let header = row_back fields fields_sound (values_of version m) _ (fields_back (text ++ end)) in
      front_division (header_row ++ tail_row C) (rw (trimmed_5424 version m p.msg_end)
      (row_cons (optional priority) (classes fields ++ tail_row C)
      (optional_some priority (priority_front (priority_of m) _ (priority_low m)))
      (rows_join (classes fields) (tail_row C) header body)))

  -- and nothing of its structured data is left unparsed
  leaves_nothing : Leaves5424 (printed_5424 version m) []
  leaves_nothing = record {
    values = line_values leaving [] version m;
    division = line_divided leaving [] (leaving_back m.structured_data (message_end m.msg) p.elements listed);
    means = refl;
  }

-- ---- messages

pub printed_is : (version : ℕ) (m : MessageValue) → m.protocol ≡ RFC5424 version → printed m ≡ printed_5424 version m
printed_is version m e = rw e refl

-- a canonical message is read back
pub canonical_read : (rule : DashRule) (version : ℕ) (m : MessageValue) → m.protocol ≡ RFC5424 version → IsBounded m
    → IsCanonical rule m → IsRead5424 (printed m) m
canonical_read rule version m e b c =
    let own : IsCanonical5424 m = subst (λ (x : Protocol). IsCanonicalFor rule x m) e c.1 in
    let bounded : version < 2 ^ 32 = subst IsBoundedProtocol e b.protocol in
    let parts = parts_back m.facility m.severity c.0.facility c.0.severity in
    subst (λ (x : Text). IsRead5424 x m) (sym (printed_is version m e)) (record {
      values = line_values forgiving m.structured_data version m;
      division = line_divided version m (omega arith) b c.0 own forgiving m.structured_data
          (listed version m (omega arith) b c.0 own);
      means = λ i. record m { protocol = e i; facility = parts.0 i; severity = parts.1 i };
    })

pub canonical_leaves : (rule : DashRule) (version : ℕ) (m : MessageValue) → m.protocol ≡ RFC5424 version → IsBounded m
    → IsCanonical rule m → Leaves5424 (printed m) []
canonical_leaves rule version m e b c = search (rules, leaves_nothing)

-- ---- what is read

-- the message with what an absent facility and severity print as, so that it prints the same
abbrev pub completed : MessageValue → MessageValue
completed m = record m {
  facility = Some (unwrap_or m.facility LOG_SYSLOG);
  severity = Some (unwrap_or m.severity SEV_DEBUG);
}

-- the pieces before the message part
abbrev row_before : List Class
row_before = header_row ++ (run is_blank ∷ forgiving ∷ run is_blank ∷ [])

-- the completed message that the pieces of a text mean is canonical
values_canonical : (rule : DashRule) (text : Text) (v : Values rfc5424_row) → Division rfc5424_row (trimmed text) v
    → IsCanonical rule (completed (message_of v)) × IsBounded (completed (message_of v))
values_canonical rule text v d =
    let row = division_front rfc5424_row d in
    let (t1, pri, (t2, number, (t3, s1, (t4, stamp, (t5, s2, (t6, name, (t7, s3, more))))))) =
    row_pieces rfc5424_row row in
    let (t8, app, (t9, s4, (t10, process, (t11, s5, after)))) = more in
    let (t12, id, (t13, s6, (t14, list, (t15, s7, (t16, msg, _))))) = after in
    let m = message_of v in
    let no_colon : NoColonNext t6 = rw s3.whole (blanks_next s3.piece t7 s3.is.0 s3.is.1) in
    let front : Ends is_blank m.msg = subst (Ends is_blank) (rest_whole msg) s7.is.1 in
    let end : EndsVisibly m.msg = last_ends row_before row (drop_ends (skip_leading_whitespace text)) in
    search (
      rules,
      stamp_canonical,
      host_canonical,
      forgiving_canonical,
      word_canonical,
      process_canonical,
      process_bounded,
    )

pub read_completed : (rule : DashRule) (text : Text) (m : MessageValue) → IsRead5424 text m
    → IsCanonical rule (completed m) × IsBounded (completed m)
read_completed rule text m r =
    subst (λ (x : MessageValue). IsCanonical rule (completed x) × IsBounded (completed x)) (sym r.means)
    (values_canonical rule text r.values r.division)

-- ---- a message that is read with a facility is canonical

filled : {A : Type 0} (v : Option A) (d : A) → IsSome v → Some (unwrap_or v d) ≡ v
filled None d h = absurd (no_truth h)
filled (Some x) d h = refl

pub read_canonical : (rule : DashRule) (text : Text) (m : MessageValue) → IsRead5424 text m → IsSome m.facility
    → IsCanonical rule m
read_canonical rule text m r f =
    let severity : IsSome m.severity = search (rules, severity_beside) in
    let same : completed m ≡ m = search (rules, filled) in
    subst (λ (x : MessageValue). IsCanonical rule x) same (read_completed rule text m r).0

-- ---- a printed message that is read back as itself has a facility

-- what an absent facility and severity print as
pub priority_same : (f : Option SyslogFacility) (s : Option SyslogSeverity) → composed (unwrap_or f LOG_SYSLOG)
    (unwrap_or s SEV_DEBUG) ≡ option_map_or facility_number f 5 * 8 + option_map_or severity_number s 7
priority_same f s = grind arith

begun_read : (n : ℕ) (more : Text) (v : Values rfc5424_row) → n < 192
    → Division rfc5424_row (trimmed (60 ∷ (decimal n ++ (62 ∷ more)))) v → v.0 ≡ Some n
begun_read n more v small d =
    let g = row_head (optional priority) (classes fields ++ data_row) (division_front rfc5424_row d) in
    let known : Front (optional priority) (trimmed (60 ∷ (decimal n ++ (62 ∷ more)))) (drop_trailing_whitespace more)
    (Some n) =
    rw (priority_trimmed n more) (optional_some priority (priority_front n _ (omega arith))) in
    (front_same (optional priority) (optional_det priority priority_det) g.1 known).1

pub read_is_canonical : (rule : DashRule) (version : ℕ) (m : MessageValue) → m.protocol ≡ RFC5424 version
    → IsRead5424 (printed m) m → IsCanonical rule m
unfolding printed_5424
read_is_canonical rule version m e r =
    let s : IsRead5424 (printed_5424 version m) m = subst (λ (x : Text). IsRead5424 x m) (printed_is version m e) r in
    let small = priority_small m in
    let first = begun_read (priority_of m) _ s.values small s.division in
    let (f, sev, there, told, same) = priority_composed (priority_of m) small in
    let facility : m.facility ≡ Some f =
    ap (λ (x : MessageValue). x.facility) s.means ∙ ap (option_and_then facility_of) first ∙ there in
    read_canonical rule (printed m) m r (rw facility refl)

-- ---- and the printed text of what was read is read as a message that prints the same

pub printed_again : (version : ℕ) (m : MessageValue) → m.protocol ≡ RFC5424 version → printed (completed m) ≡ printed m
unfolding printed_5424
printed_again version m e = search rules

pub read_again : (text : Text) (m : MessageValue) → IsRead5424 text m
    → IsRead5424 (printed m) (completed m) × (printed (completed m) ≡ printed m)
read_again text m r =
    let version = r.values.1.0 in
    let e : m.protocol ≡ RFC5424 version = ap (λ (x : MessageValue). x.protocol) r.means in
    let (canonical, bounded) = read_completed BeforeAnything text m r in
    let same = printed_again version m e in
    let again = canonical_read BeforeAnything version (completed m) e bounded canonical in
    (rw same at again, same)
