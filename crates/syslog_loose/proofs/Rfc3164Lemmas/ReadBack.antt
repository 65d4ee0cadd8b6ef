-- The printed text of a message of RFC 3164 is read as the message exactly if that is canonical: its division, piece by
-- piece.
use Rattle.syslog_loose.proofs.Names.{drop_trailing_whitespace, length-append, printed_stamp_back, printed_stamp-begins}
use Rattle.syslog_loose.proofs.Names.{◌++◌, IsCanonicalStamp, IsCanonicalElement, IsBracketedProcess, AreCanonicalNames}
use Rattle.syslog_loose.proofs.Names.{append_assoc, joined_elements, spaced_elements, OffsetTimestamp, IsBoundedProcess}
use Rattle.syslog_loose.proofs.Names.{is_label_char, no_spaced_piece, no_rfc3164_list, IsCanonicalHost, is_process_char}
use Rattle.syslog_loose.proofs.Names.{timestamp_text, is_ascii_digit, AllByRecursion, front_division, IsCanonical3164}
use Rattle.syslog_loose.proofs.Names.{List, rfc3164_stamp, optional_some, optional_none, decimal_digits, IsCanonicalFor}
use Rattle.syslog_loose.proofs.Names.{ElementValue, MessageValue, NamesProcess, element_text, rest_front, signed_writes}
use Rattle.syslog_loose.proofs.Names.{procid_text, full_element, BeginsNoList, rfc3164_list, is_open_char, spaced_front}
use Rattle.syslog_loose.proofs.Names.{◌≡◌, priority_of, elements_or, is_tag_char, both_values, piece_front, no_full_nil}
use Rattle.syslog_loose.proofs.Names.{rules, IsCanonical, rfc3164_row, IsRead3164, each_right, each_append, begins_with}
use Rattle.syslog_loose.proofs.Names.{tag_text, false, nat_tests, name_text, rows_join, host_back, IsBounded, each_left}
use Rattle.syslog_loose.proofs.Names.{ℕ, optional, priority, is_blank, tag_word, DashRule, row_cons, Resolves, body_row}
use Rattle.syslog_loose.proofs.Names.{Option, decimal, trimmed, ProcId, NoFront, exactly, Protocol, RFC3164, each_map}
use Rattle.syslog_loose.proofs.Names.{◌then◌, negsuc, nat_eq, length, IfSome, row_of, Values, spaced, IsMany, Dating}
use Rattle.syslog_loose.proofs.Names.{Some, None, refl, subst, arith, Front, colon, heads, names, IsForm, Begins, IsLow}
use Rattle.syslog_loose.proofs.Names.{◌∷◌, ◌∙◌, Text, ◌≢◌, ◌<◌, suc, pos, inl, inr, true, Each, Ends, dash, host, Name}
use Rattle.syslog_loose.proofs.Names.{[], ap, not, Row, run, PID}
use Rattle.syslog_loose.{proofs.PrintedLemmas.parts_back, specs.Canonical.EndsVisibly, specs.Printed.printed_3164}
use Rattle.syslog_loose.proofs.PrintedLemmas.{joined_last, LastVisible, last_append, drop_after, message_end_is}
use Rattle.syslog_loose.proofs.PrintedLemmas.{priority_low, priority_front, stamp_unblank, message_end, message_blanks}
pub use Rattle.syslog_loose.specs.Bodies.Jumps.{tail_text}
use Rattle.syslog_elements.proofs.StructuredDataLemmas.Elements.{element_back}
use Rattle.syslog_loose.proofs.Rfc3164Lemmas.{from_blanks, to_stamp, to_colon, from_stamp, told, digit_range}
use Rattle.syslog_pieces.specs.Timestamp.Printed.{printed_stamp}

-- ---- the printed text, cut at the colon after the names

-- `app[id]`
abbrev pub bracketed : Text → Text → Text
bracketed app id = app ++ (91 ∷ (id ++ (93 ∷ [])))

-- what is between the host and the colon
abbrev pub program_text : Option Text → Option (ProcId Text) → Text
program_text None p = []
program_text (Some a) None = a
program_text (Some a) (Some p) = bracketed a (procid_text p)

-- what is after the colon and its space
abbrev pub body_text : List ElementValue → Text → Text
body_text [] msg = msg
body_text (e ∷ es) msg = joined_elements (e ∷ es) ++ (32 ∷ msg)

-- the printed text up to the colon, and then this text
abbrev pub whole : MessageValue → Text → Text
whole m q =
    60 ∷ (decimal (priority_of m) ++ (62 ∷ 32 ∷ (timestamp_text m.timestamp ++ (32 ∷ (name_text m.hostname
    ++ (32 ∷ (program_text m.appname m.procid ++ (58 ∷ q))))))))

tag_is : (app : Option Text) (process : Option (ProcId Text)) (r : Text)
    → tag_text app process ++ r ≡ program_text app process ++ (58 ∷ 32 ∷ r)
tag_is None p r = refl
tag_is (Some a) None r = append_assoc a (58 ∷ 32 ∷ []) r
tag_is (Some a) (Some p) r = simp append_assoc

body_is : (es : List ElementValue) (msg : Text) → spaced_elements es ++ msg ≡ body_text es msg
body_is [] msg = refl
body_is (e ∷ es) msg = append_assoc (joined_elements (e ∷ es)) (32 ∷ []) msg

pub printed_whole : (m : MessageValue) → printed_3164 m ≡ whole m (32 ∷ body_text m.structured_data m.msg)
unfolding printed_3164
printed_whole m =
    rw (tag_is m.appname m.procid (spaced_elements m.structured_data ++ m.msg), body_is m.structured_data m.msg)

-- ---- trimming
whole_last : (m : MessageValue) → LastVisible (whole m [])
whole_last m =
    last_append (60 ∷ decimal (priority_of m)) _ (last_append (62 ∷ 32 ∷ timestamp_text m.timestamp) _ (last_append
    (32 ∷ name_text m.hostname) _ (last_append (32 ∷ program_text m.appname m.procid) (58 ∷ []) refl)))

tail_is : (es : List ElementValue) (msg : Text) → EndsVisibly msg
    → drop_trailing_whitespace (32 ∷ body_text es msg) ≡ tail_text es msg
tail_is [] msg h = message_end_is msg h
tail_is (e ∷ es) msg h =
    drop_after (32 ∷ joined_elements (e ∷ es)) (32 ∷ msg) (last_append (32 ∷ []) (joined_elements (e ∷ es))
    (joined_last e es)) ∙ ap (λ (x : Text). 32 ∷ (joined_elements (e ∷ es) ++ x)) (message_end_is msg h)

pub trimmed_whole : (m : MessageValue) → EndsVisibly m.msg
    → trimmed (printed_3164 m) ≡ whole m (tail_text m.structured_data m.msg)
trimmed_whole m h =
    let tail : Text = 32 ∷ body_text m.structured_data m.msg in
    let cut : trimmed (whole m tail) ≡ whole m (drop_trailing_whitespace tail) =
    simp append_assoc at (drop_after (whole m []) tail (whole_last m)) in
    ap trimmed (printed_whole m) ∙ cut ∙ ap (whole m) (tail_is m.structured_data m.msg h)

-- ---- elements and the message
many_back : (es : List ElementValue) (q : Text) → AllByRecursion IsCanonicalElement es → AllByRecursion
    (λ e. 0 < length e.params) es → NoFront full_element q → IsMany full_element (joined_elements es) q es
many_back [] q h k n = (refl, n)
many_back (e ∷ es) q h k n = (
  element_text e,
  joined_elements es,
  refl,
  (element_back e (joined_elements es ++ q) h.0, k.0),
  many_back es q h.1 k.1 n,
)

no_full_end : (msg : Text) → NoFront full_element (message_end msg)
unfolding message_end
no_full_end [] = no_full_nil
no_full_end (c ∷ cs) = search rules

abbrev pub list_field : List ElementValue → Option (List ElementValue)
list_field [] = None
list_field (e ∷ es) = Some (e ∷ es)

pub list_same : (es : List ElementValue) → es ≡ elements_or (list_field es)
list_same [] = refl
list_same (e ∷ es) = refl

pub body_back : (rule : DashRule) (es : List ElementValue) (msg : Text) → AllByRecursion IsCanonicalElement es
    → AllByRecursion (λ e. 0 < length e.params) es → Ends is_blank msg → (es ≡ [] → BeginsNoList rule msg)
    → Front (Row (from_blanks rule)) (tail_text es msg) [] (tt, (list_field es, (tt, (msg, tt))))
body_back rule [] msg h k b n =
    row_of (from_blanks rule) (message_blanks msg b then optional_none (rfc3164_list rule)
    (no_rfc3164_list rule msg (n refl)) then piece_front (run is_blank) [] msg tt (tt, b) then rest_front msg then refl)
body_back rule (e ∷ es) msg h k b n =
    row_of (from_blanks rule)
    (piece_front (run is_blank) (32 ∷ []) (joined_elements (e ∷ es) ++ message_end msg) tt ((refl, tt), refl)
    then optional_some (rfc3164_list rule)
    (piece_front (rfc3164_list rule) (joined_elements (e ∷ es)) (message_end msg) (e ∷ es)
    (inr (omega arith, many_back (e ∷ es) (message_end msg) h k (no_full_end msg))))
    then message_blanks msg b then rest_front msg then refl)

-- ---- the process
pub digit_inside : (c : ℕ) → is_ascii_digit c ≡ true → is_process_char c ≡ true
digit_inside c h = grind (arith, nat_tests)

pub process_chars : (process : ProcId Text) → IsBracketedProcess process → IsBoundedProcess process
    → (0 < length (procid_text process)) × Each is_process_char (procid_text process)
process_chars (PID (pos n)) h b =
    let (some, digits) = decimal_digits n (omega (arith, b)) in
    (some, each_map is_ascii_digit is_process_char digit_inside (decimal n) digits)
process_chars (PID (negsuc n)) h b =
    let (some, digits) = decimal_digits (suc n) (omega (arith, b)) in
    (omega arith, (refl, each_map is_ascii_digit is_process_char digit_inside (decimal (suc n)) digits))
process_chars (Name t) (some, each, none) b = (some, each)

process_named : (process : ProcId Text) → IsBracketedProcess process → IsBoundedProcess process
    → NamesProcess (procid_text process) process
process_named (PID n) h b = signed_writes n b
process_named (Name t) (some, each, none) b = (none, refl)

-- ---- the names

pub bracketed_chars : (a i : Text) → Each is_label_char a → Each is_process_char i → Each is_tag_char (bracketed a i)
bracketed_chars a i h k =
    each_append is_tag_char a (91 ∷ (i ++ (93 ∷ []))) (each_left is_tag_char (λ c. not (nat_eq c 91)) a h)
    (refl, each_append is_tag_char i (93 ∷ []) (each_left is_tag_char is_open_char i k) (refl, tt))

bracketed_form : (a i : Text) → Each is_label_char a → 0 < length i → Each is_process_char i
    → IsForm (bracketed a i) a i
bracketed_form a i h l k = record {
  pieces = a ∷ (91 ∷ []) ∷ i ∷ (93 ∷ []) ∷ [];
  whole = refl;
  each = ((tt, (h, refl), refl), (refl, ((tt, (l, each_right is_tag_char is_open_char i k, refl), refl), (refl, tt))));
}

abbrev pub program_field : Option Text → Option (ProcId Text) → Option (Option Text)
program_field None p = None
program_field (Some a) None = Some (Some a)
program_field (Some a) (Some p) = Some (Some (bracketed a (procid_text p)))

pub resolved : (origin app : Option Text) (process : Option (ProcId Text)) → AreCanonicalNames origin app process
    → IfSome process IsBoundedProcess → Resolves (Some origin) (program_field app process) (names origin app process)
resolved None None None h b = refl
resolved (Some o) None None h b = inr (h, refl)
resolved origin None (Some p) h b = absurd h
resolved origin (Some a) None (l, e, d, n) b = inr (n, refl)
resolved origin (Some a) (Some p) (e, h) b =
    let (some, each) = process_chars p h b in
    inl (a, procid_text p, p, bracketed_form a (procid_text p) e some each, process_named p h b, refl)

pub no_tag_colon : (t : Text) → NoFront tag_word (58 ∷ t)
no_tag_colon t [] q v e h = omega (arith, h.0)
no_tag_colon t (c ∷ p) q v e h =
    let w : false ≡ true = ap is_tag_char (heads 58 c t (p ++ q) e) ∙ h.1.0 in cc

-- a tag word before the colon, and the blanks after it
pub tagged : (w t : Text) → 0 < length w → Each is_tag_char w → w ≢ dash
    → Front (optional (spaced tag_word)) (32 ∷ (w ++ (58 ∷ t))) (58 ∷ t) (Some (Some w))
tagged w t l e n =
    optional_some (spaced tag_word) (spaced_front tag_word (piece_front (exactly (32 ∷ [])) (32 ∷ []) (w ++ (58 ∷ t)) tt
    refl) (piece_front tag_word w (58 ∷ t) (Some w) (l, e, refl, (refl, n))))

-- the tag field and the blanks after it, up to the colon
pub tag_back : (origin app : Option Text) (process : Option (ProcId Text)) (t : Text) → AreCanonicalNames origin app
    process → IfSome process IsBoundedProcess → (q : Text) × Front (optional (spaced tag_word))
    (32 ∷ (program_text app process ++ (58 ∷ t))) q (program_field app process) × Front (run is_blank) q (58 ∷ t) tt
tag_back origin None None t h b = (
  32 ∷ 58 ∷ t,
  optional_none (spaced tag_word)
      (no_spaced_piece tag_word (piece_front (exactly (32 ∷ [])) (32 ∷ []) (58 ∷ t) tt refl) (no_tag_colon t)),
  piece_front (run is_blank) (32 ∷ []) (58 ∷ t) tt ((refl, tt), refl),
)
tag_back origin None (Some p) t h b = absurd h
tag_back origin (Some a) None t (l, e, d, n) b =
    (58 ∷ t, tagged a t l e d, piece_front (run is_blank) [] (58 ∷ t) tt (tt, refl))
tag_back origin (Some a) (Some p) t (e, h) b =
    let i = procid_text p in
    let (some, each) = process_chars p h b in
    let long : 1 < length (bracketed a i) =
    omega (arith, length-append a (91 ∷ (i ++ (93 ∷ []))), length-append i (93 ∷ [])) in (
      58 ∷ t,
      tagged (bracketed a i) t (omega arith) (bracketed_chars a i e each) (λ w. omega (arith, long, ap length w)),
      piece_front (run is_blank) [] (58 ∷ t) tt (tt, refl),
    )

pub host_field_back : (origin : Option Text) (q : Text) → IfSome origin IsCanonicalHost
    → Front (optional (spaced host)) (32 ∷ (name_text origin ++ (32 ∷ q))) (32 ∷ q) (Some origin)
host_field_back origin q h =
    optional_some (spaced host)
    (spaced_front host (piece_front (exactly (32 ∷ [])) (32 ∷ []) (name_text origin ++ (32 ∷ q)) tt refl)
    (piece_front host (name_text origin) (32 ∷ q) origin (host_back origin (32 ∷ q) h refl)))

-- ---- the timestamp

pub stamp_back : (dating : Dating) (v : Option OffsetTimestamp) (q : Text) → IfSome v IsCanonicalStamp
    → Front (rfc3164_stamp dating) (timestamp_text v ++ (32 ∷ q)) (32 ∷ q) v
stamp_back dating None q h = piece_front (rfc3164_stamp dating) dash (32 ∷ q) None (inl refl)
stamp_back dating (Some s) q h = search (rules, printed_stamp_back)

-- the names up to the colon, as they are printed
pub names_back : (h a : Option Text) (p : Option (ProcId Text)) (t : Text) → IfSome h IsCanonicalHost
    → AreCanonicalNames h a p → IfSome p IsBoundedProcess → Front (Row to_colon) (32
    ∷ (name_text h ++ (32 ∷ (program_text a p ++ (58 ∷ t))))) t (Some h, (program_field a p, (tt, (Some tt, tt))))
names_back h a p t k c b =
    let (q, tag, gap) = tag_back h a p t c b in
    row_of to_colon (host_field_back h (program_text a p ++ (58 ∷ t)) k then tag then gap
    then optional_some (exactly colon) (piece_front (exactly colon) colon t tt refl) then refl)

-- ---- the priority

-- the priority and the space before the timestamp, as they are printed
pub to_stamp_back : (m : MessageValue) (y : Text)
    → Front (Row to_stamp) (60 ∷ (decimal (priority_of m) ++ (62 ∷ 32 ∷ (timestamp_text m.timestamp ++ (32 ∷ y)))))
    (timestamp_text m.timestamp ++ (32 ∷ y)) (Some (priority_of m), (tt, tt))
to_stamp_back m y = row_of to_stamp (optional_some priority (priority_front (priority_of m) _ (priority_low m))
    then piece_front (run is_blank) (32 ∷ []) _ tt ((refl, tt), stamp_unblank m.timestamp (32 ∷ y)) then refl)

-- ---- the message
module _ (rule : DashRule) (dating : Dating) (m : MessageValue) (e : m.protocol ≡ RFC3164) (b : IsBounded m)
    (c : IsCanonical rule m) where
  own : IsCanonical3164 rule m
  own = subst (λ (x : Protocol). IsCanonicalFor rule x m) e c.1

  abbrev values : Values (rfc3164_row rule dating)
  values = both_values to_stamp (from_stamp rule dating) (Some (priority_of m), (tt, tt)) (
    m.timestamp,
    both_values to_colon (from_blanks rule) (Some m.hostname, (program_field m.appname m.procid, (tt, (Some tt, tt))))
        (tt, (list_field m.structured_data, (tt, (m.msg, tt)))),
  )

  row_back : Front (Row (rfc3164_row rule dating)) (whole m (tail_text m.structured_data m.msg)) [] values
  row_back =
      rows_join to_stamp (from_stamp rule dating) (to_stamp_back m _) (row_cons (rfc3164_stamp dating) (body_row rule)
      (stamp_back dating m.timestamp _ c.0.timestamp) (rows_join to_colon (from_blanks rule) (names_back m.hostname
      m.appname m.procid _ c.0.hostname own.names b.procid) (body_back rule m.structured_data m.msg c.0.elements
      own.elements c.0.msg_front own.no_list)))

  means_back : m ≡ told rule dating values (names m.hostname m.appname m.procid)
  means_back = search (rules, parts_back)

  pub canonical_back : IsRead3164 rule dating (printed_3164 m) m
  canonical_back = grind (arith, front_division, trimmed_whole, row_back, resolved, means_back)

-- ---- the timestamp
pub stamp_low : (s : OffsetTimestamp) → Begins IsLow (printed_stamp s.instant.nanosecond s.offset.seconds)
stamp_low s =
    let text = printed_stamp s.instant.nanosecond s.offset.seconds in
    let (c, more, digit, first) = printed_stamp-begins s in
    elim first [
      | inl e ↦ begins_with IsLow c text more e (digit_range c digit).1
      | inr e ↦
          begins_with IsLow 45 text (c ∷ more) e (omega arith)
    ]
