-- What was converted is converted to the same text again; its text is in the grammar, and is read back.
use Rattle.syslog_strict.proofs.Words.{◌≡◌, ◌⊎◌, inl, inr, ℕ, ℤ, ◌+ℤ◌, Bool, true, [], ◌∷◌, ◌++◌, Option, Some, None}
use Rattle.syslog_strict.proofs.Words.{refl, sym, subst, ap, ◌∙◌, arith, append-nil, ◌%◌, unsigned_abs, IfSome}
use Rattle.syslog_strict.proofs.Words.{option_and_then, decimal, signed_arith, int_rem_euclid-parts, Text, Ends}
use Rattle.syslog_strict.proofs.Words.{IsBoundedProcess, all_map, nanos_of_seconds, civil_fields, printed_stamp}
use Rattle.syslog_strict.proofs.Words.{OffsetTimestamp, MessageValue, timestamp_text, priority_of, is_blank, converted}
use Rattle.syslog_strict.proofs.Words.{converted_stamp, cut_stamp, has_text, in_utc, is_four_digits, micros}
use Rattle.syslog_strict.proofs.Words.{converted_elements, converted_host, converted_process, converted_word, Front}
use Rattle.syslog_strict.proofs.Words.{IsSyslogMsg, is_printusascii, ◌≤◌, length}
use Rattle.std.proofs.lemmas.List.{same_from_push, length-append}
use Rattle.std.proofs.Common.{Result, Ok, Err, ◌&&◌, nat_lt}
use Rattle.std.specs.{Bool.◌==◌, Char.is_not_whitespace, Prelude.MatchResult}
use Rattle.syslog_strict.specs.Call.{Converts, IsConvertedText, IsLineText, IsStrictText, NoSyslogMsg}
use Rattle.syslog_strict.specs.Conversion.{spaced_before, whole}
use Rattle.syslog_strict.specs.Grammar.{body, header, pri, prival, sp, version}
use Rattle.syslog_strict.proofs.GrammarLemmas.{IsSomeOf, no_element, data_front}
use Rattle.syslog_text.specs.Pieces.Class.{Row, exactly, rest, spaced}
use Rattle.syslog_text.specs.{Pieces.Rules.short_run, Text.Canonical.EndsVisibly}
use Rattle.syslog_text.proofs.PieceLemmas.Class.{◌then◌, front_division, optional_some, piece_front, rest_front, row_of}
use Rattle.syslog_text.proofs.PieceLemmas.Class.{rows_join, spaced_front}
use Rattle.syslog_text.proofs.TextLemmas.Bounded.{numeral_back}
use Rattle.syslog_strict.proofs.ElementLemmas.{converted_are, converted_distinct, distinct_again, element_back}
use Rattle.syslog_pieces.specs.Timestamp.Zone.{Dating}
use Rattle.syslog_loose.specs.{Canonical.IsBounded, Canonical.IsCanonical, Line.line_value, Printed.printed}
use Rattle.syslog_loose.specs.{Printed.printed_5424, Unparsed.Leaves, Visit.IsLineOf}
use Rattle.syslog_loose.specs.{declared.fault.ParseFault.ParseFault, declared.fault.ParseFault.TheVariants.Memory}
use Rattle.syslog_loose.specs.{declared.line.Line.Line, declared.variant.Variant.Variant}
use Rattle.syslog_loose.specs.{declared.variant.Variant.TheVariants.Either}
use Rattle.syslog_loose.specs.Reading.{IsOnlyRead, IsRead, dash_rule}
use Rattle.syslog_loose.proofs.ReadBackLemmas.{read_as, read_bounded, printed_exact}
use Rattle.syslog_loose.proofs.{PrintedLemmas.priority_small, ReadingLemmas.invalid_or_memory}
use Rattle.syslog_loose.proofs.{Rfc3164Lemmas.Near.read_near, Rfc5424Lemmas.read_completed}
use Rattle.syslog_loose.proofs.{Rfc5424Lemmas.canonical_leaves}
use Rattle.syslog_loose.proofs.UnparsedLemmas.{leaves_of, leaves_same, leaves_shape}
use Rattle.syslog_strict.proofs.NameLemmas.{settled, host_is, host_same, word_is, word_same, process_is, process_same}
use Rattle.syslog_strict.proofs.NameLemmas.{name_prints, process_prints, process_bounded, name_canonical}
use Rattle.syslog_strict.proofs.NameLemmas.{process_canonical}
use Rattle.syslog_strict.proofs.StampLemmas.{by_choice, converted_own, stamp_back, stamp_is}
use Rattle.syslog_elements.proofs.StructuredDataLemmas.Unparsed.{EndsIn, IsBracketed}

-- ---- what was converted is converted to the same text again
-- ---- timestamps

micros_again : (n : ℤ) → micros (micros n) ≡ micros n
micros_again n =
    let first = int_rem_euclid-parts n 1_000 (omega arith) in
    let second = int_rem_euclid-parts (micros n) 1_000 (omega arith) in
    omega (arith, signed_arith, first, second)

-- whether the grammar has a text for the instant n at the offset o
abbrev text_at : ℤ → ℤ → Bool
text_at n o = is_four_digits (civil_fields (n +ℤ nanos_of_seconds o)).year && (unsigned_abs o % 60 == 0)
    && nat_lt (unsigned_abs o) 86_400

-- a timestamp of whole microseconds that has a text
stamp_same : (t : OffsetTimestamp) → micros t.instant.nanosecond ≡ t.instant.nanosecond → has_text t ≡ true
    → timestamp_text (converted_stamp t) ≡ timestamp_text (Some t)
stamp_same t whole h =
    let own : has_text (cut_stamp t) ≡ true = ap (λ (n : ℤ). text_at n t.offset.seconds) whole ∙ h in
    ap timestamp_text (converted_own t own)
    ∙ ap (λ (n : ℤ). printed_stamp n t.offset.seconds) whole

pub stamp_again : (v : Option OffsetTimestamp)
    → timestamp_text (option_and_then converted_stamp (option_and_then converted_stamp v))
    ≡ timestamp_text (option_and_then converted_stamp v)
stamp_again None = refl
stamp_again (Some s) = by_choice (λ v. timestamp_text (option_and_then converted_stamp v) ≡ timestamp_text v) s
    (stamp_same (cut_stamp s) (micros_again s.instant.nanosecond))
    (stamp_same (in_utc (cut_stamp s)) (micros_again s.instant.nanosecond)) refl

-- ---- messages

pub printed_again : (m : MessageValue) → printed (converted (converted m)) ≡ printed (converted m)
unfolding printed_5424
printed_again m =
    rw (
      stamp_again m.timestamp,
      settled converted_host _ host_same _ (host_is m.hostname),
      settled (converted_word 48) _ (word_same 48 (omega arith)) _ (word_is 48 (omega arith) m.appname),
      settled converted_process _ process_same _ (process_is m.procid),
      settled (converted_word 32) _ (word_same 32 (omega arith)) _ (word_is 32 (omega arith) m.msgid),
      distinct_again _ (converted_are m.structured_data) (converted_distinct m.structured_data),
    ) refl

-- what is written of a converted text is that text
pub text_stays : (variant : Variant) (dating receiver : Dating) (input text again : Text)
    → IsConvertedText variant dating input text
    → (IsSyslogMsg text × (again ≡ text)) ⊎ IsConvertedText Either receiver text again → again ≡ text
text_stays variant dating receiver input text again first (inl (valid, e)) = e
text_stays variant dating receiver input text again first (inr second) =
    let m = whole first.message first.unparsed in
    let same = second.read.only (converted m) (first.is.again receiver) in
    let none = leaves_same Either text second.unparsed [] second.leaves first.is.parsed in
    second.is.prints ∙ ap (λ (x : Text). printed (converted (whole second.message x))) none
    ∙ ap (λ (x : MessageValue). printed (converted x)) (sym same) ∙ printed_again m ∙ sym first.is.prints

-- ---- in the grammar

-- a name of the grammar, before a space
name_front : (most : ℕ) (t u : Text) → IsSomeOf is_printusascii most t
    → Front (short_run is_printusascii most) (t ++ (32 ∷ u)) (32 ∷ u) tt
name_front most t u (_, (some, short, each, _)) =
    piece_front (short_run is_printusascii most) t (32 ∷ u) tt (some, short, each, refl)

version_front : (u : Text) → Front version (decimal 1 ++ (32 ∷ u)) (32 ∷ u) 1
version_front u = piece_front version (decimal 1) (32 ∷ u) 1
    (numeral_back 1 1 999 (32 ∷ u) (omega arith) (omega arith) (omega arith) refl)

sp_front : (u : Text) → Front sp (32 ∷ u) u tt
sp_front u = piece_front sp (32 ∷ []) u tt refl

pri_front : (n : ℕ) (u : Text) → n ≤ 191 → Front (Row pri) (60 ∷ (decimal n ++ (62 ∷ u))) u (tt, (n, (tt, tt)))
pri_front n u small = row_of pri (piece_front (exactly (60 ∷ [])) (60 ∷ []) _ tt refl
    then piece_front prival (decimal n) (62 ∷ u) n (numeral_back n 0 191 (62 ∷ u) (omega arith) small (omega arith)
    refl)
    then piece_front (exactly (62 ∷ [])) (62 ∷ []) u tt refl then refl)

pub converted_strict : (m : MessageValue) → IfSome m.procid IsBoundedProcess → IsSyslogMsg (printed (converted m))
unfolding printed_5424
converted_strict m b =
    let small = priority_small (converted m) in
    let (elements, is_data) = data_front (converted_elements m.structured_data) (32 ∷ m.msg)
    (converted_are m.structured_data) (converted_distinct m.structured_data) (no_element 32 m.msg (omega arith)) in
    let front = row_of header (pri_front (priority_of (converted m)) _ (omega arith)
    then version_front _ then sp_front _ then (stamp_is m.timestamp _).1
    then sp_front _ then name_front 255 _ _ (name_prints 255 _ _ (omega arith) (host_is m.hostname))
    then sp_front _ then name_front 48 _ _ (name_prints 48 _ _ (omega arith) (word_is 48 (omega arith) m.appname))
    then sp_front _ then name_front 128 _ _ (process_prints _ (process_is m.procid) (process_bounded m.procid b))
    then sp_front _ then name_front 32 _ _ (name_prints 32 _ _ (omega arith) (word_is 32 (omega arith) m.msgid))
    then sp_front _ then refl) in
    let end = row_of body (is_data
    then optional_some (spaced rest) (spaced_front rest (sp_front m.msg) (rest_front m.msg)) then refl) in
    record { values = _; division = front_division (header ++ body) (rows_join header body front end) }

-- ---- read back

-- the message part is that of a message that was read
pub record HasReadMsg (m : MessageValue) : Type 0 where
  pub front : Ends is_blank m.msg
  pub end : EndsVisibly m.msg
  pub process : IfSome m.procid IsBoundedProcess

pub read_msg : (variant : Variant) (dating : Dating) (text : Text) (m : MessageValue) → IsRead variant dating text m
    → HasReadMsg m
read_msg variant dating text m r = let bounded = (read_bounded variant dating text m r).procid in
    elim (read_as variant dating text m r) [
      | inl s ↦ (let (is, _) = read_completed dash_rule text m s in
          record { front = is.0.msg_front; end = is.0.msg_end; process = bounded })
      | inr s ↦ (let near = read_near dash_rule dating text m s in
          record { front = near.msg_front; end = near.msg_end; process = bounded })
    ]

-- with what was left unparsed before it, it is such a message part still
begins_unblank : (u msg : Text) → (r : Text) × (u ≡ 91 ∷ r) → Ends is_blank (spaced_before u msg)
begins_unblank u msg (r, e) = subst (λ (x : Text). Ends is_blank (spaced_before x msg)) (sym e) refl

ends_more : (p : Text) (c : ℕ) (t : Text) → EndsVisibly (c ∷ t) → EndsVisibly (p ++ (c ∷ t))
ends_more [] c t h front x e = h front x e
ends_more (d ∷ p) c t h [] x e = absurd (omega (arith, ap length e, length-append p (c ∷ t)))
ends_more (d ∷ p) c t h (y ∷ front) x e = ends_more p c t h front x (cc)

bracket_visible : (u : Text) → EndsIn 93 u → EndsVisibly u
bracket_visible u (s, e) front c f =
    subst (λ (x : ℕ). is_not_whitespace x ≡ true) (same_from_push s front 93 c (sym e ∙ f)).1 refl

ends_visibly : (u msg : Text) → EndsIn 93 u → EndsVisibly msg → EndsVisibly (spaced_before u msg)
ends_visibly [] msg in_bracket visible = visible
ends_visibly (c ∷ u) [] in_bracket visible =
    subst EndsVisibly (sym (append-nil (c ∷ u))) (bracket_visible (c ∷ u) in_bracket)
ends_visibly (c ∷ u) (d ∷ msg) in_bracket visible = ends_more (c ∷ u) 32 (d ∷ msg) (ends_more (32 ∷ []) d msg visible)

pub whole_msg : (m : MessageValue) (u : Text) → HasReadMsg m → (u ≡ []) ⊎ IsBracketed u → HasReadMsg (whole m u)
whole_msg m u has (inl e) = subst (λ (x : Text). HasReadMsg (whole m x)) (sym e)
    (record { front = has.front; end = has.end; process = has.process })
whole_msg m u has (inr b) = record {
  front = begins_unblank u m.msg b.begins;
  end = ends_visibly u m.msg b.ends has.end;
  process = has.process;
}

pub read_whole : (variant : Variant) (dating : Dating) (text : Text) (m : MessageValue) (u : Text)
    → IsRead variant dating text m → Leaves variant text u → HasReadMsg (whole m u)
read_whole variant dating text m u r leaves =
    whole_msg m u (read_msg variant dating text m r) (leaves_shape variant text u leaves)

pub converted_canonical : (m : MessageValue) → HasReadMsg m → IsCanonical dash_rule (converted m)
converted_canonical m has = (
  record {
    facility = refl;
    severity = refl;
    timestamp = stamp_back m.timestamp;
    hostname = name_canonical 255 _ _ (host_is m.hostname);
    elements = all_map element_back _ (converted_are m.structured_data);
    msg_front = has.front;
    msg_end = has.end;
  },
  record {
    appname = name_canonical 48 _ _ (word_is 48 (omega arith) m.appname);
    procid = process_canonical _ (process_is m.procid);
    msgid = name_canonical 32 _ _ (word_is 32 (omega arith) m.msgid);
  },
)

pub converted_bounded : (m : MessageValue) → HasReadMsg m → IsBounded (converted m)
converted_bounded m has = record { protocol = omega arith; procid = process_bounded m.procid has.process }

pub converted_again : (m : MessageValue) (receiver : Dating) → HasReadMsg m
    → IsRead Either receiver (printed (converted m)) (converted m)
converted_again m receiver has =
    (printed_exact receiver (converted m) (converted_bounded m has) Either tt).1 (converted_canonical m has)

pub converted_parsed : (m : MessageValue) → HasReadMsg m → Leaves Either (printed (converted m)) []
converted_parsed m has =
    inl (canonical_leaves dash_rule 1 (converted m) refl (converted_bounded m has) (converted_canonical m has))

-- ---- what the call writes

pub strict_text : (m : MessageValue) (text : Text) → HasReadMsg m → text ≡ printed (converted m) → IsStrictText m text
strict_text m text has e = record {
  prints = e;
  strict = rw e (converted_strict m has.process);
  again = λ receiver. rw e (converted_again m receiver has);
  parsed = rw e (converted_parsed m has);
}

pub text_converts : (variant : Variant) (dating : Dating) (input text : Text) (m : MessageValue) (u : Text)
    → IsOnlyRead variant dating input m → Leaves variant input u → text ≡ printed (converted (whole m u))
    → IsConvertedText variant dating input text
text_converts variant dating input text m u only leaves e = record {
  message = m;
  read = only;
  unparsed = u;
  leaves = leaves;
  is = strict_text (whole m u) text (read_whole variant dating input m u only.read leaves) e;
}

-- what is written of the line as which the text is read
pub line_written : (variant : Variant) (dating : Dating) (input text : Text) (line : Line)
    (r : Result (Unit {0}) ParseFault) → NoSyslogMsg input → IsLineOf variant dating input line
    → MatchResult r (λ _. IsLineText line text) (λ fault. fault ≡ Memory) → Converts variant dating input r text
line_written variant dating input text line (Ok x) other of (u, left, e) = (
  other,
  text_converts variant dating input text (line_value line) u of.only (leaves_of variant dating input line u of left) e,
)
line_written variant dating input text line (Err fault) other of memory = (
  other,
  (λ invalid. absurd (invalid_or_memory (sym memory ∙ invalid)), λ none. absurd (none (line_value line) of.only.read)),
)
