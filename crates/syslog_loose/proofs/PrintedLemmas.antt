-- What is printed: what trimming leaves of it, the priority that it begins with, and its bytes.
use Rattle.syslog_loose.proofs.Names.{append-nil, drop_trailing_whitespace, printed_stamp-visible, printed_stamp-begins}
use Rattle.syslog_loose.proofs.Names.{◌*◌, facility_composed, severity_composed, is_not_whitespace, printed_stamp-bytes}
use Rattle.syslog_loose.proofs.Names.{option_and_then, is_whitespace, joined_elements, OffsetTimestamp, facility_number}
use Rattle.syslog_loose.proofs.Names.{elements_text, severity_number, encode_utf8_all, encodes-decimal, spaced_elements}
use Rattle.syslog_loose.proofs.Names.{severity_there, ℕ, timestamp_text, SyslogFacility, SyslogSeverity, encodes-append}
use Rattle.syslog_loose.proofs.Names.{append_assoc, ElementValue, element_text, option_map_or, nat_tests, encodes_shown}
use Rattle.syslog_loose.proofs.Names.{MessageValue, facility_of, severity_of, printed_row, piece_front, priority_of, []}
use Rattle.syslog_loose.proofs.Names.{rules, number_back, rest_whole, row_pieces, clock_value, protocol_of, encode_utf8}
use Rattle.syslog_loose.proofs.Names.{put_five, stamp_seen, no_truth, ClockStamp, line_value, rest_text, ap, length-map}
use Rattle.syslog_loose.proofs.Names.{row_head, classes, is_blank, exactly, decimal, priority, printed, put_four, false}
use Rattle.syslog_loose.proofs.Names.{IsSome, RFC3164, nat_eq, Option, length, Values, Format, ◌then◌, row_of, put_two}
use Rattle.syslog_loose.proofs.Names.{number, ◌&&◌, subst, arith, Class, Front, ◌++◌, Bool, true, cond, Some, None, ◌+◌}
use Rattle.syslog_loose.proofs.Names.{List, refl, ◌≡◌, Text, Each, Ends, rest, Line, ◌<◌, ◌∷◌, ◌∙◌, inl, inr, not, sym}
use Rattle.syslog_loose.proofs.Names.{Row, run, ◌≤◌, ◌≢◌}
use Rattle.syslog_text.proofs.PieceLemmas.Lists.{printed_more}
use Rattle.syslog_pieces.{proofs.PriLemmas.as_priority, specs.Pri.priority_row}
use Rattle.syslog_loose.specs.{Bodies.Cases.printed_number, Canonical.EndsVisibly}
unfoldable pub use Rattle.syslog_loose.specs.Bodies.Jumps.{message_end}
use Rattle.syslog_loose.specs.Printed.{printed_3164, printed_5424, rest_3164, rest_5424}
use Rattle.syslog_pieces.specs.Front.{clock_text, front_text}
use Rattle.syslog_loose.specs.declared.message.Protocol.TheVariants.{RFC5424}

-- ---- characters

-- what is no white space is no blank
pub visible_no_blank : (c : ℕ) → is_not_whitespace c ≡ true → is_blank c ≡ false
visible_no_blank c h = grind arith

pub visible_ends_blanks : (t q : Text) → 0 < length t → Each is_not_whitespace t → Ends is_blank (t ++ q)
visible_ends_blanks [] q l h = absurd (omega arith)
visible_ends_blanks (c ∷ t) q l h = visible_no_blank c h.0

-- ---- a visible last character keeps all before it
drop_visible : (c : ℕ) (cs : Text) → is_not_whitespace c ≡ true
    → drop_trailing_whitespace (c ∷ cs) ≡ c ∷ drop_trailing_whitespace cs
drop_visible c cs h = grind arith

drop_before : (c : ℕ) (cs : Text) → 0 < length (drop_trailing_whitespace cs)
    → drop_trailing_whitespace (c ∷ cs) ≡ c ∷ drop_trailing_whitespace cs
drop_before c cs h = grind (arith, nat_tests)

-- the text has a last character, which is no white space
abbrev pub LastVisible : Text → Type 0
LastVisible [] = ⊥
LastVisible (c ∷ []) = is_not_whitespace c ≡ true
LastVisible (c ∷ d ∷ cs) = LastVisible (d ∷ cs)

pub last_append : (xs ys : Text) → LastVisible ys → LastVisible (xs ++ ys)
last_append [] ys h = h
last_append (c ∷ []) [] h = absurd h
last_append (c ∷ []) (d ∷ ys) h = h
last_append (c ∷ d ∷ xs) ys h = last_append (d ∷ xs) ys h

-- what comes before such a character is kept
pub drop_after : (xs ys : Text) → LastVisible xs
    → drop_trailing_whitespace (xs ++ ys) ≡ xs ++ drop_trailing_whitespace ys
drop_after [] ys h = absurd h
drop_after (c ∷ []) ys h = drop_visible c ys h
drop_after (c ∷ d ∷ cs) ys h =
    let r = drop_after (d ∷ cs) ys h in
    drop_before c ((d ∷ cs) ++ ys) (rw r (omega arith)) ∙ ap (λ (x : Text). c ∷ x) r

-- a text that ends visibly is kept whole
pub drop_none : (xs : Text) → EndsVisibly xs → drop_trailing_whitespace xs ≡ xs
drop_none [] h = refl
drop_none (c ∷ []) h = drop_visible c [] (h [] c refl)
drop_none (c ∷ d ∷ xs) h =
    let r = drop_none (d ∷ xs) (λ front e w. h (c ∷ front) e (ap (λ (x : Text). c ∷ x) w)) in
    drop_before c (d ∷ xs) (rw r (omega arith)) ∙ ap (λ (x : Text). c ∷ x) r

-- ---- what is left ends visibly
ends_case : (t n : Bool) (d : ℕ) (ds : Text) → is_whitespace d ≡ t → nat_eq (length ds) 0 ≡ n → EndsVisibly ds
    → EndsVisibly (cond (t && n) [] (d ∷ ds))
ends_case true true d ds a b h [] c e = cc
ends_case true true d ds a b h (x ∷ front) c e = cc
ends_case true false d ds a b h [] c e = absurd (let z : ds ≡ [] = cc in let u : true ≡ false = rw z at b in cc)
ends_case true false d ds a b h (x ∷ front) c e = h front c cc
ends_case false n d ds a b h [] c e = let z : c ≡ d = cc in ap is_not_whitespace z ∙ ap not a
ends_case false n d ds a b h (x ∷ front) c e = h front c cc

nil_ends : EndsVisibly []
nil_ends [] c e = cc
nil_ends (x ∷ front) c e = cc

pub drop_ends : (cs : Text) → EndsVisibly (drop_trailing_whitespace cs)
drop_ends [] = nil_ends
drop_ends (d ∷ cs) =
    ends_case (is_whitespace d) (nat_eq (length (drop_trailing_whitespace cs)) 0) d
    (drop_trailing_whitespace cs) refl refl (drop_ends cs)

-- and what follows a piece of it does too
pub ends_after : (C : Class) {t q : Text} {v : C.Value} → Front C t q v → EndsVisibly t → EndsVisibly q
ends_after C {q = q} f h front c e =
    h (f.piece ++ front) c (f.whole ∙ ap (λ (x : Text). f.piece ++ x) e ∙ sym (append_assoc f.piece front (c ∷ [])))

-- ---- a space and the message at the end of a text

pub message_end_is : (msg : Text) → EndsVisibly msg → drop_trailing_whitespace (32 ∷ msg) ≡ message_end msg
unfolding message_end
message_end_is [] h = refl
message_end_is (c ∷ cs) h =
    let r = drop_none (c ∷ cs) h in
    drop_before 32 (c ∷ cs) (rw r (omega arith)) ∙ ap (λ (x : Text). 32 ∷ x) r

-- blanks and the message are there
pub message_blanks : (msg : Text) → Ends is_blank msg → Front (run is_blank) (message_end msg) msg tt
unfolding message_end
message_blanks [] h = record { piece = []; whole = refl; is = (tt, tt) }
message_blanks (c ∷ cs) h = record { piece = 32 ∷ []; whole = refl; is = ((refl, tt), h) }

-- ---- printed rows

pub row_last : (Fs : List Format) (vs : Values (classes Fs)) (q : Text) → LastVisible q
    → LastVisible (printed_row Fs vs q)
row_last [] vs q h = h
row_last (F ∷ Fs) vs q h = last_append (F.print vs.0) (printed_row Fs vs.1 q) (row_last Fs vs.1 q h)

-- where a text that ends visibly and a message end a printed row, trimming loses nothing but the space before an empty
-- one
pub row_trimmed : (Fs : List Format) (vs : Values (classes Fs)) (t msg : Text) → LastVisible t → EndsVisibly msg
    → drop_trailing_whitespace (printed_row Fs vs (t ++ (32 ∷ msg))) ≡ printed_row Fs vs (t ++ message_end msg)
row_trimmed Fs vs t msg h end =
    ap drop_trailing_whitespace (sym (printed_more Fs vs t (32 ∷ msg)))
    ∙ drop_after (printed_row Fs vs t) (32 ∷ msg) (row_last Fs vs t h)
    ∙ ap (λ (x : Text). printed_row Fs vs t ++ x) (message_end_is msg end) ∙ printed_more Fs vs t (message_end msg)

-- ---- printed elements and timestamps

element_last : (e : ElementValue) → LastVisible (element_text e)
element_last e = search (rules, last_append)

pub joined_last : (e : ElementValue) (es : List ElementValue) → LastVisible (joined_elements (e ∷ es))
joined_last e [] = subst LastVisible (sym (append-nil (element_text e))) (element_last e)
joined_last e (f ∷ es) = last_append (element_text e) (joined_elements (f ∷ es)) (joined_last f es)

pub elements_last : (es : List ElementValue) → LastVisible (elements_text es)
elements_last [] = refl
elements_last (e ∷ es) = joined_last e es

-- a printed timestamp, or `-`, begins with no blank
pub stamp_unblank : (v : Option OffsetTimestamp) (q : Text) → Ends is_blank (timestamp_text v ++ q)
stamp_unblank None q = refl
stamp_unblank (Some s) q =
    let (c, more, digit, first) = printed_stamp-begins s in
    let some : 0 < length (timestamp_text (Some s)) =
    elim first [ inl e ↦ (rw e (omega arith)) | inr e ↦ (rw e (omega arith)) ] in
    visible_ends_blanks (timestamp_text (Some s)) q some (printed_stamp-visible s)

-- ---- the last piece of a row

abbrev pub last_text : (Cs : List Class) → Values (Cs ++ (rest ∷ [])) → Text
last_text [] vs = vs.0
last_text (C ∷ Cs) vs = last_text Cs vs.1

-- all that is left of a text that ends visibly does too
pub last_ends : (Cs : List Class) {t : Text} {vs : Values (Cs ++ (rest ∷ []))} → Front (Row (Cs ++ (rest ∷ []))) t [] vs
    → EndsVisibly t → EndsVisibly (last_text Cs vs)
last_ends [] f h = let (u, g, e) = row_pieces (rest ∷ []) f in subst EndsVisibly (rest_whole g) h
last_ends (C ∷ Cs) f h = let g = row_head C (Cs ++ (rest ∷ [])) f in last_ends Cs g.2 (ends_after C g.1 h)

-- ---- the priority that each printed text begins with

pub priority_small : (m : MessageValue) → priority_of m < 192
priority_small m = search rules

pub priority_low : (m : MessageValue) → priority_of m ≤ 255
priority_low m = let h = priority_small m in omega arith

-- a facility and a severity that are there are those of the priority
pub parts_back : (f : Option SyslogFacility) (s : Option SyslogSeverity) → IsSome f → IsSome s
    → (f ≡ facility_of (option_map_or facility_number f 5 * 8 + option_map_or severity_number s 7))
    × (s ≡ severity_of (option_map_or facility_number f 5 * 8 + option_map_or severity_number s 7))
parts_back None s h k = absurd (no_truth h)
parts_back (Some f) None h k = absurd (no_truth k)
parts_back (Some f) (Some s) h k = (sym (facility_composed f s), sym (severity_composed f s))

pub severity_beside : (pri : Option ℕ) → IsSome (option_and_then facility_of pri)
    → IsSome (option_and_then severity_of pri)
severity_beside None h = h
severity_beside (Some pri) h = let (s, e) = severity_there pri in rw e refl

-- a printed priority, before any text
pub priority_front : (n : ℕ) (q : Text) → n ≤ 255 → Front priority (60 ∷ (decimal n ++ (62 ∷ q))) q n
priority_front n q l =
    as_priority (row_of priority_row (piece_front (exactly (60 ∷ [])) (60 ∷ []) _ tt refl then piece_front (number 255)
    (decimal n) (62 ∷ q) n (number_back n 255 (62 ∷ q) l (omega arith) refl) then piece_front (exactly (62 ∷ []))
    (62 ∷ []) q tt refl then refl))

-- trimming leaves it
pub priority_trimmed : (n : ℕ) (q : Text)
    → drop_trailing_whitespace (60 ∷ (decimal n ++ (62 ∷ q))) ≡ 60 ∷ (decimal n ++ (62 ∷ drop_trailing_whitespace q))
priority_trimmed n q =
    simp append_assoc at (drop_after (60 ∷ (decimal n ++ (62 ∷ []))) q (last_append (60 ∷ decimal n) (62 ∷ []) refl))

-- ---- the bytes of printed messages

-- what is written piece by piece is the encoded text
pub ruleset encoded = (append_assoc, encodes-append, encodes-decimal)

pub ruleset put_encoded = (encodes_shown, put_two, put_four, put_five, printed_stamp-bytes, encoded)

-- what is written, field by field, is the encoded text
pub written_5424 : (pri priority version : ℕ) (stamp host app process id shown elements msg : Text) (m : List ℕ) → pri
    ≡ priority → shown ≡ elements → encode_utf8_all msg ≡ m → (60 ∷ (decimal pri ++ (62 ∷ decimal version)))
    ++ (((32 ∷ encode_utf8_all stamp) ++ (32 ∷ encode_utf8_all host)) ++ (((32 ∷ encode_utf8_all app)
    ++ ((32 ∷ encode_utf8_all process) ++ (32 ∷ encode_utf8_all id))) ++ ((32 ∷ encode_utf8_all shown) ++ (32 ∷ m))))
    ≡ encode_utf8_all (60 ∷ (decimal priority ++ (62 ∷ (decimal version ++ (32 ∷ (stamp ++ (32 ∷ (host ++ (32 ∷ (app
    ++ (32 ∷ (process ++ (32 ∷ (id ++ (32 ∷ (elements ++ (32 ∷ msg)))))))))))))))))
unfolding encode_utf8
written_5424 pri priority version stamp host app process id shown elements msg m e f h =
    search (rules, append_assoc, encodes-append, encodes-decimal)

-- `<priority>` and the fields of RFC 3164
pub written_3164 : (pri priority : ℕ) (stamp host tag shown elements msg : Text) (m : List ℕ) → pri ≡ priority → shown
    ≡ elements → encode_utf8_all msg ≡ m → (60 ∷ (decimal pri ++ (62 ∷ []))) ++ (((32 ∷ encode_utf8_all stamp)
    ++ (32 ∷ encode_utf8_all host)) ++ ((32 ∷ encode_utf8_all tag) ++ (encode_utf8_all shown ++ m))) ≡ encode_utf8_all
    (60 ∷ (decimal priority ++ (62 ∷ 32 ∷ (stamp ++ (32 ∷ (host ++ (32 ∷ (tag ++ (elements ++ msg)))))))))
unfolding encode_utf8
written_3164 pri priority stamp host tag shown elements msg m e f h =
    search (rules, append_assoc, encodes-append, encodes-decimal)

-- elements, at least one, and a space after them
pub encodes_spaced : (es : List ElementValue) → 0 < length es
    → encode_utf8_all (spaced_elements es) ≡ encode_utf8_all (joined_elements es) ++ (32 ∷ [])
unfolding encode_utf8
encodes_spaced [] h = absurd (omega arith)
encodes_spaced (e ∷ es) h = encodes-append (joined_elements (e ∷ es)) (32 ∷ [])

pub ruleset put_spaced = (put_two, encodes_spaced, length-map)

-- ---- the bytes of printed lines

-- elements that are there, and a space after them
pub encodes_spaced_list : (es : List ElementValue) → es ≢ []
    → encode_utf8_all (elements_text es) ++ (32 ∷ []) ≡ encode_utf8_all (spaced_elements es)
unfolding encode_utf8
encodes_spaced_list [] some = absurd (some refl)
encodes_spaced_list (e ∷ es) some = sym (encodes-append (joined_elements (e ∷ es)) (32 ∷ []))

-- ---- the front and the rest

clock_bytes : (c : Option ClockStamp) → encode_utf8_all (timestamp_text (stamp_seen c)) ≡ clock_text c
unfolding encode_utf8
clock_bytes None = refl
clock_bytes (Some c) = printed_stamp-bytes (clock_value c)

front_bytes : (version : Option ℕ) (m : MessageValue) (c : Option ClockStamp) → m.timestamp ≡ stamp_seen c
    → front_text (priority_of m) version c
    ++ encode_utf8_all (elim (protocol_of version) [ RFC5424 v ↦ rest_5424 m | RFC3164 ↦ rest_3164 m ])
    ≡ encode_utf8_all (elim (protocol_of version) [ RFC5424 v ↦ printed_5424 v m | RFC3164 ↦ printed_3164 m ])
unfolding printed_5424 printed_3164 encode_utf8
front_bytes (Some v) m c e = simp (e, clock_bytes c, encoded)
front_bytes None m c e = simp (e, clock_bytes c, encoded)

-- a printed line is its front and the rest
pub printed_line : (line : Line) → front_text (printed_number line.priority) line.version line.timestamp
    ++ encode_utf8_all (rest_text (line_value line)) ≡ encode_utf8_all (printed (line_value line))
printed_line line = front_bytes line.version (line_value line) line.timestamp refl
