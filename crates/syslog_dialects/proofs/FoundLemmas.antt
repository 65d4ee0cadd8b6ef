-- Each character of a dialect's line is of a text or of the date that it says, or is left out.
use Rattle.syslog_dialects.proofs.Names.{[], ◌++◌, ◌also◌, ◌otherwise◌, ◌then◌, ◌∙◌, ◌∷◌, ◌≡◌, ◌⊎◌, alone_row, any_date}
use Rattle.syslog_dialects.proofs.Names.{ap, append_assoc, AreFound, beginning, beside, Bool, Class, Date, Dates}
use Rattle.syslog_dialects.proofs.Names.{Dialect, division_front, drop, early_forms, Ends, exactly, false, Form}
use Rattle.syslog_dialects.proofs.Names.{forms_of, Front, front_of, host, inl, inr, is_blank, is_word_char, IsOfFirst}
use Rattle.syslog_dialects.proofs.Names.{IsSentIn, late_forms, left_of, left_out, List, loose, mapped, MessageValue}
use Rattle.syslog_dialects.proofs.Names.{monotonic_row, Name, named_forms, None, number, Option, optional, pair}
use Rattle.syslog_dialects.proofs.Names.{pair_row, Part, plain_forms, point_sent, program_row, program_sent, refl, Row}
use Rattle.syslog_dialects.proofs.Names.{row_head, row_of, run, SentValue, Some, some_run, spread_forms, subst, sym}
use Rattle.syslog_dialects.proofs.Names.{Text, texted, trimmed, true, undated_forms, undated_row, Values, ℕ}
use Rattle.std.proofs.Common.{if◌then◌else◌, take}
use Rattle.syslog_text.specs.Pieces.Lists.{many}
use Rattle.syslog_text.proofs.PieceLemmas.Class.{firsts, lasts, rows_split}
use Rattle.syslog_text.proofs.PieceLemmas.Lists.{many_parts}
use Rattle.syslog_dated_forms.specs.DatedForms as dated
use Rattle.syslog_dialects.specs.Dialects.{dated_forms, last_forms}
use Rattle.syslog_dialects.specs.Found.{AreInOrder, IsFoundIn, forwarded_words, first_serial, relay, serial}
use Rattle.syslog_named_forms.specs.NearHeader.{heroku_says, vendor_says, bare_says, nil, nil_says, tag_row, tag_says}
use Rattle.syslog_named_forms.specs.NearHeader.{bare_row, heroku_row, nil_row, vendor_row}
use Rattle.syslog_sent.specs.Named.{NamedTexts, after_row, untagged}
use Rattle.syslog_named_forms.specs.NearHeader as near
use Rattle.syslog_named_forms.specs.Monotonic.{monotonic_says}
use Rattle.syslog_named_forms.specs.NamedForms.{Tail, dated_form, dated_row, forwarded_tail, marked_tail, marked_tails}
use Rattle.syslog_named_forms.specs.NamedForms.{message_tails, program_forms, program_tails, says, unified_tail}
use Rattle.syslog_named_forms.specs.NamedForms.{device_forms, device_tails, graded_tails, marked_forms, serial_tail}
use Rattle.syslog_named_forms.specs.NamedForms.{tail_forms}
use Rattle.syslog_named_forms.specs.Graded.{counted_row, numbered_row, event_row, graded_row, leveled_row, padded_row}
use Rattle.syslog_named_forms.specs.Graded.{sourced_row, threaded_row, event_of, graded_of, leveled_of, numbered_of}
use Rattle.syslog_named_forms.specs.Graded.{padded_of, sourced_of, threaded_of}
use Rattle.syslog_named_forms.specs.Devices.{addressed_of, addressed_row, titled_of, titled_row}
use Rattle.syslog_named_forms.specs.Unified.{compact_of, compact_row, entry_name, kind, log_of, log_row}
use Rattle.syslog_named_forms.specs.Pairs.{bare, either_text, first_value, is_host_key, paired, value, listed}
use Rattle.syslog_named_forms.specs.Pairs.{pairs_form, pairs_row, quoted, quoted_row, unquoted}
use Rattle.syslog_dialects.specs.PriorityAlone.{point_row as point_alone_row}
use Rattle.syslog_named_forms.specs.Programs.{forwarded_of, forwarded_row, hostless_row, passed_on, access_row, box_of}
use Rattle.syslog_named_forms.specs.Programs.{box_row, serial_of, serial_row, access_of, hostless_of, severity_of}
use Rattle.syslog_named_forms.specs.Programs.{severity_row, worded_of, worded_row, spread_of, untagged_of, spread_row}
use Rattle.syslog_named_forms.specs.Programs.{untagged_row}
use Rattle.syslog_sent.specs.Runs.{is_unquoted}
use Rattle.syslog_named_forms.specs.Untagged.{dialect_of, mark_class, marks}
use Rattle.syslog_sent.specs.declared.dialect.Dialect.TheVariants as dialect
use Rattle.syslog_named_forms.specs.declared.untagged.Mark.{Mark}
use Rattle.syslog_named_forms.specs.declared.untagged.Mark.TheVariants as mark_of
use Rattle.syslog_dialects.proofs.OrderLemmas.{Ending, SaysOne, SaysSo, Shows, Told, Way, begun, blank_signs, end_of}
use Rattle.syslog_dialects.proofs.OrderLemmas.{first, later, listed as left_out_one, mapped_found, out_more, passed}
use Rattle.syslog_dialects.proofs.OrderLemmas.{pieces, row_has, shown, so_found, way_ends, ways, whole_found}
use Rattle.syslog_dialects.proofs.DatedFoundLemmas.{IsFoundForm, AllFound, both_found, said_so, said, an_any_date}
use Rattle.syslog_dialects.proofs.DatedFoundLemmas.{three, dated_all, plain_dated_all}

-- ---- what follows the date

abbrev texts_of : NamedTexts → List Part
texts_of n = three n.hostname n.appname n.process

abbrev TailFound : Tail → Type 0
TailFound T = (t : Text) (v : T.after.Value) → Ends is_blank t → Front T.after t [] v
    → Told (left_of T.dialect (T.names v).hostname) t (texts_of (T.names v)) (T.names v).msg

-- after a date and blanks
module _ (C : Class) (names : C.Value → NamedTexts) {t : Text} {v : Values (dated_row C names)}
    (f : Front (Row (dated_row C names)) t [] v) where
  abbrev After : Type 1
  After = (q : Text) × (w : C.Value) × Ends is_blank q × Front C q [] w × (v.1.1.1.0 ≡ names w)
      × ((left : List Class) (parts : List Part) (msg : Text) → Told left q parts msg
      → Told left t (Date v.1.0 ∷ parts) msg)

  after_date : After
  after_date =
      let row = dated_row C names in
      let (u, blank, f1) = row_head (run is_blank) (drop 1 row) f in
      let (x, dated, f2) = row_head any_date (drop 2 row) f1 in
      let (q, space, f3) = row_head (some_run is_blank) (drop 3 row) f2 in
      let it = end_of (mapped C NamedTexts names) f3 in
      let (w, is, same) = it.is in (
        q,
        w,
        space.is.2,
        front_of it.piece it.whole is,
        same,
        λ left parts msg told.
            out_more (run is_blank) blank (inl (blank_signs blank.piece blank.is.0))
            (an_any_date.has u x v.1.0 dated parts msg
            (out_more (some_run is_blank) space (inl (blank_signs space.piece space.is.1)) told)),
      )

tail_of : (T : Tail) → TailFound T → IsFoundForm (dated_form T.dialect T.after T.names)
tail_of T found = said_so T.dialect (dated_row T.after T.names) (λ v. says v.1.0 v.1.1.1.0) (λ t v f.
    let (q, w, front, it, same, more) = after_date T.after T.names f in
    inl (more (left_of T.dialect v.1.1.1.0.hostname) (texts_of v.1.1.1.0) v.1.1.1.0.msg
    (subst (λ (n : NamedTexts). Told (left_of T.dialect n.hostname) q (texts_of n) n.msg) (sym same)
    (found q w front it))))

-- a row
row_tail : (it : Dialect) (Cs : List Class) (names : Values Cs → NamedTexts)
    (way : (h : Option Text) → Way (left_of it h) Cs)
    → ((h : Option Text) → SaysSo (way h) (λ v. texts_of (names v)) (λ v. (names v).msg))
    → IsFoundForm (dated_form it (Row Cs) names)
row_tail it Cs names way same = tail_of (record { dialect = it; after = Row Cs; names = names }) (λ t v front.
    let h = (names v).hostname in
    so_found Cs (way h) (λ w. texts_of (names w)) (λ w. (names w).msg) (same h) t v)

-- a message by its mark, or a host before it
marked_found : (m : Mark) → TailFound (marked_tail m)
marked_found m t (inl msg) front f =
    whole_found begun (left_of (dialect_of m) None) t msg front (front_of f.piece f.whole f.is)
marked_found m t (inr w) front f = way_ends (after_row (beginning (mark_class m))) (search ways depth 9) t w
    (front_of f.piece f.whole f.is.1)

messages_all : (ms : List Mark) → AllFound (tail_forms (marked_tails ms))
messages_all [] = tt
messages_all (m ∷ ms) = (tail_of (marked_tail m) (marked_found m), messages_all ms)

-- ---- programs

line_passed : (Cs : List Class) → Ending (left_out dialect.Forwarded ++ Cs) (Row forwarded_row)
    (λ v. texts_of (forwarded_of v)) (λ v. (forwarded_of v).msg)
line_passed Cs = way_ends forwarded_row (search ways depth 16)

-- with its host another one is left out
forwarded_found : TailFound forwarded_tail
forwarded_found t (inl n) front f = mapped_found (left_of dialect.Forwarded n.hostname) (Row forwarded_row) NamedTexts
    forwarded_of texts_of (λ x. x.msg) (line_passed (beside n.hostname (relay ∷ []))) t n
    (front_of f.piece f.whole f.is)
forwarded_found t (inr w) front f =
    let whole : Front (Row (after_row passed_on)) t [] w = front_of f.piece f.whole f.is.1 in
    let (u, relayed, more) = row_head host (drop 1 (after_row passed_on)) whole in
    let (x, gap, others) = row_head (some_run is_blank) (passed_on ∷ []) more in
    let it = end_of passed_on others in
    let (vs, is, same) = it.is in
    let line : Front (Row forwarded_row) x [] vs = front_of it.piece it.whole is in
    let (y, words, ends) = row_head forwarded_words (drop 1 forwarded_row) line in
    let after : Front (Row (some_run is_blank ∷ forwarded_words ∷ [])) u y (tt, (tt, tt)) =
    row_of (some_run is_blank ∷ forwarded_words ∷ []) (gap then words then refl) in
    subst (λ (n : NamedTexts). Told (left_of dialect.Forwarded n.hostname) t (texts_of n) n.msg) (sym same)
    (out_more host relayed (inr (inr (inl (w.0, (relayed.is, (y, (tt, (tt, tt)), after))))))
    (out_more (some_run is_blank) gap (inl (blank_signs gap.piece gap.is.1)) (line_passed (relay ∷ []) x vs line)))

-- the serial number and the date in brackets are left out as one piece
number_found : (h : Option Text) → Ending (left_of dialect.WatchGuard h) (Row serial_row)
    (λ v. texts_of (serial_of v)) (λ v. (serial_of v).msg)
number_found h t v f =
    let left = left_of dialect.WatchGuard h in
    let (u, a, b) = rows_split (take 2 serial_row) (drop 2 serial_row) f in
    let (w, c, d) = rows_split serial (drop 7 serial_row) b in
    let before = firsts (take 2 serial_row) (drop 2 serial_row) v in
    row_has left (take 2 serial_row) (search pieces depth 9) t u before a _ _
    (out_more (Row serial) c (inr (inl (firsts serial (drop 7 serial_row) v.1.1, c.is)))
    (way_ends (drop 7 serial_row) (search ways depth 9) w (lasts serial (drop 7 serial_row) v.1.1) d))

box_found : (h : Option Text) → Ending (left_of dialect.WatchGuard h) (Row box_row) (λ v. texts_of (box_of v))
    (λ v. (box_of v).msg)
box_found h t v f =
    let (u, a, b) = rows_split first_serial (drop 5 box_row) f in
    out_more (Row first_serial) a (inr (inr (inl (firsts first_serial (drop 5 box_row) v, a.is))))
    (way_ends (drop 5 box_row) (search ways depth 9) u (lasts first_serial (drop 5 box_row) v) b)

serial_found : TailFound serial_tail
serial_found t (inl n) front f = mapped_found (left_of dialect.WatchGuard n.hostname) (Row serial_row) NamedTexts
    serial_of texts_of (λ x. x.msg) (number_found n.hostname) t n (front_of f.piece f.whole f.is)
serial_found t (inr n) front f = mapped_found (left_of dialect.WatchGuard n.hostname) (Row box_row) NamedTexts box_of
    texts_of (λ x. x.msg) (box_found n.hostname) t n (front_of f.piece f.whole f.is.1)

-- the process comes before the program
abbrev columns_of : NamedTexts → List Part
columns_of n = three n.hostname n.process n.appname

pub entry_name_is : (p q : Text) (t : Text) → entry_name.Is p q t → p ≡ t
entry_name_is p q t (inl v, is, same) = sym (is.0.2) ∙ sym same
entry_name_is p q t (inr v, is, same) = sym (is.1.0.2) ∙ sym same

-- a name of several words or of one
abbrev pub an_entry_name : {left : List Class} → SaysOne left entry_name
an_entry_name = shown entry_name Name entry_name_is

-- the type of an entry is a word too
abbrev a_kind : {Cs : List Class} → Shows (left_out dialect.UnifiedLog ++ Cs) kind
a_kind = passed (left_out_one (later (later first)))

ruleset named_ways = (an_any_date, an_entry_name, a_kind, ways)

columns_found : Ending (left_of dialect.UnifiedLog None) (Row log_row) (λ v. columns_of (log_of v))
    (λ v. (log_of v).msg)
columns_found = way_ends log_row (search named_ways depth 16)

unified_found : IsFoundForm (dated_form unified_tail.dialect unified_tail.after unified_tail.names)
unified_found text sent s =
    let v = s.values in
    let (q, w, front, it, same, more) = after_date (Row log_row) log_of
    (division_front (dated_row (Row log_row) log_of) s.division) in
    let n = v.1.1.1.0 in
    let told = more (left_of dialect.UnifiedLog n.hostname) (columns_of n) n.msg
    (subst (λ (n : NamedTexts). Told (left_of dialect.UnifiedLog n.hostname) q (columns_of n) n.msg) (sym same)
    (columns_found q w it)) in
    subst (λ (x : SentValue). AreFound dialect.UnifiedLog text x × Ends is_blank x.msg) (sym s.means)
    (inr (inr (refl, told.tells)), told.front)

programs_all : AllFound (tail_forms program_tails)
programs_all =
    tail_of forwarded_tail forwarded_found
    also row_tail dialect.SeverityFirst severity_row severity_of (λ h. search named_ways depth 24) (λ h v. (refl, refl))
    also row_tail dialect.SpacedName worded_row worded_of (λ h. search named_ways depth 24) (λ h v. (refl, refl))
    also row_tail dialect.UniFi access_row access_of (λ h. search named_ways depth 24) (λ h v. (refl, refl))
    also row_tail dialect.NoHost hostless_row hostless_of (λ h. search named_ways depth 24) (λ h v. (refl, refl))
    also tail_of serial_tail serial_found also unified_found
    also row_tail dialect.Untagged untagged_row untagged_of (λ h. search named_ways depth 24) (λ h v. (refl, refl))
    also tt

devices_all : AllFound (tail_forms device_tails)
devices_all =
    row_tail dialect.UniFi addressed_row addressed_of (λ h. search named_ways depth 24) (λ h v. (refl, refl))
    also row_tail dialect.SpacedName titled_row titled_of (λ h. search named_ways depth 24) (λ h v. (refl, refl))
    also row_tail dialect.UnifiedLog compact_row compact_of (λ h. search named_ways depth 24) (λ h v. (refl, refl))
    also tt

-- all is the message
begun_found : (it : Dialect) (C : Class)
    → IsFoundForm (dated_form it (beginning C) (untagged None))
begun_found it C = tail_of (record { dialect = it; after = beginning C; names = untagged None })
    (λ t v front f. whole_found begun (left_of it None) t v front f)

graded_all : AllFound (tail_forms graded_tails)
graded_all =
    row_tail dialect.SeverityFirst graded_row graded_of (λ h. search named_ways depth 24) (λ h v. (refl, refl))
    also row_tail dialect.SeverityFirst leveled_row leveled_of (λ h. search named_ways depth 24) (λ h v. (refl, refl))
    also row_tail dialect.Bracketed event_row event_of (λ h. search named_ways depth 24) (λ h v. (refl, refl))
    also row_tail dialect.BsdDate sourced_row sourced_of (λ h. search named_ways depth 24) (λ h v. (refl, refl))
    also row_tail dialect.NoHost threaded_row threaded_of (λ h. search named_ways depth 24) (λ h v. (refl, refl))
    also row_tail dialect.NoHost padded_row padded_of (λ h. search named_ways depth 24) (λ h v. (refl, refl))
    also row_tail dialect.Bracketed numbered_row numbered_of (λ h. search named_ways depth 24) (λ h v. (refl, refl))
    also begun_found dialect.Bracketed (Row counted_row)
    also begun_found dialect.Bracketed (mark_class mark_of.Bracket) also tt

-- ---- pairs, whose names are in the message

-- one text, as a list of names
abbrev only : Option Text → List (Option Text)
only v = v ∷ None ∷ None ∷ None ∷ []

-- with more text before them
sooner : (ts : List (Option Text)) (p r : Text) → AreInOrder ts r → AreInOrder ts (p ++ r)
sooner [] p r found = tt
sooner (None ∷ ts) p r found = sooner ts p r found
sooner (Some t ∷ ts) p r (before, after, whole, others) =
    (p ++ before, after, ap (λ (x : Text). p ++ x) whole ∙ sym (append_assoc p before (t ++ after)), others)

sooner_front : {C : Class} {t q : Text} {v : C.Value} (ts : List (Option Text)) → Front C t q v → AreInOrder ts q
    → AreInOrder ts t
sooner_front {q = q} ts f found = subst (AreInOrder ts) (sym f.whole) (sooner ts f.piece q found)

text_in : {C : Class} {t q : Text} {v : C.Value} (x : Text) → (f : Front C t q v) → x ≡ f.piece
    → AreInOrder (only (Some x)) t
text_in {q = q} x f same = ([], q, f.whole ∙ ap (λ (y : Text). y ++ q) (sym same), tt)

quoted_in : {t q : Text} (x : Text) → Front quoted t q x → AreInOrder (only (Some x)) t
quoted_in {t} {q} x f =
    let (vs, is, same) = f.is in
    let row : Front (Row quoted_row) t q vs = front_of f.piece f.whole is in
    let (u, opened, more) = row_head (exactly (34 ∷ [])) (drop 1 quoted_row) row in
    let (w, inside, ends) = row_head (texted (run is_unquoted)) (drop 2 quoted_row) more in
    subst (λ (y : Text). AreInOrder (only (Some y)) t) (sym same)
    (sooner_front (only (Some vs.1.0)) opened (text_in vs.1.0 inside inside.is.2))

bare_in : {t q : Text} (w : Text ⊎ Text) → Front (listed otherwise bare) t q w
    → AreInOrder (only (Some (either_text w))) t
bare_in (inl x) f = text_in x f f.is.0.2
bare_in (inr x) f = text_in x f f.is.1.2

unquoted_in : {t q : Text} (x : Text) → Front unquoted t q x → AreInOrder (only (Some x)) t
unquoted_in {t} {q} x f =
    let (w, is, same) = f.is in
    let it : Front (listed otherwise bare) t q w = front_of f.piece f.whole is in
    subst (λ (y : Text). AreInOrder (only (Some y)) t) (sym same) (bare_in w it)

either_in : {t q : Text} (w : Text ⊎ Text) → Front (quoted otherwise unquoted) t q w
    → AreInOrder (only (Some (either_text w))) t
either_in (inl x) f = quoted_in x (front_of f.piece f.whole f.is)
either_in (inr x) f = unquoted_in x (front_of f.piece f.whole f.is.1)

value_in : {t q : Text} (x : Text) → Front value t q x → AreInOrder (only (Some x)) t
value_in {t} {q} x f =
    let (w, is, same) = f.is in
    let it : Front (quoted otherwise unquoted) t q w = front_of f.piece f.whole is in
    subst (λ (y : Text). AreInOrder (only (Some y)) t) (sym same) (either_in w it)

pair_in : {t q : Text} (key x : Text) → Front pair t q (key, x) → AreInOrder (only (Some x)) t
pair_in {t} {q} key x f =
    let (vs, is, same) = f.is in
    let row : Front (Row pair_row) t q vs = front_of f.piece f.whole is in
    let (a, gap, f1) = row_head (run is_blank) (drop 1 pair_row) row in
    let (o, comma, f0) = row_head (optional (exactly (44 ∷ []))) (drop 2 pair_row) f1 in
    let (b, word, f2) = row_head (texted (some_run is_word_char)) (drop 3 pair_row) f0 in
    let (c, equals, f3) = row_head (exactly (61 ∷ [])) (drop 4 pair_row) f2 in
    let (d, it, ends) = row_head value [] f3 in
    let ts = only (Some vs.1.1.1.1.0) in
    subst (λ (y : Text × Text). AreInOrder (only (Some y.1)) t) (sym same)
    (sooner_front ts gap (sooner_front ts comma (sooner_front ts word (sooner_front ts equals
    (value_in vs.1.1.1.1.0 it)))))

one_of_two : (b : Bool) (v : Text) (o : Option Text) (text : Text) → AreInOrder (only (Some v)) text
    → AreInOrder (only o) text → AreInOrder (only (if b then Some v else o)) text
one_of_two true v o text one other = one
one_of_two false v o text one other = other

-- the first value at such a key is found in the pairs
value_found : (is_key : Text → Bool) (ps : List (Text × Text)) {t r : Text} → Front (many pair) t r ps
    → AreInOrder (only (first_value is_key ps)) t
value_found is_key [] f = tt
value_found is_key ((key, v) ∷ ps) {t} f =
    let (u, here, more) = many_parts pair f in
    one_of_two (is_key key) v (first_value is_key ps) t (pair_in key v here)
    (sooner_front (only (first_value is_key ps)) here (value_found is_key ps more))

pairs_found : IsFoundForm pairs_form
pairs_found text sent s =
    let v = s.values.1.0 in
    let (q, gap, more) = row_head (run is_blank) (paired ∷ []) (division_front pairs_row s.division) in
    let it = end_of paired more in
    let (nil, same, (ps, r, front, shows, device)) = it.is in
    let pairs = subst (λ (x : Text). Front (many pair) x r ps) (sym same) front in
    let found = subst (λ (x : Option Text). AreInOrder (only x) v.2) (sym device) (value_found is_host_key ps pairs) in
    let told = out_more (run is_blank) gap (inl (blank_signs gap.piece gap.is.0))
    (whole_found {C = paired} (record { msg = λ w. w.2; is = λ p w is. is.1 }) [] q v gap.is.1 it) in
    subst (λ (x : SentValue). AreFound dialect.KeyValue text x × Ends is_blank x.msg) (sym s.means)
    (inr (inl (refl, (told.tells, found, (v.0, refl, (ps, r, pairs, shows))))), told.front)

-- ---- without a date

undated_all : AllFound undated_forms
undated_all =
    said dialect.Cef (undated_row mark_of.Cef) (λ v. loose None None None None v.1.0)
    (λ h. search named_ways depth 9) (λ h v. (refl, refl))
    also said dialect.Leef (undated_row mark_of.Leef) (λ v. loose None None None None v.1.0)
    (λ h. search named_ways depth 9) (λ h v. (refl, refl))
    also pairs_found
    also said dialect.Cef (near.vendor_row mark_of.Cef) (near.vendor_says mark_of.Cef)
    (λ h. search named_ways depth 24) (λ h v. (refl, refl))
    also said dialect.Leef (near.vendor_row mark_of.Leef) (near.vendor_says mark_of.Leef)
    (λ h. search named_ways depth 24) (λ h v. (refl, refl))
    also said dialect.CheckPoint near.paired_row near.paired_says
    (λ h. search named_ways depth 24) (λ h v. (refl, refl))
    also said dialect.NearlyRfc5424 near.nil_row near.nil_says
    (λ h. search named_ways depth 24) (λ h v. (refl, refl))
    also said dialect.NearlyRfc5424 near.tag_row near.tag_says
    (λ h. search named_ways depth 24) (λ h v. (refl, refl))
    also said dialect.Heroku near.heroku_row near.heroku_says
    (λ h. search named_ways depth 24) (λ h v. (refl, refl))
    also said dialect.NearlyRfc5424 near.bare_row near.bare_says
    (λ h. search named_ways depth 24) (λ h v. (refl, refl))
    also said dialect.Monotonic monotonic_row monotonic_says
    (λ h. search named_ways depth 24) (λ h v. (refl, refl)) also tt

named_all : AllFound named_forms
named_all = both_found (tail_forms graded_tails) marked_forms graded_all
    (both_found (tail_forms message_tails) program_forms (messages_all marks)
    (both_found (tail_forms program_tails) device_forms programs_all
    (both_found (tail_forms device_tails) undated_forms devices_all undated_all)))

plain_all : AllFound plain_forms
plain_all = both_found dated.plain_forms spread_forms plain_dated_all
    (row_tail dialect.SpacedName spread_row spread_of (λ h. search named_ways depth 24) (λ h v. (refl, refl)) also tt)

early_all : AllFound early_forms
early_all = both_found dated_forms (named_forms ++ plain_forms) dated_all
    (both_found named_forms plain_forms named_all plain_all)

last_all : AllFound last_forms
last_all =
    said dialect.NoHost program_row program_sent (λ h. search named_ways depth 24) (λ h v. (refl, refl))
    also said dialect.UniFi point_alone_row point_sent (λ h. search named_ways depth 24) (λ h v. (refl, refl))
    also said dialect.PriorityAlone alone_row (λ v. loose None None None None v.1.0)
    (λ h. search named_ways depth 9) (λ h v. (refl, refl)) also tt

-- ---- each form

late_all : (is_read : Bool) (priority : Option ℕ) → AllFound (late_forms is_read priority)
late_all true priority = tt
late_all false None = tt
late_all false (Some number) = last_all

first_found : (Fs : List Form) → AllFound Fs → (text : Text) (it : Dialect) (sent : SentValue)
    → IsOfFirst Fs text it sent → AreFound it text sent × Ends is_blank sent.msg
first_found [] all text it sent is = absurd is
first_found (F ∷ Fs) all text it sent (inl (same, is)) =
    subst (λ (x : Dialect). AreFound x text sent × Ends is_blank sent.msg) (sym same) (all.0 text sent is)
first_found (F ∷ Fs) all text it sent (inr (none, more)) = first_found Fs all.1 text it sent more

-- of a text after its priority each character is accounted for, and no blank begins the message
pub said_visibly : (is_read : Bool) (priority : Option ℕ) (text : Text) (it : Dialect) (sent : SentValue)
    → IsOfFirst (forms_of is_read priority) text it sent → AreFound it text sent × Ends is_blank sent.msg
said_visibly is_read priority = first_found (forms_of is_read priority)
    (both_found early_forms (late_forms is_read priority) early_all (late_all is_read priority))

pub said_found : (is_read : Bool) (priority : Option ℕ) (text : Text) (it : Dialect) (sent : SentValue)
    → IsOfFirst (forms_of is_read priority) text it sent → AreFound it text sent
said_found is_read priority text it sent is = (said_visibly is_read priority text it sent is).0

-- of the whole line
pub read_found : (dates : Dates) (is_read : Bool) (text : Text) (it : Dialect) (m : MessageValue)
    → IsSentIn dates is_read text it m → IsFoundIn dates it (trimmed text) m
read_found dates is_read text it m is = record {
  priority = is.priority;
  follows = is.follows;
  sent = is.sent;
  front = is.front;
  found = said_found is_read is.priority is.follows it is.sent is.form.first;
  whole = is.whole;
  says = is.says;
  opened = is.opened;
}
