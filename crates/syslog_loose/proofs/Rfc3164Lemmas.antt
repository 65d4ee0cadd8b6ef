-- Texts of RFC 3164: what the fields of names mean together is one thing, a text has one division, and none of RFC
-- 5424.
pub mod Near
pub mod ReadBack
use Rattle.syslog_loose.proofs.Names.{optional_rfc3164_list_quotes, to_ascii_lowercase, rfc3164_stamp_det, some_run_det}
use Rattle.syslog_loose.proofs.Names.{month_date_begins, AllDeterministic, IsBoundedProcess, rfc3164_list_det, some_run}
use Rattle.syslog_loose.proofs.Names.{message_of_parts, unique_division, no_row_division, OffsetTimestamp, is_open_char}
use Rattle.syslog_loose.proofs.Names.{stamp_text-year, division_front, front_division, rows_none_here, some_front_run}
use Rattle.syslog_loose.proofs.Names.{ShowsMonthDate, is_ascii_digit, chars_nonempty, is_label_char, rfc3164_stamp, ◌≡◌}
use Rattle.syslog_loose.proofs.Names.{optional_none, ShowsYearless, yearless_date, optional_some, process_texts, ◌also◌}
use Rattle.syslog_loose.proofs.Names.{element_texts, length-append, NamesProcess, process_same, MessageValue, no_texted}
use Rattle.syslog_loose.proofs.Names.{optional_det, rfc3164_list, priority_det, exactly_det, begins_apart, tag_word_det}
use Rattle.syslog_loose.proofs.Names.{full_element, elements_or, ElementValue, rfc3164_row, stamped_row, begins_more, ℕ}
use Rattle.syslog_loose.proofs.Names.{rfc5424_row, priority_of, AreInPieces, rest_quotes, host_quotes, part_joined, ◌≢◌}
use Rattle.syslog_loose.proofs.Names.{no_some_run, absent_none, all_joined, row_pieces, IsRead3164, rest_front, run_det}
use Rattle.syslog_loose.proofs.Names.{fields_row, month_date, incomplete, front_same, row_quotes, Quotes3164, rows_step}
use Rattle.syslog_loose.proofs.Names.{unwrap_or, Names3164, IsBounded, Means3164, rows_join, ◌++◌, MonthDate, rest_same}
use Rattle.syslog_loose.proofs.Names.{form_row, IsNot5424, text_list, all_right, IsNoForm, Resolves, DashRule, optional}
use Rattle.syslog_loose.proofs.Names.{is_blank, tag_word, priority, host_det, body_row, rest_det, row_cons, HasMonth}
use Rattle.syslog_loose.proofs.Names.{rules, Division, run_same, flat_map, all_left, NoFront, exactly, RFC3164, trimmed}
use Rattle.syslog_loose.proofs.Names.{printed, length, Values, texted, IsForm, no_row, Option, ProcId, IfSome, Dating}
use Rattle.syslog_loose.proofs.Names.{[], arith, ◌then◌, row_of, spaced, number, Begins, IsPart, Quoted, silent, IsMany}
use Rattle.syslog_loose.proofs.Names.{chars, Class, Front, names, colon, subst, month, false, List, refl, Text, Some}
use Rattle.syslog_loose.proofs.Names.{None, Name, rest, host, true, Each, Bool, cond, ◌<◌, ◌∷◌, ◌∙◌, Row, run, inl, inr}
use Rattle.syslog_loose.proofs.Names.{ap, sym, PID, ◌↔◌, map, ◌≤◌}
use Rattle.syslog_text.proofs.PieceLemmas.Class.{texted_det, after_det, Fails, all_append, append_more}
use Rattle.syslog_loose.specs.{Printed.printed_3164, Rfc3164.NamesByForm}
use Rattle.syslog_text.proofs.PieceLemmas.Lists.{each_begins, texted_quotes, part_left, optional_quotes, optional_texts}
use Rattle.syslog_text.proofs.PieceLemmas.Lists.{spaced_quotes, part_right}
use Rattle.syslog_text.proofs.TextLemmas.Quotes.{tag_word_quotes}
use Rattle.syslog_pieces.proofs.TimestampLemmas.MonthDate.{month_date_det, IsBlank, blanks_begin, blank_low}
use Rattle.syslog_text.specs.{Bodies.Scan.SplitsRun, Pieces.Class.NoDivision, Pieces.Parts.IsInPieces}
use Rattle.syslog_pieces.specs.Timestamp.MonthDate.{month_names, short_number, clock_row, yearless_row}
use Rattle.std.proofs.lemmas.Option.{slice_get_within}
use Rattle.syslog_pieces.specs.Bodies.MonthReading.{BeginsWithDate, showing_row}
use Rattle.syslog_loose.proofs.PrintedLemmas.{priority_low, priority_front, priority_trimmed}

-- ---- the form `tag[id]`: a text is of it in one way

abbrev pub label : Class
label = texted (run is_label_char)

abbrev pub id_text : Class
id_text = texted (some_run is_open_char)

abbrev pub closing : Class
closing = exactly (93 ∷ [])

abbrev pub to_closing : List Class
to_closing = label ∷ exactly (91 ∷ []) ∷ id_text ∷ []

to_closing_det : AllDeterministic to_closing
to_closing_det = search (rules, texted_det, run_det, exactly_det, some_run_det)

pub form_det : AllDeterministic form_row
form_det = all_joined to_closing (closing ∷ []) to_closing_det (exactly_det (93 ∷ []) also tt)

-- a text is of the form in one way
pub one_form : (text tag id tag' id' : Text) → IsForm text tag id → IsForm text tag' id' → (tag ≡ tag') × (id ≡ id')
one_form text tag id tag' id' f g =
    let r = (unique_division form_row form_det f g).1 in
    (ap (λ (x : Values form_row). x.0) r, ap (λ (x : Values form_row). x.1.1.0) r)

-- ---- what the reader finds

pub label_front : {bs xs ys : List ℕ} → SplitsRun is_label_char bs xs ys → Front label (chars bs) (chars ys) (chars xs)
label_front s = record { piece = _; whole = s.characters; is = (tt, (s.each, s.ends), refl) }

pub id_front : {bs xs ys : List ℕ} → SplitsRun is_open_char bs xs ys → 0 < length xs
    → Front id_text (chars bs) (chars ys) (chars xs)
id_front {xs = xs} s l = search (rules, chars_nonempty)

pub no_id : {bs xs ys : List ℕ} → SplitsRun is_open_char bs xs ys → length xs ≡ 0 → NoFront id_text (chars bs)
no_id {bs = bs} {xs = xs} {ys = ys} s z = no_texted (some_run is_open_char) (no_some_run is_open_char bs xs ys s z)

-- a piece of the form is not there
pub no_form : {t : Text} → Fails form_row t → IsNoForm t
no_form f = no_row_division form_row (no_row form_row form_det f)

-- something else than `]` is after the id
pub no_closing : {t u : Text} {ws : Values to_closing} → Front (Row to_closing) t u ws → u ≢ 93 ∷ [] → IsNoForm t
no_closing f n vs d =
    let (_, g) = rows_step to_closing (closing ∷ []) to_closing_det {vs = vs} f (division_front form_row d) in
    let (q, h, e) = row_pieces (closing ∷ []) g in
    n (h.whole ∙ ap (λ (x : Text). x ++ q) h.is ∙ ap (λ (x : Text). 93 ∷ x) e)

-- ---- what the two fields of names mean

names_once : (host : Option Text) (text : Text) (other r s : Names3164) → NamesByForm host text other r
    → NamesByForm host text other s → r ≡ s
names_once host text other r s (inl (t, i, p, f, n, e)) (inl (t', i', p', f', n', e')) =
    let (tag, id) = one_form text t i t' i' f f' in
    let same = process_same i' p p' (rw id at n) n' in cc
names_once host text other r s (inl (t, i, p, f, n, e)) (inr (none, e')) = absurd (none _ f)
names_once host text other r s (inr (none, e)) (inl (t, i, p, f, n, e')) = absurd (none _ f)
names_once host text other r s (inr (none, e)) (inr (none', e')) = e ∙ sym e'

-- the two fields mean one thing
pub resolves_once : (host tag : Option (Option Text)) (r s : Names3164) → Resolves host tag r → Resolves host tag s
    → r ≡ s
resolves_once (Some (Some h)) None r s x y = names_once None h (names (Some h) None None) r s x y
resolves_once None (Some (Some t)) r s x y = names_once None t (names None (Some t) None) r s x y
resolves_once (Some h) (Some (Some t)) r s x y = names_once h t (names h (Some t) None) r s x y
resolves_once v t r s x y = x ∙ sym y

-- What holds of the names that a host field and a tag field mean, case by case. There may be no names, or a lone text:
-- a host, or one of a program's form. Or there is a program's text, of that form or not, beside what the host field
-- holds.
pub record OfNames (P : Option (Option Text) → Option (Option Text) → Names3164 → Type 0) : Type 0 where
  pub nobody : (v t : Option (Option Text)) → P v t (names None None None)
  pub host : (h : Text) → IsNoForm h → P (Some (Some h)) None (names (Some h) None None)
  pub lone : (h tag id : Text) (p : ProcId Text) → IsForm h tag id → NamesProcess id p
      → P (Some (Some h)) None (names None (Some tag) (Some p))
  pub app : (v : Option (Option Text)) (t : Text) → IsNoForm t
      → P v (Some (Some t)) (names (unwrap_or v None) (Some t) None)
  pub process : (v : Option (Option Text)) (t tag id : Text) (p : ProcId Text) → IsForm t tag id → NamesProcess id p
      → P v (Some (Some t)) (names (unwrap_or v None) (Some tag) (Some p))

module _ (P : Option (Option Text) → Option (Option Text) → Names3164 → Type 0) (k : OfNames P) where
  pub of_names : (v t : Option (Option Text)) (n : Names3164) → Resolves v t n → P v t n
  of_names (Some (Some h)) None n (inl (tag, id, p, f, g, e)) = rw e (k.lone h tag id p f g)
  of_names (Some (Some h)) None n (inr (none, e)) = rw e (k.host h none)
  of_names None (Some (Some t)) n (inl (tag, id, p, f, g, e)) = rw e (k.process None t tag id p f g)
  of_names None (Some (Some t)) n (inr (none, e)) = rw e (k.app None t none)
  of_names (Some h) (Some (Some t)) n (inl (tag, id, p, f, g, e)) = rw e (k.process (Some h) t tag id p f g)
  of_names (Some h) (Some (Some t)) n (inr (none, e)) = rw e (k.app (Some h) t none)
  of_names v t n e = rw e (k.nobody v t)

-- ---- the process of a message is bounded

named_bounded : (id : Text) (process : ProcId Text) → NamesProcess id process → IsBoundedProcess process
named_bounded id (PID n) h = h.1
named_bounded id (Name t) h = tt

pub rfc3164_bounded : (rule : DashRule) (dating : Dating) (text : Text) (m : MessageValue)
    → IsRead3164 rule dating text m
    → IsBounded m
rfc3164_bounded rule dating text m r =
    let (n, resolves, means) = r.means in
    let of : OfNames (λ v t n. IfSome n.procid IsBoundedProcess) = search (rules, named_bounded) in
    let procid = of_names (λ v t n. IfSome n.procid IsBoundedProcess) of _ _ n resolves in rw means (search rules)

-- ---- the pieces from each one on

-- the priority and the blanks after it
abbrev pub to_stamp : List Class
to_stamp = optional priority ∷ run is_blank ∷ []

pub to_stamp_det : AllDeterministic to_stamp
to_stamp_det = optional_det priority priority_det also run_det is_blank also tt

-- the names, up to the colon
abbrev pub to_colon : List Class
to_colon = optional (spaced host) ∷ optional (spaced tag_word) ∷ run is_blank ∷ optional (exactly colon) ∷ []

pub to_colon_det : AllDeterministic to_colon
to_colon_det =
    optional_det (spaced host) (after_det host host_det)
    also optional_det (spaced tag_word) (after_det tag_word tag_word_det) also run_det is_blank
    also optional_det (exactly colon) (exactly_det colon) also tt

-- the blanks after the list, and the message
abbrev pub from_gap : List Class
from_gap = run is_blank ∷ rest ∷ []

abbrev pub from_list : DashRule → List Class
from_list rule = optional (rfc3164_list rule) ∷ from_gap

-- the blanks after the colon
abbrev pub from_blanks : DashRule → List Class
from_blanks rule = run is_blank ∷ from_list rule

abbrev pub from_colon : DashRule → List Class
from_colon rule = optional (exactly colon) ∷ from_blanks rule

-- the blanks after the tag
abbrev pub from_tag_end : DashRule → List Class
from_tag_end rule = run is_blank ∷ from_colon rule

abbrev pub from_tag : DashRule → List Class
from_tag rule = optional (spaced tag_word) ∷ from_tag_end rule

abbrev pub from_stamp : DashRule → Dating → List Class
from_stamp rule dating = rfc3164_stamp dating ∷ body_row rule

pub gap_back : (t msg : Text) → Front (run is_blank) t msg tt → Front (Row from_gap) t [] (tt, (msg, tt))
gap_back t msg f = row_of from_gap (f then rest_front msg then refl)

-- ---- one division, and one message

pub fields_det : AllDeterministic fields_row
fields_det = all_joined to_colon (run is_blank ∷ []) to_colon_det (run_det is_blank also tt)

pub stamped_det : (dating : Dating) → AllDeterministic (stamped_row dating)
stamped_det dating = all_joined to_stamp (rfc3164_stamp dating ∷ []) to_stamp_det (rfc3164_stamp_det dating also tt)

pub body_det : (rule : DashRule) → AllDeterministic (body_row rule)
body_det rule = search (rules, all_joined, fields_det, optional_det, rfc3164_list_det, run_det, rest_det)

pub rfc3164_det : (rule : DashRule) (dating : Dating) → AllDeterministic (rfc3164_row rule dating)
rfc3164_det rule dating = all_joined (stamped_row dating) (body_row rule) (stamped_det dating) (body_det rule)

-- the message of these pieces, with these names
abbrev pub told : (rule : DashRule) (dating : Dating) → Values (rfc3164_row rule dating) → Names3164 → MessageValue
told rule dating (pri, (_, (stamp, (_, (_, (_, (_, (_, (es, (_, (m, _))))))))))) n =
    message_of_parts RFC3164 pri stamp n.hostname n.appname n.procid None (elements_or es) m

-- a text is read as one message
pub one_message : (rule : DashRule) (dating : Dating) (text : Text) (m n : MessageValue) → IsRead3164 rule dating text m
    → IsRead3164 rule dating text n → m ≡ n
one_message rule dating text m n r s =
    let same = (unique_division (rfc3164_row rule dating) (rfc3164_det rule dating) r.division s.division).1 in
    let (x, h, e) =
    subst (λ (vs : Values (rfc3164_row rule dating)). Means3164 rule dating vs m) same r.means in
    let (y, k, f) = s.means in
    e ∙ ap (told rule dating s.values) (resolves_once s.values.1.1.1.0 s.values.1.1.1.1.0 x y h k) ∙ sym f

-- ---- from the row of the trimmed text
pub not_read : (rule : DashRule) (dating : Dating) {text : Text} → NoFront (Row (stamped_row dating)) text
    → NoDivision (rfc3164_row rule dating) text
not_read rule dating n =
    no_row_division (rfc3164_row rule dating) (rows_none_here (stamped_row dating) (body_row rule) n)

pub is_read : (rule : DashRule) (dating : Dating) (text t : Text) (vs : Values (rfc3164_row rule dating))
    (m : MessageValue) → t ≡ trimmed text → Means3164 rule dating vs m
    → Front (Row (rfc3164_row rule dating)) t [] vs → IsRead3164 rule dating text m
is_read rule dating text t vs m e means f = search rules

-- ---- a list that is there is no empty text
many_shorter : (p q : Text) (es : List ElementValue) → 0 < length es → IsMany full_element p q es
    → length q < length (p ++ q)
many_shorter p q [] l h = absurd (omega arith)
many_shorter p q (e ∷ es) l (a, b, whole, is, more) = search (rules, length-append)

pub list_none : (rule : DashRule) {t q : Text} (v : Option (List ElementValue))
    → Front (optional (rfc3164_list rule)) t q v
    → length t ≤ length q → (elements_or v ≡ []) × NoFront (rfc3164_list rule) t
list_none rule None f l = (refl, absent_none (rfc3164_list rule) f)
list_none rule {q = q} (Some es) f l = search (rules, many_shorter)

-- ---- nothing after the timestamp can fail

-- it can't be that no row of this kind begins any text
abbrev Stands : List Class → Type 0
Stands Cs = (t : Text) → ((vs : Values Cs) → Front (Row Cs) t [] vs → ⊥) → ⊥

run_stands : (Cs : List Class) → Stands Cs → Stands (run is_blank ∷ Cs)
run_stands Cs s t n = let (q, f) = some_front_run is_blank t in
    s q (λ vs g. n (tt, vs) (row_cons (run is_blank) Cs f g))

optional_stands : (C : Class) (Cs : List Class) → Stands Cs → Stands (optional C ∷ Cs)
optional_stands C Cs s t n =
    s t (λ vs g. n (None, vs) (row_cons (optional C) Cs (optional_none C (λ p q v e h.
    s q (λ ws k. n (Some v, ws) (row_cons (optional C) Cs (record { piece = p; whole = e; is = h }) k)))) g))

pub body_stands : (rule : DashRule) → Stands (body_row rule)
body_stands rule =
    optional_stands (spaced host) (from_tag rule) (optional_stands (spaced tag_word) (from_tag_end rule)
    (run_stands (from_colon rule) (optional_stands (exactly colon) (from_blanks rule)
    (run_stands (from_list rule) (optional_stands (rfc3164_list rule) from_gap (run_stands (rest ∷ [])
    (λ t n. n (t, tt) (row_of (rest ∷ []) (rest_front t then refl)))))))))

-- a text has no division exactly where no priority, blanks and timestamp begin it
pub division_is_stamped : (rule : DashRule) (dating : Dating) (text : Text) → NoDivision (rfc3164_row rule dating) text
    ↔ NoFront (Row (stamped_row dating)) text
division_is_stamped rule dating text = (
  (λ n p q vs e h. body_stands rule q (λ ws g. n _ (front_division (rfc3164_row rule dating) (rows_join
      (stamped_row dating) (body_row rule) (record { piece = p; whole = e; is = h }) g)))),
  not_read rule dating,
)

-- ---- a date has one of twelve months, and numbers of 32 bits

pub date_has_month : {t q : Text} (d : MonthDate) → Front yearless_date t q d → HasMonth (incomplete d)
date_has_month {t} {q} d f =
    search (
      rules,
      yearless_row,
      row_pieces,
      month,
      some_run,
      is_blank,
      short_number,
      clock_row,
      slice_get_within,
      month_names,
      map,
      to_ascii_lowercase,
    )

-- ---- what a text shows

-- a priority, blanks and a date of the class show that date
pub shows : (date : Class) {text t u q : Text} {p : Option ℕ} {d : date.Value} → Front (optional priority) text t p
    → Front (run is_blank) t u tt → Front date u q d → BeginsWithDate date text d
shows date {q = q} {p = p} f gap g = (
  p,
  q,
  front_division (showing_row date) (row_of (showing_row date) (f then gap then g then rest_front q then refl)),
)

-- and back
pub shown_parts : (date : Class) (text : Text) (d : date.Value) → BeginsWithDate date text d
    → (p : Option ℕ) × (t : Text) × (u : Text) × (q : Text) × Front (optional priority) text t p
    × Front (run is_blank) t u tt × Front date u q d
shown_parts date text d (p, more, division) =
    let (t, f, (u, gap, (q, g, _))) = row_pieces (showing_row date) (division_front (showing_row date) division) in
    (p, t, u, q, f, gap, g)

-- a date without a year is a month date
pub shows_month_date : (text : Text) (d : MonthDate) → ShowsYearless text d → ShowsMonthDate text d
shows_month_date text d is = search rules

-- a text shows one month date
pub shown_once : (text : Text) (d e : MonthDate) → ShowsMonthDate text d → ShowsMonthDate text e → d ≡ e
shown_once text d e (_, _, x) (_, _, y) =
    ap (λ (z : Values (showing_row month_date)). z.1.1.0) (unique_division (showing_row month_date)
    (optional_det priority priority_det also run_det is_blank also month_date_det also rest_det also tt) x y).1

-- ---- what a text begins with
abbrev pub IsDigit : ℕ → Type 0
IsDigit c = is_ascii_digit c ≡ true

pub digit_range : (c : ℕ) → is_ascii_digit c ≡ true → (48 ≤ c) × (c ≤ 57)
digit_range c h = grind arith

pub number_begins : (limit : ℕ) {t q : Text} {n : ℕ} → Front (number limit) t q n → Begins IsDigit t
number_begins limit {q = q} f =
    rw f.whole (begins_more IsDigit f.piece q (each_begins is_ascii_digit f.piece f.is.0 f.is.1))

-- no blank is before a digit
no_blanks : (p q : Text) → Each is_blank p → Begins IsDigit (p ++ q) → p ≡ []
no_blanks [] q a b = refl
no_blanks (c ∷ p) q a b = absurd (let t = blank_low c a.0 in let u = digit_range c b in omega arith)

stays : {t q : Text} → Begins IsDigit t → Front (run is_blank) t q tt → t ≡ q
stays {t = t} {q = q} b f = f.whole ∙ ap (λ (x : Text). x ++ q) (no_blanks f.piece q f.is.0 (rw f.whole at b))

-- ---- a version, which no timestamp begins with

-- what comes after the priority in RFC 5424: a number, and then a blank
pub record Versioned (t : Text) : Type 0 where
  pub value : ℕ
  pub after : Text
  pub number : Front (number 4294967295) t after value
  pub blank : Begins IsBlank after

-- digits and a dash are no version
dash_apart : (y r t : Text) → t ≡ y ++ (45 ∷ r) → Each is_ascii_digit y → Versioned t → ⊥
dash_apart y r t e h v = search (rules, run_same, rest_same)

date_apart : (p q : Text) (d : MonthDate) → month_date.Is p q d → Versioned (p ++ q) → ⊥
date_apart p q d h v =
    begins_apart (p ++ q) (λ c l k. let t = digit_range c k in omega arith) (month_date_begins p q d h)
    (number_begins 4294967295 v.number)

rfc3164_apart : (dating : Dating) (p q : Text) (v : Option OffsetTimestamp) → (rfc3164_stamp dating).Is p q v
    → Versioned (p ++ q) → ⊥
rfc3164_apart dating p q None (inl h) n = dash_apart [] q (p ++ q) (ap (λ (x : Text). x ++ q) h) tt n
rfc3164_apart dating p q (Some s) (inl h) n =
    let (y, r, e, digits) = stamp_text-year p s h.0 in
    dash_apart y (r ++ q) (p ++ q) (append_more p y (45 ∷ r) q e) digits n
rfc3164_apart dating p q None (inr h) n = absurd h
rfc3164_apart dating p q (Some s) (inr (d, h, stamp)) n = date_apart p q d h n

-- ---- divisions of both kinds

-- where both have their priority, RFC 5424 has a version after it
pub versioned : (text q : Text) (p : Option ℕ) (vs : Values rfc5424_row) → Division rfc5424_row text vs
    → Front (optional priority) text q p → Versioned q
versioned text q p vs d f =
    let (_, g1, (t2, g2, (_, g3, _))) = row_pieces rfc5424_row (division_front rfc5424_row d) in
    let e = (front_same (optional priority) (optional_det priority priority_det) g1 f).0 in
    record { value = vs.1.0; after = t2; number = rw e at g2; blank = blanks_begin g3 }

-- and blanks after the priority are none there
moved : {t q : Text} → Front (run is_blank) t q tt → Versioned t → Versioned q
moved f v = subst Versioned (stays (number_begins 4294967295 v.number) f) v

pub not_both : (rule : DashRule) (dating : Dating) (text : Text) (vs : Values rfc5424_row)
    (ws : Values (rfc3164_row rule dating)) → Division rfc5424_row text vs → Division (rfc3164_row rule dating) text ws
    → ⊥
not_both rule dating text vs ws d e =
    let (t1, g1, (_, g2, (t3, g3, _))) = row_pieces (rfc3164_row rule dating)
    (division_front (rfc3164_row rule dating) e) in
    rfc3164_apart dating g3.piece t3 ws.1.1.0 g3.is
    (subst Versioned g3.whole (moved g2 (versioned text t1 ws.0 vs d g1)))

-- a text that shows a month date has no division of RFC 5424
pub shown_apart : (text : Text) (d : MonthDate) → ShowsMonthDate text d → IsNot5424 text
shown_apart text d shown vs f =
    let (p, t, u, q, g1, g2, g3) = shown_parts month_date (trimmed text) d shown in
    date_apart g3.piece q d g3.is (subst Versioned g3.whole (moved g2 (versioned (trimmed text) t p vs f g1)))

-- ---- a printed message has no division of RFC 5424: a space is where the version would begin

no_digit : (b : Bool) (ys : Text) → Begins IsDigit (cond b [] (32 ∷ ys)) → ⊥
no_digit true ys h = h
no_digit false ys h = let t : false ≡ true = h in cc

-- the printed text of a message of RFC 3164
pub printed_3164_is : (m : MessageValue) → m.protocol ≡ RFC3164 → printed m ≡ printed_3164 m
printed_3164_is m e = search rules

pub printed_apart : (m : MessageValue) → IsNot5424 (printed_3164 m)
unfolding printed_3164
printed_apart m vs d =
    no_digit _ _ (number_begins 4294967295 (versioned _ _ _ vs (rw priority_trimmed at d)
    (optional_some priority (priority_front (priority_of m) _ (priority_low m)))).number)

pub printed_unlike : (m : MessageValue) → m.protocol ≡ RFC3164 → IsNot5424 (printed m)
printed_unlike m e = rw (printed_3164_is m e) (printed_apart m)

-- ---- parts of texts in pieces
part_on : (p t u : Text) → IsPart p t → IsPart t u → IsPart p u
part_on p t u (before, after, e) h = rw e (part_right before (t ++ after) u (part_left t after u h))

part_in : (ps : List Text) (t u : Text) → IsInPieces ps t → IsPart t u → IsInPieces ps u
part_in [] t u h k = absurd h
part_in (p ∷ ps) t u (inl h) k = inl (part_on p t u h k)
part_in (p ∷ ps) t u (inr h) k = inr (part_in ps t u h k)

-- ---- tag and id are parts of the name
quoted_form : Quoted form_row
quoted_form =
    ((λ t. t ∷ []), texted_quotes (run is_label_char)) also silent (exactly (91 ∷ []))
    also ((λ t. t ∷ []), texted_quotes (some_run is_open_char)) also silent (exactly (93 ∷ [])) also tt

form_parts : (text tag id : Text) → IsForm text tag id → IsPart text tag × IsPart text id
unfolding quoted_form
form_parts text tag id f =
    let all : AreInPieces f.pieces (tag ∷ id ∷ []) =
    row_quotes form_row quoted_form f.pieces [] (tag, (tt, (id, (tt, tt)))) f.each in
    (rw f.whole (part_joined f.pieces tag all.0), rw f.whole (part_joined f.pieces id all.1.0))

-- ---- the names
module _ (ps : List Text) where
  abbrev AreIn : List Text → Type 0
  AreIn ts = AreInPieces ps ts

  abbrev NamesAreIn : Names3164 → Type 0
  NamesAreIn n = AreIn (text_list n.hostname) × AreIn (text_list n.appname) × AreIn (process_texts n.procid)

  process_in : (id : Text) (p : ProcId Text) → NamesProcess id p → IsInPieces ps id → AreIn (process_texts (Some p))
  process_in id (PID number) h k = tt
  process_in id (Name name) h k = (rw h.1 k, tt)

  form_in : (origin : Option Text) (t tag id : Text) (p : ProcId Text) → IsForm t tag id → NamesProcess id p
      → AreIn (text_list origin) → IsInPieces ps t → NamesAreIn (names origin (Some tag) (Some p))
  form_in origin t tag id p f g a b = let parts = form_parts t tag id f in
      (a, (part_in ps t tag b parts.0, tt), process_in id p g (part_in ps t id b parts.1))

  host_in : (v : Option (Option Text)) → AreIn (optional_texts text_list v) → AreIn (text_list (unwrap_or v None))
  host_in None a = tt
  host_in (Some h) a = a

  resolved_in : (origin program : Option (Option Text)) (n : Names3164) → Resolves origin program n
      → AreIn (optional_texts text_list origin) → AreIn (optional_texts text_list program) → NamesAreIn n
  resolved_in = of_names
      (λ v t n. AreIn (optional_texts text_list v) → AreIn (optional_texts text_list t) → NamesAreIn n) (record {
        nobody = λ v t a b. (tt, tt, tt);
        host = λ h none a b. (a, tt, tt);
        lone = λ h tag id p f g a b. form_in None h tag id p f g tt a.0;
        app = λ v t none a b. (host_in v a, b, tt);
        process = λ v t tag id p f g a b. form_in (unwrap_or v None) t tag id p f g (host_in v a) b.0;
      })

-- ---- all texts
quoted_row : (rule : DashRule) (dating : Dating) → Quoted (rfc3164_row rule dating)
quoted_row rule dating =
    silent (optional priority) also silent (run is_blank) also silent (rfc3164_stamp dating)
    also (optional_texts text_list, optional_quotes (spaced host) text_list (spaced_quotes host text_list host_quotes))
    also (
      optional_texts text_list,
      optional_quotes (spaced tag_word) text_list (spaced_quotes tag_word text_list tag_word_quotes),
    )
    also silent (run is_blank) also silent (optional (exactly colon)) also silent (run is_blank)
    also ((λ es. flat_map element_texts (elements_or es)), optional_rfc3164_list_quotes rule)
    also silent (run is_blank) also ((λ t. t ∷ []), rest_quotes) also tt

pub quotes : (rule : DashRule) (dating : Dating) (text : Text) (m : MessageValue) → IsRead3164 rule dating text m
    → Quotes3164 rule dating text m
unfolding quoted_row
quotes rule dating text m r =
    let ps = r.division.pieces in
    let P = λ (t : Text). IsInPieces ps t in
    let vs = r.values in
    let origin = optional_texts text_list vs.1.1.1.0 in
    let program = optional_texts text_list vs.1.1.1.1.0 in
    let body = flat_map element_texts (elements_or vs.1.1.1.1.1.1.1.1.0) ++ (vs.1.1.1.1.1.1.1.1.1.1.0 ∷ []) in
    let all : AreInPieces ps (origin ++ (program ++ body)) =
    row_quotes (rfc3164_row rule dating) (quoted_row rule dating) ps [] vs r.division.each in
    let after = all_right P origin (program ++ body) all in
    let (n, h, e) = r.means in
    let (a, b, c) = resolved_in ps vs.1.1.1.0 vs.1.1.1.1.0 n h (all_left P origin (program ++ body) all)
    (all_left P program body after) in
    let inner = all_append P (text_list n.hostname) _ a (all_append P (text_list n.appname) _ b
    (all_append P (process_texts n.procid) _ c (all_right P program body after))) in
    record { read = r; each = rw e inner }

-- ---- the year, where a text shows no date without one

module _ (dating other : Dating) (zone : dating.zone ≡ other.zone) (local : dating.local ≡ other.local) where
  -- a date that has its year has one timestamp under both
  other_stamp : (p q : Text) (v : Option OffsetTimestamp) → ((d : MonthDate) → yearless_date.Is p q d → ⊥)
      → (rfc3164_stamp dating).Is p q v → (rfc3164_stamp other).Is p q v
  other_stamp p q v n (inl h) = inl h
  other_stamp p q None n (inr h) = absurd h
  other_stamp p q (Some s) n (inr (d, inl h, k)) = absurd (n d h)
  other_stamp p q (Some s) n (inr (d, inr (vs, h, e), k)) =
      let (year, dt, is, f, stamp) = rw e at k in
      inr (d, inr (vs, h, e), rw e (year, dt, is, f, rw (zone, local) at stamp))

  module _ (rule : DashRule) (text : Text) (none : (d : MonthDate) → ShowsYearless text d → ⊥) where
    -- so all pieces are the same, with the same meanings
    pub other_read : (m : MessageValue) → IsRead3164 rule dating text m → IsRead3164 rule other text m
    other_read m r =
        let (_, pri, (u, gap, (q, stamp, body))) = row_pieces (rfc3164_row rule dating)
        (division_front (rfc3164_row rule dating) r.division) in
        let v = r.values.1.1.0 in
        let undated : (d : MonthDate) → yearless_date.Is stamp.piece q d → ⊥ = λ d k.
        none d (shows yearless_date pri gap (record { piece = stamp.piece; whole = stamp.whole; is = k })) in
        let is = other_stamp stamp.piece q v undated stamp.is in
        let same : Front (rfc3164_stamp other) u q v = search rules in
        is_read rule other text (trimmed text) r.values m refl r.means
        (row_of (rfc3164_row rule other) (pri then gap then same then body))
