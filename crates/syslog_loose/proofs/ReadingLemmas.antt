-- How a text is read: what the pieces at its front say, what is made of it by way of its line, and what the calls
-- return.
use Rattle.syslog_loose.proofs.Names.{rules, ◌⊎◌, ◌≡◌, ◌≢◌, ◌∙◌, inl, inr, ℕ, ℤ, List, Option, Some, None, w32, to_z}
use Rattle.syslog_loose.proofs.Names.{of_z, refl, sym, ap, subst, MatchOption, IsSomeAnd, Bor, TimeZone, Text, shown}
use Rattle.syslog_loose.proofs.Names.{Dating, dating_of, MonthDate, MessageValue, message_value, dash_rule, IsRead}
use Rattle.syslog_loose.proofs.Names.{IsOnlyRead, IncompleteDate, AsksYear, InYear, IsQuoted, incomplete, IsRead5424}
use Rattle.syslog_loose.proofs.Names.{Invalid, Memory, Variant, Either, RFC5424, ◌↔◌, ◌then◌, ◌past◌, Err, false, true}
use Rattle.syslog_loose.proofs.Names.{arith, IsSome, row_of, no_row, Class, Front, NoFront, run, optional, priority}
use Rattle.syslog_loose.proofs.Names.{trimmed, is_blank, clock_value, header_stamp, stamp_seen, rfc3164_stamp}
use Rattle.syslog_loose.proofs.Names.{ShowsYearless, ShowsMonthDate, yearless_date, month_date, ClockStamp, front_same}
use Rattle.syslog_loose.proofs.Names.{optional_det, run_det, Begins, begins_apart, priority_det, some_front_run}
use Rattle.syslog_loose.proofs.Names.{month_date_begins, IsLetter, IsLow, ReadsProtocol, Answers, IsLeftTo3164}
use Rattle.syslog_loose.proofs.Names.{BeginsWithout, [], Result, Ok, append-nil, ElementValue, list_elements, DashRule}
use Rattle.syslog_loose.proofs.Names.{line_value, protocol_of, IsRead3164, IsLineOf, Made, ParseFault, Line, SFits}
use Rattle.syslog_loose.proofs.Names.{HasMonth, stamped_row, IsNot3164, no_truth, IsNot5424, IsAfterPriority}
use Rattle.syslog_loose.specs.{LineTexts.IsLine3164, LineTexts.IsLine5424, declared.variant.Variant.TheVariants.RFC3164}
use Rattle.syslog_loose.specs.{Bodies.Start.BeginsWith, declared.message.Message.Message}
use Rattle.syslog_loose.proofs.Rfc3164Lemmas.{shown_apart, not_read, date_has_month, shows_month_date, shown_once}
use Rattle.syslog_loose.proofs.Rfc3164Lemmas.{shown_parts, shows, stamped_det}
use Rattle.syslog_text.specs.Pieces.View.{Reads}
use Rattle.syslog_pieces.specs.Timestamp.{IsAnswer, Zone.IsMonthStamp}
use Rattle.syslog_pieces.proofs.TimestampLemmas.MonthDate.{date_front, header_front, header_stamp_begins, no_date}
use Rattle.syslog_pieces.proofs.TimestampLemmas.MonthDate.{no_stamp_of_date}
use Rattle.syslog_loose.specs.{DateForm.ShowsNoDate, Message.with_elements, Rows.IsAfterStamp, Visit.IsCompleted}
use Rattle.syslog_elements.specs.StructuredData.{Collected.HasCollected, Visited.Visits}
use Rattle.syslog_elements.specs.declared.structured_data.collect.Collect.{Collect}
use Rattle.syslog_loose.proofs.Rfc3164Lemmas as rfc3164
use Rattle.syslog_loose.proofs.Rfc5424Lemmas as strict
use Rattle.syslog_loose.specs.declared.message.Protocol.TheVariants as protocol

abbrev pub Found : Type 0
Found = Message (Bor (List ℕ))

abbrev pub value : Found → MessageValue
value m = message_value (λ s. shown s) m

-- ---- one reading
pub read_once : (variant : Variant) (dating : Dating) (text : Text) (m n : MessageValue) → IsRead variant dating text m
    → IsRead variant dating text n → m ≡ n
read_once RFC5424 dating text m n r s = strict.one_message text m n r s
read_once RFC3164 dating text m n r s = rfc3164.one_message dash_rule dating text m n r s
read_once Either dating text m n (inl r) (inl s) = strict.one_message text m n r s
read_once Either dating text m n (inl r) (inr (none, s)) = absurd (none r.values r.division)
read_once Either dating text m n (inr (none, r)) (inl s) = absurd (none s.values s.division)
read_once Either dating text m n (inr (none, r)) (inr (also, s)) = rfc3164.one_message dash_rule dating text m n r s

pub quoted : (variant : Variant) (dating : Dating) (text : Text) (m : MessageValue) → IsRead variant dating text m
    → IsQuoted variant dating text m
quoted RFC5424 dating text m r = strict.quotes text m r
quoted RFC3164 dating text m r = rfc3164.quotes dash_rule dating text m r
quoted Either dating text m r = search (rules, strict.quotes, rfc3164.quotes)

pub only_read : (variant : Variant) (dating : Dating) (text : Text) (m : MessageValue) → IsRead variant dating text m
    → IsOnlyRead variant dating text m
only_read variant dating text m r = record { read = r; only = λ n s. read_once variant dating text n m s r }

-- ---- the year

-- what holds in each year, where no year is asked for
pub unasked : {post : IncompleteDate → ℤ → Type 0} {variant : Variant} {text : Text} {Holds : Option ℤ → Type 0}
    → ((date : MonthDate) → AsksYear variant text date → ⊥) → ((year : Option ℤ) → Holds year)
    → InYear post variant text Holds
unasked never h = record { answered = None; is_answered = never; holds = λ year agrees. h year }

-- what holds in each year that agrees holds in that year
pub in_year_map : {post : IncompleteDate → ℤ → Type 0} {variant : Variant} {text : Text} {Holds More : Option ℤ → Type
    0} → ((year : Option ℤ) → Holds year → More year) → InYear post variant text Holds → InYear post variant text More
in_year_map f h =
    record { answered = h.answered; is_answered = h.is_answered; holds = λ year agrees. f year (h.holds year agrees) }

-- For callers: what holds in the year of a closure that always returns this one, an `i32`.
pub in_this_year : {post : IncompleteDate → ℤ → Type 0} {variant : Variant} {text : Text} {Holds : Option ℤ → Type 0}
    → InYear post variant text Holds → (year : ℤ) → SFits w32 year → ((date : IncompleteDate) (y : ℤ) → post date y → y
    ≡ to_z w32 (of_z w32 year)) → Holds (Some year)
in_this_year {post = post} {variant = variant} {text = text} h year fits same = search rules

-- For callers: what holds in the year of a closure, where that is known by what its own clause comes to.
pub in_year_told : {post told : IncompleteDate → ℤ → Type 0} {variant : Variant} {text : Text} {Holds : Option ℤ
    → Type 0} → InYear post variant text Holds
    → ((date : IncompleteDate) (year : ℤ) → post date year → told date year) → InYear told variant text Holds
in_year_told {post = post} {told = told} {variant = variant} {text = text} h tells = search rules

-- ---- faults
pub invalid_or_memory : Memory ≡ Invalid → ⊥
invalid_or_memory e = cc

-- ---- the pieces at the front

-- what a reader of pieces after blanks returns
pub front_read : {X : Type 0} (C : Class) (view : X → C.Value) (variant : Variant) (t start : Text)
    (r : Option (X × Bor (List ℕ))) → ReadsProtocol variant protocol.RFC3164 → Front (run is_blank) t start tt → Reads C
    view start r → MatchOption r (BeginsWithout C variant t) (λ x. BeginsWith C variant t (view x.0) (shown x.1))
front_read C view variant t start None reads gap none = λ r other same.
    subst (λ (x : Text). NoFront C x) (front_same (run is_blank) (run_det is_blank) gap same).0 none
front_read C view variant t start (Some x) reads gap f = record { reads = reads; start = start; gap = gap; front = f }

-- where RFC 5424 does not parse, RFC 3164 is left to try
pub left_to_try : (variant : Variant) (text : Text) → ReadsProtocol variant protocol.RFC3164
    → (variant ≢ RFC3164 → IsNot5424 text) → IsLeftTo3164 variant text
left_to_try RFC5424 text reads strict = absurd reads
left_to_try RFC3164 text reads strict = tt
left_to_try Either text reads strict = strict (λ e. cc)

-- where neither protocol has a division that the variant reads, the text is invalid
neither : (variant : Variant) (dating : Dating) (text : Text) → (variant ≢ RFC3164 → IsNot5424 text) → (ReadsProtocol
    variant protocol.RFC3164 → IsNot3164 dash_rule dating text) → Answers variant dating text (Err Invalid)
neither RFC5424 dating text strict loose = λ m r. strict (λ e. cc) r.values r.division
neither RFC3164 dating text strict loose = λ m r. loose tt r.values r.division
neither Either dating text strict loose = λ m r. elim r [
  | inl s ↦ strict (λ e. cc) s.values s.division
  | inr (also, s) ↦ loose tt s.values s.division
]

-- where no timestamp of RFC 3164 is after the blanks, the text has no division
unstamped : (text : Text) {follows start : Text} {p : Option ℕ} → IsAfterPriority (trimmed text) p follows
    → Front (run is_blank) follows start tt → (dating : Dating) → NoFront (rfc3164_stamp dating) start
    → IsNot3164 dash_rule dating text
unstamped text f gap dating none = not_read dash_rule dating
    (no_row (stamped_row dating) (stamped_det dating) (f past gap past inl none))

-- ---- the year
asks_is : (variant : Variant) (text : Text) (d : MonthDate)
    → AsksYear variant text d ↔ (ReadsProtocol variant protocol.RFC3164 × ShowsYearless text d)
asks_is RFC5424 text d = (λ asks. absurd asks, λ k. k.0)
asks_is variant text d = (λ h. (tt, h), λ k. k.1)

-- a month date that shows no year is one without a year
yearless : {t q : Text} (d : MonthDate) → Front month_date t q d → d.year ≡ None → Front yearless_date t q d
yearless d f none = search rules

-- and the numbers that a closure is asked with are those of one of twelve months
pub asked_month : {t q : Text} (d : MonthDate) (asked : Option IncompleteDate) (x : IncompleteDate) → Front month_date t
    q d → MatchOption asked (IsSome d.year) (λ y. (d.year ≡ None) × (y ≡ incomplete d)) → asked ≡ Some x → HasMonth x
asked_month d None x f h is = cc
asked_month d (Some y) x f (none, e) is =
    let same : y ≡ x = cc in subst HasMonth (sym e ∙ same) (date_has_month d (yearless d f none))

-- a date with a year has the same timestamp in each other year
answer_in_any : (year other : Option ℤ) (tz : Option (Bor TimeZone)) (local : Bor TimeZone) (d : MonthDate)
    (r : Option ClockStamp) (shown : Option ℕ) → d.year ≡ shown → IsSome shown
    → IsAnswer (IsMonthStamp (dating_of year tz local) d) r → IsAnswer (IsMonthStamp (dating_of other tz local) d) r
answer_in_any year other tz local d r None is some h = absurd (no_truth some)
answer_in_any year other tz local d r (Some n) is some h = rw is (rw is at h)

module _ (variant : Variant) (text : Text) {follows : Text} {p : Option ℕ}
    (f : IsAfterPriority (trimmed text) p follows) where
  module _ {q : Text} (d : MonthDate) (b : BeginsWith month_date variant follows d q) where
    pub shows_date : ShowsMonthDate text d
    shows_date = shows month_date f b.gap b.front

    -- its year is asked for where it shows none
    asks_year : d.year ≡ None → AsksYear variant text d
    asks_year none = (asks_is variant text d).1 (b.reads, shows yearless_date f b.gap (yearless d b.front none))

    -- and no year is where it shows one
    asks_no_other : IsSome d.year → (other : MonthDate) → AsksYear variant text other → ⊥
    asks_no_other some other asks =
        let shown = ((asks_is variant text other).0 asks).1 in
        let (_, _, _, _, _, _, date) = shown_parts yearless_date (trimmed text) other shown in
        let same = shown_once text d other shows_date (shows_month_date text other shown) in
        let none : d.year ≡ None = ap (λ (x : MonthDate). x.year) (same ∙ date.is.2) in
        let t : false ≡ true = rw none at some in cc

    -- so what the date has for a timestamp, it has in the year that was answered, if one was asked for
    pub dated_in : (post : IncompleteDate → ℤ → Type 0) (tz : Option (Bor TimeZone)) (local : Bor TimeZone)
        (asked : Option IncompleteDate) (year : Option ℤ) (r : Option ClockStamp)
        → MatchOption asked (IsSome d.year) (λ x. (d.year ≡ None) × (x ≡ incomplete d))
        → MatchOption asked (year ≡ None) (λ x. IsSomeAnd year (λ y. post x y))
        → IsAnswer (IsMonthStamp (dating_of year tz local) d) r
        → InYear post variant text (λ y. IsAnswer (IsMonthStamp (dating_of y tz local) d) r)
    dated_in post tz local None year r some is h =
        unasked (asks_no_other some) (λ other. answer_in_any year other tz local d r d.year refl some h)
    dated_in post tz local (Some x) None r asked is h = absurd is
    dated_in post tz local (Some x) (Some y) r (none, e) is h = record {
      answered = Some y;
      is_answered = (d, asks_year none, rw e at is);
      holds = λ other agrees. subst (λ (z : Option ℤ). IsAnswer (IsMonthStamp (dating_of z tz local) d) r)
          (sym (agrees d (asks_year none))) h;
    }

    -- the text is none of RFC 5424
    dated_unread : IsNot5424 text
    dated_unread = shown_apart text d shows_date

    -- the date has no timestamp
    pub dated_invalid : (dating : Dating) → IsAnswer (IsMonthStamp dating d) None
        → Answers variant dating text (Err Invalid)
    dated_invalid dating none = neither variant dating text (λ n. dated_unread)
        (λ reads. unstamped text f b.gap dating (no_stamp_of_date dating no_header d b.front none))
      where
        no_header : NoFront header_stamp b.start
        no_header p q v e h =
            let low : Begins IsLow b.start = rw e (header_stamp_begins p q v h) in
            let letter : Begins IsLetter b.start = rw b.front.whole (month_date_begins b.front.piece _ d b.front.is) in
            begins_apart b.start (λ c a l. omega arith) low letter

    -- or one, and then RFC 3164 is left to try
    pub dated_left : IsLeftTo3164 variant text
    dated_left = left_to_try variant text b.reads (λ n. dated_unread)

    pub dated_front : (dating : Dating) (c : ClockStamp) → IsMonthStamp dating d (clock_value c)
        → IsAfterStamp dating (trimmed text) p (Some c) q
    dated_front dating c h =
        row_of (stamped_row dating) (f then b.gap then date_front dating (clock_value c) b.front h then refl)

  -- no month date is there
  module _ (without : BeginsWithout month_date variant follows) where
    pub asks_none : (d : MonthDate) → AsksYear variant text d → ⊥
    asks_none d asks =
        let (reads, shown) = (asks_is variant text d).0 asks in
        let (_, t, u, q, f', gap, g) = shown_parts yearless_date (trimmed text) d shown in
        let same = (front_same (optional priority) (optional_det priority priority_det) f' f).0 in
        without reads u (rw same at gap) g.piece q d g.whole (inl g.is)

    -- and the text shows none
    pub shows_none : ReadsProtocol variant protocol.RFC3164 → ShowsNoDate text
    shows_none reads d shown =
        let (_, t, u, q, f', gap, g) = shown_parts month_date (trimmed text) d shown in
        let same = (front_same (optional priority) (optional_det priority priority_det) f' f).0 in
        without reads u (rw same at gap) g.piece q d g.whole g.is

    -- and no other timestamp
    pub undated_invalid : BeginsWithout header_stamp variant follows → (variant ≢ RFC3164 → IsNot5424 text)
        → (dating : Dating) → Answers variant dating text (Err Invalid)
    undated_invalid header strict dating = neither variant dating text strict (λ reads.
        let (start, gap) = some_front_run is_blank follows in
        unstamped text f gap dating (no_date dating (header reads start gap) (without reads start gap)))

    -- or another one
    pub other_front : (dating : Dating) {q : Text} (v : Option ClockStamp) → BeginsWith header_stamp variant follows
        (stamp_seen v) q → IsAfterStamp dating (trimmed text) p v q
    other_front dating v b = row_of (stamped_row dating) (f then b.gap then header_front dating b.front then refl)

-- ---- what is made of a text by way of its line

-- a reading by RFC 5424 is one by each variant that reads it, and one by RFC 3164 by each that is left to try it
read_by : (variant : Variant) (dating : Dating) (text : Text) (m : MessageValue) → (variant ≢ RFC3164
    × IsRead5424 text m) ⊎ (IsLeftTo3164 variant text × IsRead3164 dash_rule dating text m)
    → IsRead variant dating text m
read_by RFC5424 dating text m r = search rules
read_by RFC3164 dating text m r = search rules
read_by Either dating text m r = search rules

-- a text that is read by RFC 5424 shows no month date
pub strict_shows_none : (text : Text) (m : MessageValue) → IsRead5424 text m → ShowsNoDate text
strict_shows_none text m r = λ date shown. shown_apart text date shown r.values r.division

-- a line of RFC 5424 has a version
pub versioned : {text : Text} (line : Line) → IsRead5424 text (line_value line) → line.version ≡ None → ⊥
versioned line r none =
    let e : protocol_of line.version ≡ protocol.RFC5424 r.values.1.0 = ap (λ (m : MessageValue). m.protocol) r.means in
    let none_here : protocol.RFC3164 ≡ protocol.RFC5424 r.values.1.0 = rw none at e in cc

-- and one of RFC 3164 none
pub unversioned : {rule : DashRule} {dating : Dating} {text : Text} (line : Line)
    → IsRead3164 rule dating text (line_value line) → line.version ≡ None
unversioned line r =
    let (_, _, is) = r.means in no_version line.version (ap (λ (m : MessageValue). m.protocol) is)
  where
    no_version : (version : Option ℕ) → protocol_of version ≡ protocol.RFC3164 → version ≡ None
    no_version None e = refl
    no_version (Some n) e = cc

-- the line of what was read
pub line_5424 : (variant : Variant) (dating : Dating) {text : Text} (line : Line)
    → variant ≢ RFC3164 × IsLine5424 text line → IsLineOf variant dating text line
line_5424 variant dating {text} line r = record {
  only = only_read variant dating text (line_value line)
      (read_by variant dating text (line_value line) (inl (r.0, r.1.read)));
  shows = inl r.1;
}

pub line_3164 : (variant : Variant) (dating : Dating) {text : Text} (line : Line) → IsLeftTo3164 variant text
    → IsLine3164 dating text line → IsLineOf variant dating text line
line_3164 variant dating {text} line left r = record {
  only = only_read variant dating text (line_value line)
      (read_by variant dating text (line_value line) (inr (left, r.read)));
  shows = inr r;
}

-- what is given after nothing was
pub visits_after : {E : Type 0} (given : E → E → List ElementValue → Type 0) (old mid new : E) (es : List ElementValue)
    → Visits given old [] mid → Visits given mid es new → Visits given old es new
visits_after given old mid new es none v first ds h =
    v first ds (subst (λ (x : List ElementValue). given first mid x) (append-nil ds) (none first ds h))

-- ---- what the reading calls make

module _ {V : Type 0} (variant : Variant) (dating : Dating) (text : Text) (old new : V) (before after : Collect) where
  pub message_answers : (made : Option Found) (r : Result Found ParseFault) → Made (λ (_ : V) line m _. message_value
      (λ s. shown s) m ≡ with_elements (line_value line) []) (λ _ c es. HasCollected c es) variant dating text old
      before made new after → HasCollected before [] → ((es : List ElementValue) → HasCollected after es → IsCompleted
      made es r) → Answers variant dating text r
  message_answers None (Ok n) (none, same, v) empty h = absurd (h [] (v before [] empty))
  message_answers None (Err fault) (none, same, v) empty h = rw (h [] (v before [] empty)) none
  message_answers (Some m) (Ok n) (line, of, e, v) empty h =
      let same = h (list_elements line.list) (v before [] empty) in
      rw (same ∙ ap (λ (x : MessageValue). with_elements x (list_elements line.list)) e) of.only
  message_answers (Some m) (Err fault) (line, of, e, v) empty h =
      let (is, some) = h (list_elements line.list) (v before [] empty) in
      rw is (λ needless. some (needless (line_value line) of.only.read))
