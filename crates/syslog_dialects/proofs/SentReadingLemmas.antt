-- A text has one dialect and one message, and what the readers of lines return.
use Rattle.syslog_dialects.proofs.Names.{[], ◌↔◌, ◌∙◌, ◌≡◌, ◌≢◌, ap, AreAsked, Bool, Dates, Dating, Dialect}
use Rattle.syslog_dialects.proofs.Names.{ElementValue, false, forms_of, front_same, HasStamp, IfSome, inl, inr}
use Rattle.syslog_dialects.proofs.Names.{IsLeftUnparsed, IsLineOf, IsNote, IsOfFirst, IsOfNone, IsOpened, IsOrdinary}
use Rattle.syslog_dialects.proofs.Names.{IsSentIn, IsSome, IsTrue, leaves_of, leaves_same, Line, line_value, List}
use Rattle.syslog_dialects.proofs.Names.{list_elements, list_text, MayBegin, MessageValue, None, OffsetTimestamp}
use Rattle.syslog_dialects.proofs.Names.{Option, optional, refl, SentDate, SentValue, Some, subst, sym, Text, trimmed}
use Rattle.syslog_dialects.proofs.Names.{true, unparsed_same, Variant, ℕ}
use Rattle.std.specs.Prelude.{MatchOption}
use Rattle.syslog_pieces.specs.Pri.{priority}
use Rattle.syslog_elements.specs.StructuredData.Visited.{Visits}
use Rattle.syslog_text.proofs.PieceLemmas.Class.{optional_det}
use Rattle.syslog_pieces.proofs.PriLemmas.{priority_det}
use Rattle.syslog_loose.specs.Bodies.Start.{IsAfterPriority}
use Rattle.syslog_loose.specs.Reading.{IsOnlyRead, IsUnreadable}
use Rattle.syslog_elements.proofs.StructuredDataLemmas.Unparsed.{nothing_leaves}
use Rattle.syslog_sent.specs.Forms.{IsOnlyOf}
use Rattle.syslog_dialects.specs.SentLine.{HasNoStamp, sent_message}
use Rattle.syslog_dialects.specs.SentReading.{IsDialectLine, IsInNone, IsInstead, IsLeft, IsNone, IsUnsent, HasFlags}
use Rattle.syslog_dialects.specs.SentReading.{IsReadSent, IsSentAnswer, LeavesSent, GivesOwn, HasElementsOf, Shows}
use Rattle.syslog_dialects.specs.SentReading.{Stands, shows_offset, shows_year}
use Rattle.syslog_dialects.specs.declared.visit.Instead.{Instead}
use Rattle.syslog_dialects.specs.declared.visit.Instead.TheVariants.{Kept, Note, Sent}
use Rattle.syslog_dialects.specs.declared.visit.SentLine.{SentLine}
use Rattle.syslog_sent.proofs.DialectLemmas.{none_first}
use Rattle.syslog_dialects.proofs.NoteLemmas.{note_begins_none}
use Rattle.syslog_dialects.proofs.OrdinaryLemmas.{ordinary_too}
use Rattle.syslog_dialects.proofs.PairedLemmas.{no_list, opened_keeps, opened_once}
use Rattle.syslog_dialects.proofs.SentLemmas.{stamp_once}

-- ---- the dialect of a text
module _ (dates : Dates) (is_read : Bool) (text : Text) where
  -- a text of a dialect, from after this priority on
  moved : (number : Option ℕ) (follows : Text) → IsAfterPriority (trimmed text) number follows → (dialect : Dialect)
      (m : MessageValue) → (is : IsSentIn dates is_read text dialect m)
      → IsOfFirst (forms_of is_read number) follows dialect is.sent × (is.priority ≡ number)
  moved number follows front dialect m is =
      let same = front_same (optional priority) (optional_det priority priority_det) is.front front in (
        rw same.1 at (rw same.0 at is.form.first),
        same.1,
      )

  pub no_stamp : (number : Option ℕ) (follows : Text) (dialect : Dialect) (sent : SentValue)
      → IsAfterPriority (trimmed text) number follows → IsOnlyOf (forms_of is_read number) follows dialect sent
      → HasNoStamp dates sent.date → IsInNone dates is_read text
  no_stamp number follows dialect sent front only none other m is =
      let (first, e) = moved number follows front other m is in
      let same = (only.only other is.sent first).1 in
      none is.says.0 (subst (λ (v : SentValue). HasStamp dates v.date is.says.0) same is.says.1)

  pub unformed : (number : Option ℕ) (follows : Text) → IsAfterPriority (trimmed text) number follows
      → IsOfNone (forms_of is_read number) follows → IsInNone dates is_read text
  unformed number follows front none other m is =
      none_first (forms_of is_read number) follows other is.sent none (moved number follows front other m is).0

  -- a text has one dialect, and one message there
  pub sent_once : (dialect other : Dialect) (m n : MessageValue) → IsSentIn dates is_read text dialect m
      → IsSentIn dates is_read text other n → (other ≡ dialect) × (n ≡ m)
  sent_once dialect other m n is too =
      let (first, e) = moved is.priority is.follows is.front other n too in
      let same = is.form.only other too.sent first in
      let has = subst (λ (v : SentValue). HasStamp dates v.date too.says.0) same.1 too.says.1 in
      let stamps : too.says.0 ≡ is.says.0 = stamp_once dates is.sent.date too.says.0 is.says.0 has is.says.1 in
      let message : sent_message too.priority too.says.0 too.sent ≡ sent_message is.priority is.says.0 is.sent =
      rw (e, stamps, same.1) refl in
      let whole : too.whole ≡ is.whole = too.says.2 ∙ message ∙ sym is.says.2 in
      let opened = subst (λ (d : Dialect). IsOpened d is.whole n) same.0
      (subst (λ (w : MessageValue). IsOpened other w n) whole too.opened) in
      (same.0, opened_once dialect is.whole m n is.opened opened)

-- ---- what the readers return

module _ (dates : Dates) (dating : Dating) (dialects : Bool) (variant : Variant) (text : Text) where
  -- no text is left in two ways
  in_none_unread : IsUnreadable variant dating text → (MayBegin text → IsInNone dates false text) → (is_read : Bool)
      → IsLeft variant dating text is_read → IsInNone dates is_read text
  in_none_unread none never true ((line, of, odd), may) = absurd (none (line_value line) of.only.read)
  in_none_unread none never false left = never left.1

  pub left_unread : IsUnreadable variant dating text → (MayBegin text → IsInNone dates false text)
      → Stands dates dating dialects variant text
  left_unread none never asked = (
    in_none_unread none never,
    λ ((line, of, odd), note). none (line_value line) of.only.read,
  )

  in_none_read : (line : Line) → IsLineOf variant dating text line → ((IsOrdinary line → ⊥) → IsNone dates text)
      → (is_read : Bool) → IsLeft variant dating text is_read → IsInNone dates is_read text
  in_none_read line of never true ((other, too, odd), may) =
      (never (λ is. odd (ordinary_too variant dating text line other of too is))).0 may
  in_none_read line of never false left = absurd (left.0 (line_value line) of.only.read)

  pub left_read : (line : Line) → IsLineOf variant dating text line → ((IsOrdinary line → ⊥) → IsNone dates text)
      → Stands dates dating dialects variant text
  left_read line of never asked = (
    in_none_read line of never,
    λ ((other, too, odd), note). (never (λ is. odd (ordinary_too variant dating text line other of too is))).1 note,
  )

  pub in_dialect : AreAsked dialects variant → (is_read : Bool) (it : SentLine) → IsLeft variant dating text is_read
      → IsDialectLine dates is_read text it → IsSentAnswer dates dating dialects variant text (Some it)
  in_dialect asked is_read it left is =
      subst (λ (d : Option Dialect). IsReadSent dates dating dialects variant text d (line_value it.line))
      (sym is.named)
      (asked, (is_read, left, is.sent))

  -- the port's line is kept
  pub port_stands : (asked : Bool) → IsTrue asked ↔ AreAsked dialects variant → (line : Line) (it : SentLine)
      → it.line ≡ line → it.dialect ≡ None
      → (IsTrue asked × (IsOrdinary line → ⊥) → IsNone dates text) → IsLineOf variant dating text line
      → IsReadSent dates dating dialects variant text it.dialect (line_value it.line)
  port_stands asked is line it same plain never of =
      subst (λ (d : Option Dialect). IsReadSent dates dating dialects variant text d (line_value it.line)) (sym plain) (
        subst (λ (l : Line). IsOnlyRead variant dating text (line_value l)) (sym same) of.only,
        λ asks. left_read line of (λ odd. never (is.1 asks, odd)) asks,
      )

  -- a dialect's line comes before it
  pub dialect_before : (asked : Bool) → IsTrue asked ↔ AreAsked dialects variant → IsTrue asked → (line : Line)
      (it : SentLine) → (IsOrdinary line → ⊥) → MayBegin text → IsDialectLine dates true text it
      → IsLineOf variant dating text line → IsReadSent dates dating dialects variant text it.dialect
      (line_value it.line)
  dialect_before asked is asks line it odd may says of = in_dialect (is.0 asks) true it ((line, of, odd), may) says

  -- where the port reads none
  pub unread : (asked : Bool) → IsTrue asked ↔ AreAsked dialects variant → (result : Option SentLine)
      → MatchOption result (IsTrue asked → MayBegin text → IsInNone dates false text)
      (λ it. IsTrue asked × MayBegin text × IsDialectLine dates false text it) → IsUnreadable variant dating text
      → IsSentAnswer dates dating dialects variant text result
  unread asked is None never none = inl (none, λ asks. left_unread none (never (is.1 asks)) asks)
  unread asked is (Some it) says none = in_dialect (is.0 says.0) false it (none, says.1) says.2

  -- and the flags of its date
  pub flags : (is_read : Bool) (it : SentLine) → IsLeft variant dating text is_read
      → IsDialectLine dates is_read text it → Shows dates dating variant text it
  flags is_read it left is =
      subst (λ (d : Option Dialect). HasFlags dates dating variant text d (line_value it.line) it.shows_year
      it.shows_offset) (sym is.named) (is_read, left, (is.sent, is.year, is.offset))

  -- none of the port's line is set
  pub no_flags : (it : SentLine) → it.dialect ≡ None → it.shows_year ≡ false → it.shows_offset ≡ false
      → Shows dates dating variant text it
  no_flags it port year offset =
      subst (λ (d : Option Dialect). HasFlags dates dating variant text d (line_value it.line) it.shows_year
      it.shows_offset) (sym port) (year, offset)

  pub unread_flags : (asked : Bool) (result : Option SentLine)
      → MatchOption result (IsTrue asked → MayBegin text → IsInNone dates false text)
      (λ it. IsTrue asked × MayBegin text × IsDialectLine dates false text it) → IsUnreadable variant dating text
      → IfSome result (λ it. Shows dates dating variant text it)
  unread_flags asked None never none = tt
  unread_flags asked (Some it) says none = flags false it (none, says.1) says.2

  left_once : (is_read other : Bool) → IsLeft variant dating text is_read → IsLeft variant dating text other
      → other ≡ is_read
  left_once true true is too = refl
  left_once false false is too = refl
  left_once true false ((line, of, odd), may) too = absurd (too.0 (line_value line) of.only.read)
  left_once false true is ((line, of, odd), may) = absurd (is.0 (line_value line) of.only.read)

  -- a text is read in one dialect or none, as one message
  pub read_once : (dialect other : Option Dialect) (m n : MessageValue)
      → IsReadSent dates dating dialects variant text dialect m → IsReadSent dates dating dialects variant text other n
      → (other ≡ dialect) × (n ≡ m)
  read_once None None m n is too = (refl, is.0.only n too.0.read)
  read_once None (Some e) m n is (asked, (is_read, left, sent)) = absurd ((is.1 asked).0 is_read left e n sent)
  read_once (Some d) None m n (asked, (is_read, left, sent)) too = absurd ((too.1 asked).0 is_read left d m sent)
  read_once (Some d) (Some e) m n (asked, (is_read, left, sent)) (again, (other, more, too)) =
      let same = sent_once dates is_read text d e m n sent
      (subst (λ (b : Bool). IsSentIn dates b text e n) (left_once is_read other left more) too) in
      (ap Some same.0, same.1)

  none_begins : (is_read : Bool) → IsLeft variant dating text is_read → IsNote text → ⊥
  none_begins true left note = note_begins_none text left.1 note
  none_begins false left note = note_begins_none text left.1 note

  -- a text that is read is a message
  pub read_not_unsent : (dialect : Option Dialect) (m : MessageValue)
      → IsReadSent dates dating dialects variant text dialect m → IsUnsent dates dating dialects variant text → ⊥
  read_not_unsent None m (only, kept) (inl (none, stands)) = none m only.read
  read_not_unsent None m (only, kept) (inr (asked, noted)) = (kept asked).1 noted
  read_not_unsent (Some dialect) m (asked, (is_read, left, is)) (inl (none, stands)) =
      (stands asked).0 is_read left dialect m is
  read_not_unsent (Some dialect) m (asked, (is_read, left, is)) (inr (again, noted)) = none_begins is_read left noted.1

-- ---- what becomes of the port's line

-- under a condition that holds
pub instead_given : (Asks : Type 0) → Asks → (dates : Dates) (text : Text) (it : Instead)
    → IsInstead (Unit {0}) dates text it → IsInstead Asks dates text it
instead_given Asks asks dates text Kept none = λ again. none tt
instead_given Asks asks dates text Note note = (asks, note.1)
instead_given Asks asks dates text (Sent it) is = ((asks, is.0.1), is.1)

-- ---- the flags of an absent date

no_some : {A : Type 0} (x : A) → Some x ≡ None → ⊥
no_some x e = cc

unset : (dates : Dates) (date : Option SentDate) (stamp : Option OffsetTimestamp) → HasStamp dates date stamp
    → stamp ≡ None → (year offset : Bool) → year ≡ shows_year date → offset ≡ shows_offset date
    → (year ≡ false) × (offset ≡ false)
unset dates None stamp has none year offset y o = (y, o)
unset dates (Some date) stamp has none year offset y o = absurd (no_some has.0 (sym has.1 ∙ none))

-- none is set where the message has no timestamp
pub undated : (dates : Dates) (dating : Dating) (variant : Variant) (text : Text) (dialect : Dialect) (m : MessageValue)
    (year offset : Bool) → HasFlags dates dating variant text (Some dialect) m year offset → m.timestamp ≡ None
    → (year ≡ false) × (offset ≡ false)
undated dates dating variant text dialect m year offset (is_read, left, (is, y, o)) none =
    unset dates is.sent.date is.says.0 is.says.1 (sym (opened_keeps (λ (n : MessageValue). n.timestamp)
    (λ n es msg. refl) dialect is.whole m is.opened ∙ ap (λ (n : MessageValue). n.timestamp) is.says.2) ∙ none)
    year offset y o

-- ---- the elements of the line

-- an odd line has no elements
odd_version : (v : Option ℕ) (line : Line) → line.version ≡ v → (IsOrdinary line → ⊥) → list_elements line.list ≢ [] → ⊥
odd_version (Some n) line e odd some = odd (inl (rw e refl, (λ paired. some paired.1.0)))
odd_version None line e odd some = odd (inr (e, inl some))

pub odd_elements : (line : Line) → (IsOrdinary line → ⊥) → list_elements line.list ≡ []
odd_elements line odd = no_list (list_elements line.list) (odd_version line.version line refl odd)

-- a visitor that was given those of the port's line is then given those of the line
own_of : {V : Type 0} (was_given : V → V → List ElementValue → Type 0) (dialect : Option Dialect)
    (own es : List ElementValue) (old new first : V) → MatchOption dialect (own ≡ es) (λ _. es ≡ [])
    → MatchOption dialect (new ≡ old) (λ _. Visits was_given old own new) → was_given first old es
    → was_given first new own
own_of was_given None own es old new first same kept given =
    subst (λ v. was_given first v own) (sym kept) (subst (was_given first old) (sym same) given)
own_of was_given (Some dialect) own es old new first none gives given =
    gives first [] (subst (was_given first old) none given)

pub own_given : {V : Type 0} (was_given : V → V → List ElementValue → Type 0) (it : SentLine) (es : List ElementValue)
    (old new : V) → HasElementsOf it es → GivesOwn was_given old it new → (first : V) → was_given first old es
    → was_given first new (list_elements it.line.list)
own_given was_given it es old new has gives first given =
    own_of was_given it.dialect (list_elements it.line.list) es old new first has gives given

-- where the port reads none, it has none
none_of : (dialect : Option Dialect) (own : List ElementValue) → IsSome dialect
    → MatchOption dialect (own ≡ []) (λ _. ◌≡◌ {A = List ElementValue} [] [])
none_of None own is = absurd (let none = is in cc)
none_of (Some dialect) own is = refl

pub of_one : (it : SentLine) → IsSome it.dialect → HasElementsOf it []
of_one it is = none_of it.dialect (list_elements it.line.list) is

-- ---- what is left unparsed

pub dialect_leaves : (dates : Dates) (is_read : Bool) (variant : Variant) (text : Text) (it : SentLine)
    (unparsed : Text)
    → IsDialectLine dates is_read text it → IsLeftUnparsed it.line unparsed
    → LeavesSent it.dialect variant text unparsed
dialect_leaves dates is_read variant text it unparsed is left =
    subst (λ (d : Option Dialect). LeavesSent d variant text unparsed) (sym is.named)
    (unparsed_same (list_text it.line.list) unparsed [] left (nothing_leaves (list_text it.line.list) is.no_list))

-- of the port's line what the port leaves
pub port_leaves : (variant : Variant) (dating : Dating) (text : Text) (line : Line) (it : SentLine) (unparsed : Text)
    → it.line ≡ line → it.dialect ≡ None → IsLineOf variant dating text line → IsLeftUnparsed it.line unparsed
    → LeavesSent it.dialect variant text unparsed
port_leaves variant dating text line it unparsed same plain of left =
    subst (λ (d : Option Dialect). LeavesSent d variant text unparsed) (sym plain)
    (leaves_of variant dating text line unparsed of (subst (λ (l : Line). IsLeftUnparsed l unparsed) same left))

pub found_leaves : (dates : Dates) (variant : Variant) (text : Text) (asked : Bool) (never : Type 0)
    (result : Option SentLine) → MatchOption result never (λ it. IsTrue asked × MayBegin text
    × IsDialectLine dates false text it)
    → IfSome result (λ it. (unparsed : Text) → IsLeftUnparsed it.line unparsed
    → LeavesSent it.dialect variant text unparsed)
found_leaves dates variant text asked never None h = tt
found_leaves dates variant text asked never (Some it) h = λ unparsed left. dialect_leaves dates false variant text it
    unparsed h.2 left

-- a text leaves one text
pub leaves_once : (dialect : Option Dialect) (variant : Variant) (text u w : Text) → LeavesSent dialect variant text u
    → LeavesSent dialect variant text w → w ≡ u
leaves_once None variant text u w a b = leaves_same variant text w u b a
leaves_once (Some d) variant text u w a b = b ∙ sym a

-- ---- an ordinary line keeps its reading

pub kept_reading : (dates : Dates) (dating : Dating) (dialects : Bool) (variant : Variant) (text : Text) (line : Line)
    → IsLineOf variant dating text line → IsOrdinary line
    → IsReadSent dates dating dialects variant text None (line_value line)
kept_reading dates dating dialects variant text line of is = (
  of.only,
  λ asked. left_read dates dating dialects variant text line of (λ odd. absurd (odd is)) asked,
)

pub no_dialect : (dates : Dates) (dating : Dating) (dialects : Bool) (variant : Variant) (text : Text) (line : Line)
    → IsLineOf variant dating text line → IsOrdinary line → (dialect : Dialect) (m : MessageValue)
    → IsReadSent dates dating dialects variant text (Some dialect) m → ⊥
no_dialect dates dating dialects variant text line of is dialect m (asked, (true, ((other, too, odd), may), sent)) =
    odd (ordinary_too variant dating text line other of too is)
no_dialect dates dating dialects variant text line of is dialect m (asked, (false, left, sent)) =
    left.0 (line_value line) of.only.read
