-- The message of a dialect's line is the end of the text, and begins with no blank.
use Rattle.syslog_dialects.proofs.Names.{[], ◌++◌, ◌∙◌, ◌∷◌, ◌≡◌, ap, append_assoc, AreFound, Bool, Class, Dates}
use Rattle.syslog_dialects.proofs.Names.{Dialect, division_front, Ends, IfSome, inl, inr, is_blank, IsOpened, IsSentIn}
use Rattle.syslog_dialects.proofs.Names.{join, List, MessageValue, None, opened_row, Option, paired, Part, ProcId, refl}
use Rattle.syslog_dialects.proofs.Names.{rest, row_head, run, SentValue, skip_leading_whitespace, Some, subst, sym}
use Rattle.syslog_dialects.proofs.Names.{Tells, Text, trimmed}
use Rattle.std.specs.Prelude.{option_map}
use Rattle.syslog_text.specs.Text.Canonical.{EndsVisibly}
use Rattle.syslog_text.proofs.PieceLemmas.Class.{rest_whole}
use Rattle.syslog_pieces.specs.ProcId.{IsBoundedProcess, NamesProcess, named_process}
use Rattle.syslog_pieces.specs.declared.procid.ProcId.TheVariants.{PID, Name}
use Rattle.syslog_pieces.proofs.ProcIdLemmas.{named_names}
use Rattle.syslog_loose.proofs.PrintedLemmas.{drop_ends}
use Rattle.syslog_dialects.proofs.FoundLemmas.{said_visibly}
use Rattle.syslog_dialects.proofs.OrderLemmas.{end_of}
use Rattle.syslog_dialects.proofs.PairedLemmas.{opened_keeps}

-- ---- the end of a text

-- the text ends in the message, which begins with no blank
pub record EndsIn (text msg : Text) : Type 0 where
  pub before : Text
  pub whole : text ≡ before ++ msg
  pub front : Ends is_blank msg

-- more before it
later : (p q text msg : Text) → text ≡ p ++ q → EndsIn q msg → EndsIn text msg
later p q text msg e is = record {
  before = p ++ is.before;
  whole = e ∙ ap (λ (x : Text). p ++ x) is.whole ∙ sym (append_assoc p is.before msg);
  front = is.front;
}

-- what is told in a text comes before the message
told_end : {left : List Class} {text : Text} {parts : List Part} {msg : Text} → Tells left text parts msg
    → Ends is_blank msg → EndsIn text msg
told_end told front = record { before = join told.pieces; whole = told.whole; front = front }

found_end : (dialect : Dialect) {text : Text} (sent : SentValue) → AreFound dialect text sent
    → Ends is_blank sent.msg → EndsIn text sent.msg
found_end dialect sent (inl (inl told)) = told_end told
found_end dialect sent (inl (inr told)) = told_end told
found_end dialect sent (inr (inl found)) = told_end found.1.0
found_end dialect sent (inr (inr found)) = told_end found.1

-- ---- the message of a dialect

visible_after : (before msg text : Text) → text ≡ before ++ msg → EndsVisibly text → EndsVisibly msg
visible_after before msg text e visible front c same =
    visible (before ++ front) c (e ∙ ap (λ (x : Text). before ++ x) same ∙ sym (append_assoc before front (c ∷ [])))

-- what follows an element ends what ends in it
opened_end : (text : Text) (dialect : Dialect) (whole m : MessageValue) → IsOpened dialect whole m
    → EndsIn text whole.msg → EndsIn text m.msg
opened_end text dialect whole m (inr (never, same)) ends =
    subst (EndsIn text) (sym (ap (λ (n : MessageValue). n.msg) same)) ends
opened_end text dialect whole m (inl (is, it)) ends =
    let (q, first, more) = row_head paired (run is_blank ∷ rest ∷ []) (division_front opened_row it.division) in
    let (u, gap, left) = row_head (run is_blank) (rest ∷ []) more in
    let all = rest_whole (end_of rest left) in
    let end : EndsIn u it.msg = record { before = []; whole = all; front = subst (Ends is_blank) all gap.is.1 } in
    subst (EndsIn text) (sym (ap (λ (n : MessageValue). n.msg) it.same))
    (later ends.before whole.msg text it.msg ends.whole
    (later first.piece q whole.msg it.msg first.whole (later gap.piece u q it.msg gap.whole end)))

-- it is the end of the trimmed text
pub sent_end : (dates : Dates) (is_read : Bool) (text : Text) (dialect : Dialect) (m : MessageValue)
    → IsSentIn dates is_read text dialect m → EndsIn (trimmed text) m.msg
sent_end dates is_read text dialect m is =
    let (found, front) = said_visibly is_read is.priority is.follows dialect is.sent is.form.first in
    opened_end (trimmed text) dialect is.whole m is.opened
    (subst (EndsIn (trimmed text)) (sym (ap (λ (n : MessageValue). n.msg) is.says.2))
    (later is.front.piece is.follows (trimmed text) is.sent.msg is.front.whole (found_end dialect is.sent found front)))

-- so it begins with no blank and ends visibly
pub sent_msg : (dates : Dates) (is_read : Bool) (text : Text) (dialect : Dialect) (m : MessageValue)
    → IsSentIn dates is_read text dialect m → Ends is_blank m.msg × EndsVisibly m.msg
sent_msg dates is_read text dialect m is =
    let end = sent_end dates is_read text dialect m is in
    (end.front, visible_after end.before m.msg (trimmed text) end.whole (drop_ends (skip_leading_whitespace text)))

-- and a number that names its process has 32 bits
named_bounded : (p : ProcId Text) (t : Text) → NamesProcess t p → IsBoundedProcess p
named_bounded (PID n) t names = names.1
named_bounded (Name u) t names = tt

optional_bounded : (p : Option Text) → IfSome (option_map named_process p) IsBoundedProcess
optional_bounded None = tt
optional_bounded (Some t) = named_bounded (named_process t) t (named_names t)

pub sent_process : (dates : Dates) (is_read : Bool) (text : Text) (dialect : Dialect) (m : MessageValue)
    → IsSentIn dates is_read text dialect m → IfSome m.procid IsBoundedProcess
sent_process dates is_read text dialect m is =
    subst (λ (p : Option (ProcId Text)). IfSome p IsBoundedProcess)
    (sym (opened_keeps (λ (n : MessageValue). n.procid) (λ n es msg. refl) dialect is.whole m is.opened
    ∙ ap (λ (n : MessageValue). n.procid) is.says.2)) (optional_bounded is.sent.process)
