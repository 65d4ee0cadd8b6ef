-- Tags, and that a text has ordinary lines alone or none.
use Rattle.syslog_dialects.proofs.Names.{[], ◌++◌, ◌also◌, ◌then◌, ◌∙◌, ◌∷◌, ◌≡◌, AllDeterministic, ap, append_assoc}
use Rattle.syslog_dialects.proofs.Names.{Bool, Bor, chars, chars_cut, ClockStamp, Dating, encode_utf8_all}
use Rattle.syslog_dialects.proofs.Names.{encodes-append, encodes-chars, ended, exactly, exactly_det, false, Front}
use Rattle.syslog_dialects.proofs.Names.{front_of, front_same, heads, inl, inr, is_some, IsLineOf, IsOrdinary, IsSome}
use Rattle.syslog_dialects.proofs.Names.{IsTrue, IsUtf8, KnowsForm, Line, line_value, List, MatchBool, MatchOption}
use Rattle.syslog_dialects.proofs.Names.{MessageValue, no_front_no, NoFront, None, Option, ProcId, protocol_of, refl}
use Rattle.syslog_dialects.proofs.Names.{Row, row_det, row_of, seen, shown, Skips, Some, subst, sym, tag_row, Text}
use Rattle.syslog_dialects.proofs.Names.{true, Variant, ℕ}
use Rattle.std.specs.Str.Pattern.{FindsTextPrefix, StripsPrefix}
use Rattle.syslog_text.specs.Pieces.Class.{IsDeterministic}
use Rattle.syslog_pieces.specs.ProcId.{procid_text}
use Rattle.syslog_pieces.specs.Timestamp.{stamp_seen}
use Rattle.syslog_text.proofs.PieceLemmas.Class.{piece_front}
use Rattle.syslog_loose.proofs.LineLemmas.{line_rest}
use Rattle.syslog_loose.proofs.Rfc3164Lemmas.{stamped_det}
use Rattle.syslog_loose.specs.Rows.{stamped_row}
use Rattle.syslog_loose.specs.Printed.{rest_text, spaced_elements, tag_text}
use Rattle.syslog_dialects.specs.Ordinary.{IsTag, IsTagged, is_odd, mark}
use Rattle.syslog_dialects.proofs.PairedLemmas.{paired_too}

-- ---- what `strip_prefix` gives

pub prefix_told : (words bytes : List ℕ) → IsUtf8 words → IsUtf8 bytes → (r : Option (Bor (List ℕ)))
    → MatchOption r (FindsTextPrefix words bytes None) (λ x. StripsPrefix (FindsTextPrefix words) bytes x.now)
    → Skips (exactly (chars words)) tt (chars bytes) r
prefix_told words bytes w u None n = λ p q v e h. n (encode_utf8_all q)
    (sym (encodes-chars bytes u) ∙ ap encode_utf8_all (e ∙ ap (λ (x : Text). x ++ q) h) ∙ encodes-append (chars words) q
    ∙ ap (λ (x : Text). x ++ encode_utf8_all q) (encodes-chars words w))
prefix_told words bytes w u (Some x) (k, (long, whole, cut), is, fits) = front_of (chars words)
    (chars_cut bytes words x.now (whole ∙ ap (λ (y : List ℕ). words ++ y) (sym is)) w) refl

-- ---- tags

-- one character: of two
mark_same : (p q p' q' : Text) (c d : ℕ) → p ≡ c ∷ [] → p' ≡ d ∷ [] → p ++ q ≡ p' ++ q' → p ≡ p'
mark_same p q p' q' c d h k e =
    let same : c ∷ q ≡ d ∷ q' = rw (h, k) at e in h ∙ ap (λ (x : ℕ). x ∷ []) (heads c d q q' same) ∙ sym k

mark_det : IsDeterministic mark
mark_det p q p' q' v v' e h k = (
  elim h as (λ _. p ≡ p') [
    | inl h ↦ elim k as (λ _. p ≡ p') [
      | inl k ↦ mark_same p q p' q' 58 58 h.0 k.0 e
      | inr k ↦ mark_same p q p' q' 58 91 h.0 k e
    ]
    | inr h ↦ elim k as (λ _. p ≡ p') [
      | inl k ↦ mark_same p q p' q' 91 58 h k.0 e
      | inr k ↦ mark_same p q p' q' 91 91 h k e
    ]
  ],
  refl,
)

pub tag_det : (host app : Text) → AllDeterministic (tag_row host app)
tag_det host app =
    exactly_det (32 ∷ []) also exactly_det host also exactly_det (32 ∷ []) also exactly_det app also mark_det also tt

tag_front : (host app : Text) (c : ℕ) (more : Text) → mark.Is (c ∷ []) more tt
    → IsTag host app (32 ∷ (host ++ (32 ∷ (app ++ (c ∷ more)))))
tag_front host app c more is = (
  more,
  row_of (tag_row host app)
      (piece_front (exactly (32 ∷ [])) (32 ∷ []) (host ++ (32 ∷ (app ++ (c ∷ more)))) tt refl
      then piece_front (exactly host) host (32 ∷ (app ++ (c ∷ more))) tt refl
      then piece_front (exactly (32 ∷ [])) (32 ∷ []) (app ++ (c ∷ more)) tt refl
      then piece_front (exactly app) app (c ∷ more) tt refl
      then piece_front mark (c ∷ []) more tt is then refl),
)

printed_tag : (host app more : Text) (id : Option (ProcId Text))
    → IsTag host app (32 ∷ (host ++ (32 ∷ (tag_text (Some app) id ++ more))))
printed_tag host app more None =
    subst (λ (t : Text). IsTag host app (32 ∷ (host ++ (32 ∷ t)))) (sym (append_assoc app (58 ∷ 32 ∷ []) more))
    (tag_front host app 58 (32 ∷ more) (inl (refl, refl)))
printed_tag host app more (Some id) =
    subst (λ (t : Text). IsTag host app (32 ∷ (host ++ (32 ∷ t))))
    (sym (append_assoc app (91 ∷ (procid_text id ++ (93 ∷ 58 ∷ 32 ∷ []))) more))
    (tag_front host app 91 ((procid_text id ++ (93 ∷ 58 ∷ 32 ∷ [])) ++ more) (inr refl))

rest_tag : (m : MessageValue) (version : Option ℕ) (host app : Text) → version ≡ None → m.protocol ≡ protocol_of version
    → m.hostname ≡ Some host → m.appname ≡ Some app → IsTag host app (rest_text m)
rest_tag m version host app none protocol is_host is_app =
    let loose = protocol ∙ ap protocol_of none in
    subst (λ (t : Text). IsTag host app t) (sym (rw (loose, is_host, is_app) refl))
    (printed_tag host app (spaced_elements m.structured_data ++ m.msg) m.procid)

-- a line in printed form has its host and app name as a tag
pub printed_tagged : (line : Line) (host app : Text) → KnowsForm line → IsTrue line.is_printed → line.version ≡ None
    → seen line.hostname ≡ Some host → seen line.appname ≡ Some app → IsTag host app (shown line.rest)
printed_tagged line host app form printed none is_host is_app =
    subst (IsTag host app) (sym (form.prints printed))
    (rest_tag (line_value line) line.version host app none refl is_host is_app)

-- ---- the lines of one text

stamps_too : (s t : Option ClockStamp) → stamp_seen s ≡ stamp_seen t → IsSome s → IsSome t
stamps_too (Some s) (Some t) e is = is
stamps_too (Some s) None e is = absurd (let same = e in cc)
stamps_too None t e is = absurd (let none = is in cc)

versions_too : (v w : Option ℕ) → protocol_of v ≡ protocol_of w → IsSome v → IsSome w
versions_too (Some v) (Some w) e is = is
versions_too (Some v) None e is = absurd (let same = e in cc)
versions_too None w e is = absurd (let none = is in cc)

none_too : (v w : Option ℕ) → protocol_of v ≡ protocol_of w → v ≡ None → w ≡ None
none_too v None e none = refl
none_too None (Some w) e none = absurd (let same = e in cc)
none_too (Some v) (Some w) e none = absurd cc

module _ (variant : Variant) (dating : Dating) (text : Text) (line other : Line)
    (of : IsLineOf variant dating text line)
    (too : IsLineOf variant dating text other) where
  same_message : line_value line ≡ line_value other
  same_message = sym (of.only.only (line_value other) too.only.read)

  tagged_too : line.version ≡ None → other.version ≡ None → IsTagged line → IsTagged other
  tagged_too none never is =
      let rests = front_same (Row (stamped_row dating)) (row_det (stamped_row dating) (stamped_det dating))
      (line_rest line of none) (line_rest other too never) in
      record {
        dated = stamps_too line.timestamp other.timestamp (ap (λ (m : MessageValue). m.timestamp) same_message)
            is.dated;
        host = is.host;
        app = is.app;
        is_host = sym (ap (λ (m : MessageValue). m.hostname) same_message) ∙ is.is_host;
        is_app = sym (ap (λ (m : MessageValue). m.appname) same_message) ∙ is.is_app;
        plain = is.plain;
        tag = subst (IsTag is.host is.app) rests.0 is.tag;
      }

  no_version_too : line.version ≡ None → other.version ≡ None
  no_version_too none = none_too line.version other.version
      (ap (λ (m : MessageValue). m.protocol) same_message) none

  -- where one line of a text is ordinary, each is
  pub ordinary_too : IsOrdinary line → IsOrdinary other
  ordinary_too (inl (is, unpaired)) =
      let is_too = versions_too line.version other.version (ap (λ (m : MessageValue). m.protocol) same_message) is in
      inl (is_too, λ paired. unpaired (paired_too variant dating text line other of too same_message is is_too paired))
  ordinary_too (inr (none, inl some)) = inr (
    no_version_too none,
    inl (λ nothing. some (ap (λ (m : MessageValue). m.structured_data) same_message ∙ nothing)),
  )
  ordinary_too (inr (none, inr is)) = inr (no_version_too none, inr (tagged_too none (no_version_too none) is))

-- ---- what ends a tag
pub mark_first : {t q : Text} → Front (ended (exactly (58 ∷ []))) t q tt → Front mark t q tt
mark_first f = front_of f.piece f.whole (inl f.is)

pub mark_second : (t : Text) (r : Option (Bor (List ℕ))) → NoFront (ended (exactly (58 ∷ []))) t
    → Skips (exactly (91 ∷ [])) tt t r
    → Skips mark tt t r
mark_second t None no_colon none = λ p q v e h. elim h [ inl k ↦ no_colon p q tt e k | inr k ↦ none p q tt e k ]
mark_second t (Some q) no_colon f = front_of f.piece f.whole (inr f.is)

pub tag_told : (host app t : Text) (r : Option (Bor (List ℕ)))
    → Skips (Row (tag_row host app)) (tt, (tt, (tt, (tt, (tt, tt))))) t r
    → MatchBool (is_some r) (IsTag host app t) (IsTag host app t → ⊥)
tag_told host app t None none = λ (more, f). no_front_no (Row (tag_row host app)) none f
tag_told host app t (Some q) f = (shown q, f)

-- ---- tagged lines
module _ (line : Line) (host app : Bor (List ℕ)) (e : line.hostname ≡ Some host) (f : line.appname ≡ Some app) where
  same_app : (is : IsTagged line) → is.app ≡ shown app
  same_app is = let same = sym is.is_app ∙ ap seen f in cc

  same_host : (is : IsTagged line) → is.host ≡ shown host
  same_host is = let same = sym is.is_host ∙ ap seen e in cc

  -- an odd app name is no tag
  pub odd_answer : true ≡ is_odd (shown host) (shown app) → IsTagged line → ⊥
  odd_answer odd is = let none : true ≡ false = odd ∙ sym (ap (λ (t : Text). is_odd t (shown app)) (same_host is))
      ∙ sym (ap (λ (t : Text). is_odd is.host t) (same_app is)) ∙ is.plain in cc

  tagged : is_odd (shown host) (shown app) ≡ false → IsSome line.timestamp
      → IsTag (shown host) (shown app) (shown line.rest) → IsTagged line
  tagged plain dated tag = record {
    dated = dated;
    host = shown host;
    app = shown app;
    is_host = ap seen e;
    is_app = ap seen f;
    plain = plain;
    tag = tag;
  }

  not_tagged : (IsTag (shown host) (shown app) (shown line.rest) → ⊥) → IsTagged line → ⊥
  not_tagged none is =
      none (subst (λ (t : Text). IsTag (shown host) t (shown line.rest)) (same_app is)
      (subst (λ (t : Text). IsTag t is.app (shown line.rest)) (same_host is) is.tag))

  pub tag_answer : (b : Bool) → is_odd (shown host) (shown app) ≡ false → IsSome line.timestamp
      → MatchBool b (IsTag (shown host) (shown app) (shown line.rest))
      (IsTag (shown host) (shown app) (shown line.rest) → ⊥) → MatchBool b (IsTagged line) (IsTagged line → ⊥)
  tag_answer true plain dated tag = tagged plain dated tag
  tag_answer false plain dated none = not_tagged none

  pub printed_answer : is_odd (shown host) (shown app) ≡ false → IsSome line.timestamp → KnowsForm line
      → line.is_printed ≡ true → line.version ≡ None
      → MatchBool line.is_printed (IsTagged line) (IsTagged line → ⊥)
  printed_answer plain dated form printed none =
      subst (λ (b : Bool). MatchBool b (IsTagged line) (IsTagged line → ⊥)) (sym printed)
      (tagged plain dated (printed_tagged line (shown host) (shown app) form printed none (ap seen e) (ap seen f)))
