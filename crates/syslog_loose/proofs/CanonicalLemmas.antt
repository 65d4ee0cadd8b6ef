-- The written condition and its quirks: what the tests of both return, and that the condition for RFC 3164 is the
-- quirks' absence beside all that they leave.
use Rattle.syslog_loose.proofs.Names.{◌⊎◌, HasQuietNames, rules, ◌≡◌, ◌<◌, ◌∙◌, ◌↔◌, ℕ, Bool, true, false, not, List}
use Rattle.syslog_loose.proofs.Names.{[], length, map, refl, sym, ap, subst, arith, IsTrue, MatchBool, chars, IsUtf8}
use Rattle.syslog_loose.proofs.Names.{bytes_eq, length-map, Text, drop_trailing_whitespace, nil_from_length}
use Rattle.syslog_loose.proofs.Names.{bytes_eq-Decides, NoFront, DashRule, BeginsNoList, rfc3164_list, EndsVisibly, ◌≢◌}
use Rattle.syslog_loose.proofs.Names.{◌∷◌, ◌++◌, nat_eq, None, Each, dash, chars_from_encodes, chars-IsAscii}
use Rattle.syslog_loose.proofs.Names.{encodes-append, encodes-chars, encode_utf8_all, colon, EndsInColon, is_no_colon}
use Rattle.syslog_loose.proofs.Names.{false_is, colon_ascii, ◌&&◌, inl, inr, Option, Some, IfSome, IsSome, ProcId, PID}
use Rattle.syslog_loose.proofs.Names.{IsBracketedProcess, is_process_char, AreCanonicalNames, each_map, IsCanonical3164}
use Rattle.syslog_loose.proofs.Names.{IsCanonicalFor, IsCanonical, is_inner_char, HasNoQuirk, IsOddHost, IsInnerProcess}
use Rattle.syslog_loose.proofs.Names.{AreNamesButQuirks, HasQuirksAlone, each_both, IsNearlyCanonical, MessageValue}
use Rattle.syslog_loose.proofs.Names.{each_left, each_right, IfSome_then, SyslogFacility, SyslogSeverity, trim_end}
use Rattle.syslog_loose.proofs.Names.{NonePass, same_chars, end_trimmed_chars, no_list_is, dash_ascii}
use Rattle.syslog_loose.proofs.Names.{Name, Protocol, RFC3164, IsVisible, HasNoColon, IsCanonicalHost}
use Rattle.syslog_pieces.proofs.Names.{common_steps}
use Rattle.syslog_text.proofs.TextLemmas.Runs.{from_not_true}
use Rattle.syslog_loose.proofs.PrintedLemmas.{drop_none, drop_ends}
use Rattle.std.proofs.lemmas.Str.{chars-append, encodes-IsAscii, IsCharBoundary-at_seam, IsUtf8-from_ascii, IsUtf8-take}
use Rattle.std.{proofs.Math.Seq.take-append_seam, specs.Cmp.Derive.Mapped.pointwise-map}
use Rattle.std.proofs.lemmas.Str.Pattern.{contains_char, NoCharPasses-char}
use Rattle.std.specs.Str.Pattern.{FindsChar, HasMatch}

-- a text that trimming leaves as it is
pub visible_told : (bs ts : List ℕ) (b : Bool) → IsUtf8 bs → IsUtf8 ts → ts ≡ trim_end bs → b ≡ bytes_eq ts bs
    → IsTrue b ↔ EndsVisibly (chars bs)
visible_told bs ts b u v e f =
    search (
      rules,
      chars,
      drop_trailing_whitespace,
      end_trimmed_chars,
      bytes_eq-Decides,
      drop_ends,
      same_chars,
      drop_none,
    )

-- a list that is there, seen through a function
pub some_params : {X Y : Type 0} (f : X → Y) (xs : List X) → 0 < length (map f xs) → 0 < length xs
some_params f xs h = omega (arith, length-map xs f)

pub no_items : {X Y : Type 0} (f : X → Y) (xs : List X) → (0 < length xs → ⊥) → map f xs ≡ []
no_items f xs n = ap (map f) (nil_from_length xs (omega (arith, n)))

pub some_items : {X Y : Type 0} (f : X → Y) (xs : List X) → 0 < length xs → map f xs ≡ [] → ⊥
some_items f xs h e = omega (arith, length-map xs f, ap length e)

pub ruleset emptiness = (no_items, some_items, common_steps)

pub ruleset mapped = (pointwise-map)

-- a message that begins no list
pub no_list_told : (rule : DashRule) (t : Text) (b : Bool) → MatchBool b (NoFront (rfc3164_list rule) t → ⊥)
    (NoFront (rfc3164_list rule) t) → IsTrue (not b) ↔ BeginsNoList rule t
no_list_told rule t true m =
    ((λ h. absurd (let e : false ≡ true = h in cc)), (λ n. absurd (m ((no_list_is rule t).1 n))))
no_list_told rule t false m = ((λ h. (no_list_is rule t).0 m), (λ n. refl))

-- the bytes of a dash
pub dash_bytes : (bs : List ℕ) → IsUtf8 bs → chars bs ≡ dash → bs ≡ dash
dash_bytes bs u e = sym (encodes-chars bs u) ∙ ap encode_utf8_all e ∙ encodes-IsAscii dash dash_ascii

-- ---- what the test of a host returns

pub colon_end : (bs : List ℕ) → IsUtf8 bs → EndsInColon bs → EndsInColon (chars bs)
colon_end bs u (front, e) =
    let whole = rw (e, take-append_seam) at (IsUtf8-take bs (length front) u
    (IsCharBoundary-at_seam bs front colon e (IsUtf8-from_ascii colon colon_ascii))) in
    (chars front, rw (e, chars-append front colon whole, chars-IsAscii colon colon_ascii) refl)

pub odd_told : (bs : List ℕ) → IsUtf8 bs → (front : List ℕ) × (bs ≡ front ++ colon)
    → IsTrue false ↔ ((chars bs ≢ dash) × (EndsInColon (chars bs) → ⊥))
odd_told bs u ends = false_is (λ h. h.1 (colon_end bs u ends))

-- bytes that do not end in a colon are of no text that does
pub no_colon_end : (bs : List ℕ) → IsUtf8 bs → ((front : List ℕ) → bs ≢ front ++ colon) → EndsInColon (chars bs) → ⊥
no_colon_end bs u n k = n (encode_utf8_all k.0)
    (rw (← encodes-chars bs u, k.1, encodes-append, encodes-IsAscii colon colon_ascii) refl)

pub no_odd_told : (bs : List ℕ) (b : Bool) → IsUtf8 bs → ((front : List ℕ) → bs ≢ front ++ colon)
    → MatchBool b (bs ≢ dash) (bs ≡ dash) → IsTrue b ↔ ((chars bs ≢ dash) × (EndsInColon (chars bs) → ⊥))
no_odd_told bs true u n m = ((λ h. (λ e. m (dash_bytes bs u e), no_colon_end bs u n)), (λ k. refl))
no_odd_told bs false u n m = false_is (λ k. k.0 (ap chars m ∙ chars-IsAscii dash dash_ascii))

-- ---- a name without a colon
each_of : (cs : Text) → NonePass (λ d. nat_eq d 58) cs → Each is_no_colon cs
each_of [] n = tt
each_of (c ∷ cs) n = (ap not n.0, each_of cs n.1)

none_of : (cs : Text) → Each is_no_colon cs → NonePass (λ d. nat_eq d 58) cs
none_of [] h = tt
none_of (c ∷ cs) h = (from_not_true (nat_eq c 58) h.0, none_of cs h.1)

pub no_colon_told : (bs : List ℕ) (b : Bool) → IsUtf8 bs
    → MatchBool b (HasMatch (FindsChar 58) bs) (FindsChar 58 bs None) → IsTrue (not b) ↔ Each is_no_colon (chars bs)
no_colon_told bs true u m =
    let (k, l, e) = (contains_char 58 bs true m (omega arith)).0 refl in
    false_is (λ h. NoCharPasses-char 58 bs k (chars bs, encodes-chars bs u, none_of (chars bs) h) (omega arith) l e)
no_colon_told bs false u m = (
  (λ h. let (cs, e, n) = m in subst (λ (x : Text). Each is_no_colon x) (chars_from_encodes cs bs u e) (each_of cs n)),
  (λ h. refl),
)

-- ---- the host
no_odd_host : (host app : Option Text) → IfSome host IsCanonicalHost → IfSome host (λ x. IsOddHost x → app ≡ None)
no_odd_host host app h = IfSome_then host h (λ x k o. absurd (elim o [ inl d ↦ k.1 d | inr c ↦ k.2 c ]))

pub quiet_names : (host : Option Text) (process : Option (ProcId Text)) → IfSome host IsCanonicalHost
    → IfSome process HasNoColon → HasQuietNames host process
quiet_names None p k q = record { no_dash = tt; no_last_colon = tt; no_colon = q }
quiet_names (Some h) p k q = record { no_dash = k.1; no_last_colon = k.2; no_colon = q }

pub canonical_host : (host : Option Text) (process : Option (ProcId Text)) → IfSome host IsVisible
    → HasQuietNames host process → IfSome host IsCanonicalHost
canonical_host None p v q = tt
canonical_host (Some x) p v q = (v, q.no_dash, q.no_last_colon)

-- ---- the process

inner_of : (c : ℕ) → is_inner_char c && is_no_colon c ≡ true → is_process_char c ≡ true
inner_of c h = grind arith

process_of : (c : ℕ) → is_process_char c ≡ true → is_inner_char c && is_no_colon c ≡ true
process_of c h = grind arith

pub bracketed_of : (process : ProcId Text) → IsInnerProcess process → HasNoColon process → IsBracketedProcess process
bracketed_of (PID n) h k = tt
bracketed_of (Name t) (l, a, none) k = (
  l,
  each_map (λ c. is_inner_char c && is_no_colon c) is_process_char inner_of t
      (each_both is_inner_char is_no_colon t a k),
  none,
)

-- ---- the names
near_of : (host app : Option Text) (process : Option (ProcId Text)) → AreCanonicalNames host app process
    → AreNamesButQuirks host app process × IfSome process HasNoColon
near_of host (Some a) (Some (PID n)) h = (h, tt)
near_of host (Some a) (Some (Name t)) (label, (some, each, none)) =
    let both = each_map is_process_char (λ c. is_inner_char c && is_no_colon c) process_of t each in
    ((label, (some, each_left is_inner_char is_no_colon t both, none)), each_right is_inner_char is_no_colon t both)
near_of host None (Some p) h = absurd h
near_of host None None h = (h, tt)
near_of host (Some a) None h = (h, tt)

pub canonical_names : (host app : Option Text) (process : Option (ProcId Text)) → AreNamesButQuirks host app process
    → IfSome process HasNoColon → AreCanonicalNames host app process
canonical_names host (Some a) (Some p) h k = (h.0, bracketed_of p h.1 k)
canonical_names host app process h k = h

-- ---- the message
pub canonical_near : (rule : DashRule) (m : MessageValue) → m.protocol ≡ RFC3164 → IsCanonical rule m
    → IsNearlyCanonical m × HasNoQuirk rule m
canonical_near rule m e (canonical, other) =
    let own : IsCanonical3164 rule m = subst (λ (x : Protocol). IsCanonicalFor rule x m) e other in
    let (names, no_colon) = near_of m.hostname m.appname m.procid own.names in
    let visible = IfSome_then m.hostname canonical.hostname (λ x k. k.0) in
    let odd = no_odd_host m.hostname m.appname canonical.hostname in
    let quiet = quiet_names m.hostname m.procid canonical.hostname no_colon in
    let colon : IfSome m.procid HasNoColon ⊎ (m.hostname ≡ None) = inl no_colon in
    let rest : HasQuirksAlone m = search (canonical.elements, own.elements) parts 1 in
    (search parts 1, search own.no_list parts 1)

-- the message with this facility and severity instead of its own
pub near_completed : (rule : DashRule) (m : MessageValue) (f : Option SyslogFacility) (s : Option SyslogSeverity)
    → IsSome f → IsSome s → HasQuirksAlone m → HasNoQuirk rule m
    → IsCanonical rule (record m { facility = f; severity = s })
near_completed rule m f s facility severity near none = search (rules, canonical_names)

pub near_canonical : (rule : DashRule) (m : MessageValue) → IsNearlyCanonical m × HasNoQuirk rule m
    → IsCanonical rule m
near_canonical rule m (nearly, none) =
    near_completed rule m m.facility m.severity nearly.facility nearly.severity nearly.rest none

-- the condition is the exceptions and the rest, both ways
pub ruleset nearly = (canonical_near, near_canonical)
