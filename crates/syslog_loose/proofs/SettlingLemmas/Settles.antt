-- Rounds of a text: one is stable first, or one is missing; and the rounds that are skipped, with what is written of
-- them.
use Rattle.syslog_loose.proofs.Names.{rules, is_not_whitespace, chars_from_encodes, IsCanonicalStamp, dash_rfc3164_list}
use Rattle.syslog_loose.proofs.Names.{IsUnreadable, encode_utf8_all, IsReportedRound, IsAfterPriority, IsBoundedProcess}
use Rattle.syslog_loose.proofs.Names.{IsFirstSettled, ShowsMonthDate, HasQuirksAlone, nil_from_length, HasNoNameQuirk}
use Rattle.syslog_loose.proofs.Names.{optional_some, ReadsProtocol, front_division, encodes-append, BeginsWithout, zero}
use Rattle.syslog_loose.proofs.Names.{Dating, length-append, rfc3164_stamp, colons_before, encodes-chars, elements_text}
use Rattle.syslog_loose.proofs.Names.{append_assoc, MessageValue, string_bytes, chars-IsAscii, ElementValue, month_date}
use Rattle.syslog_loose.proofs.Names.{NoneSettled, priority_of, IsCanonical, rfc3164_list, PassesDashes, piece_front, ℕ}
use Rattle.syslog_loose.proofs.Names.{◌≡◌, EndsInColon, BeforeBlank, past_colons, rfc3164_row, MatchOption, encode_utf8}
use Rattle.syslog_loose.proofs.Names.{chars_empty, colon_ascii, HasNoQuirk, IsRead3164, ParseFault, line_value, printed}
use Rattle.syslog_loose.proofs.Names.{leb_tells, each_front, EndsColons, rest_front, append-nil, CutsColons, front_same}
use Rattle.syslog_loose.proofs.Names.{IsSettled, dash_rule, tail_text, Names3164, is_blank, Protocol, rows_join, IsNext}
use Rattle.syslog_loose.proofs.Names.{IsDashed, with_msg, Resolves, body_row, row_cons, IsRound, EndsOnce, some_run, ap}
use Rattle.syslog_loose.proofs.Names.{Reaches, Variant, trimmed, RFC5424, Invalid, IsFixed, HasRank, IsLater, exactly}
use Rattle.syslog_loose.proofs.Names.{length, run_det, is_some, IsAscii, Option, IsRead, Either, IsUtf8, Weighs, Memory}
use Rattle.syslog_loose.proofs.Names.{Result, Global, String, row_of, ◌then◌, IfSome, Values, colons, Prints, begins}
use Rattle.syslog_loose.proofs.Names.{subst, arith, Front, false, chars, colon, refl, Text, ◌++◌, names, shown, Skips}
use Rattle.syslog_loose.proofs.Names.{◌<◌, true, None, Some, Bool, List, IfOk, Made, ◌⊎◌, ◌∙◌, suc, inl, rest, Ends, []}
use Rattle.syslog_loose.proofs.Names.{inr, sym, ◌≤◌, ◌∷◌, ◌+◌, ◌↔◌, Err, Row, run, ◌-◌, Ok, Bor, ◌*◌}
use Rattle.syslog_loose.proofs.ReadingLemmas.{read_once, invalid_or_memory}
use Rattle.syslog_loose.{proofs.PrintedLemmas.priority_small, specs.Printed.printed_3164}
use Rattle.syslog_loose.{proofs.Rfc3164Lemmas.Near.read_near, specs.declared.variant.Variant.TheVariants.RFC3164}
use Rattle.syslog_loose.proofs.Rfc3164Lemmas.{printed_3164_is, to_stamp, printed_apart, shows, rfc3164_bounded}
use Rattle.syslog_loose.proofs.Rfc3164Lemmas.{from_blanks, from_stamp, to_colon, told}
use Rattle.syslog_loose.proofs.Rfc3164Lemmas.ReadBack.{body_back, names_back, program_field, resolved, stamp_back}
use Rattle.syslog_loose.proofs.Rfc3164Lemmas.ReadBack.{to_stamp_back, trimmed_whole}
use Rattle.syslog_loose.specs.Settling.{SettlesAs, IsSettlingFault, Settles}
use Rattle.syslog_loose.specs.Passes.{IsStable, AnswersPass, PassesLead, WritesRound, round_answer}
use Rattle.syslog_loose.proofs.ReadBackLemmas.{read_as, read_bounded, printed_exact, fixed_again, read_shows_none}
use Rattle.syslog_loose.proofs.CanonicalLemmas.{canonical_near, canonical_host, canonical_names, colon_end}
use Rattle.syslog_loose.proofs.SettlingLemmas.Falls.{falls, same_text, rank_falls, after_space, priority_again}
use Rattle.syslog_loose.proofs.SettlingLemmas.Falls.{printed_same, host_left, no_form_open}
use Rattle.syslog_loose.proofs.SettlingLemmas.Weights.{light, weight, dash_before, no_list_by}
use Rattle.std.{proofs.lemmas.Str.Ascii.IsAscii-nil, specs.List.repeat, specs.declared.alloc.AllocError.AllocError}
use Rattle.syslog_loose.specs.Bodies.Jumps.{message_end, read_with}
use Rattle.std.proofs.lemmas.Str.{IsAscii-append, chars-append, encodes-IsAscii}
use Rattle.std.specs.Str.Pattern.{FindsTextPrefix, FindsTextSuffix, StripsPrefix, StripsSuffix}
use Rattle.syslog_loose.specs.declared.message.Protocol.TheVariants as protocol

-- ---- one round of each number, and one that is settled first

last_or_before : (k n : ℕ) → k < suc n → (k ≡ n) ⊎ (k < n)
last_or_before k n l = elim (leb_tells n k) [ inl a ↦ inl (omega (arith, a.1)) | inr a ↦ inr a.1 ]

module _ (variant : Variant) (dating : Dating) where
  one_next : (t u x : Text) → IsNext variant dating t u → IsNext variant dating t x → u ≡ x
  one_next t u x a b = search (rules, read_once)

  one_round : (t : Text) (n : ℕ) (u x : Text) → IsRound variant dating t n u → IsRound variant dating t n x → u ≡ x
  one_round t zero u x a b = a ∙ sym b
  one_round t (suc n) u x (y, r, h) (z, s, k) = one_next z u x (rw (one_round t n y z r s) at h) k

  -- after a round that is not read there is none
  none_after : (t : Text) (j : ℕ) (u : Text) → IsRound variant dating t j u → IsUnreadable variant dating u
      → (n : ℕ) (x : Text) → j < n → IsRound variant dating t n x → ⊥
  none_after t j u r never zero x l s = omega arith
  none_after t j u r never (suc n) x l (before, s, h) = elim (last_or_before j n l) [
    | inl e ↦ never h.message (rw (one_round t n before u s (rw e at r)) at h.read)
    | inr a ↦ none_after t j u r never n before a s
  ]

  pub one_first_settled : (t u x : Text) → IsFirstSettled variant dating t u → IsFirstSettled variant dating t x → u ≡ x
  one_first_settled t u x a b =
      let later : a.before < b.before → ⊥ = λ l. b.none_before a.before u l a.round a.settled in
      let earlier : b.before < a.before → ⊥ = λ l. a.none_before b.before x l b.round b.settled in
      let same : a.before ≡ b.before = omega arith in
      one_round t (suc b.before) u x (subst (λ (n : ℕ). IsRound variant dating t (suc n) u) same a.round) b.round

  -- ---- what is known after so many rounds that are not settled
  pub reached_next : (t : Text) (n : ℕ) (u x : Text) → Reaches variant dating t n u
      → (0 < n → IsSettled variant dating u → ⊥) → IsNext variant dating u x → Reaches variant dating t (suc n) x
  reached_next t n u x r never h = record {
    round = (u, r.round, h);
    none = λ k y l round settled. elim (last_or_before (suc k) n l) [
      | inl e ↦ never (omega arith) (rw (one_round t n y u (subst (λ (i : ℕ). IsRound variant dating t i y) e round)
          r.round) at settled)
      | inr a ↦ r.none k y a round settled
    ];
  }

  pub reached_none : (t : Text) → Reaches variant dating t 0 t
  reached_none t = record { round = refl; none = λ k x l. absurd (omega arith) }

  -- what is reached from a round that is not settled
  reached_further : (t : Text) (n : ℕ) (u : Text) (k : ℕ) (x : Text) → Reaches variant dating t n u
      → (IsSettled variant dating u → ⊥) → Reaches variant dating u (suc k) x
      → (j : ℕ) × Reaches variant dating t (suc j) x
  reached_further t n u zero x r never s =
      let (b, e, h) = s.round in (n, reached_next t n u x r (λ l. never) (rw e at h))
  reached_further t n u (suc k) x r never s =
      let (b, round, h) = s.round in
      let (j, more) = reached_further t n u k b r never
      (record { round = round; none = λ i y a. s.none i y (omega arith) }) in
      (suc j, reached_next t (suc j) b x more (λ l. s.none k b (omega arith) round) h)

  -- ---- where no round is settled first, none is settled
  pub none_settled : (t : Text) → ((u : Text) → IsFirstSettled variant dating t u → ⊥) → (n : ℕ)
      → NoneSettled variant dating t n
  none_settled t never zero k u l round settled = omega arith
  none_settled t never (suc n) k u l round settled = never u (record {
    before = k;
    round = round;
    settled = settled;
    none_before = λ i y a. none_settled t never n i y (omega arith);
  })

-- ---- the protocol of a message that was read is one that the variant reads
pub read_protocol : (variant : Variant) (dating : Dating) (text : Text) (m : MessageValue)
    → IsRead variant dating text m → ReadsProtocol variant m.protocol
read_protocol RFC5424 dating text m r = rw (ap (λ (x : MessageValue). x.protocol) r.means) tt
read_protocol RFC3164 dating text m r = rw (read_near dash_rule dating text m r).protocol tt
read_protocol Either dating text m r = tt

-- ---- by which protocol a text was read
-- a message without exceptions is at rest
pub rests_so : (p : Protocol) (m : MessageValue) → HasNoQuirk dash_rule m → IsStable p m
rests_so protocol.RFC3164 m h = h
rests_so (protocol.RFC5424 version) m h = tt

-- what RFC 3164 printed stays RFC 3164
stays_rfc3164 : (variant : Variant) (dating : Dating) (m n : MessageValue) → m.protocol ≡ protocol.RFC3164
    → IsRead variant dating (printed m) n → IsRead3164 dash_rule dating (printed m) n
stays_rfc3164 variant dating m n e s = elim (read_as variant dating (printed m) n s) [
  | inl k ↦ (let k = rw (printed_3164_is m e) at k in absurd (printed_apart m k.values k.division))
  | inr k ↦ k
]

module _ (variant : Variant) (dating : Dating) where
  -- ---- which printed texts are settled
  fixed_settled : (text : Text) (m : MessageValue) → IsRead variant dating text m → IsFixed m
      → IsSettled variant dating (printed m)
  fixed_settled text m r fixed =
      let (n, again, same) = fixed_again variant dating m fixed (read_protocol variant dating text m r) in
      record { message = n; read = again; is_printed = sym same }

  -- the message of a settled text is canonical
  pub settled_canonical : (text : Text) (m : MessageValue) → IsSettled variant dating text
      → IsRead variant dating text m → IsCanonical dash_rule m
  settled_canonical text m s r = search (rules, read_once, printed_exact, read_bounded)

  -- so a text is not settled whose message of RFC 3164 has an exception
  pub odd_unsettled : (text : Text) (m : MessageValue) → IsRead variant dating text m → m.protocol ≡ protocol.RFC3164
      → (HasNoQuirk dash_rule m → ⊥) → IsSettled variant dating text → ⊥
  odd_unsettled text m r e odd s = odd (canonical_near dash_rule m e (settled_canonical text m s r)).1

  -- ---- weights fall

  -- before a text that is not stable is one that is read as RFC 3164
  unsettled_rfc3164 : (text u : Text) (h : IsNext variant dating text u) → (IsSettled variant dating u → ⊥)
      → IsRead3164 dash_rule dating text h.message
  unsettled_rfc3164 text u h unsettled = search (rules, fixed_settled)

  -- the message of round n weighs n less than the text has characters
  weighs_less : (t : Text) (n : ℕ) (u : Text) (m : MessageValue) (w : ℕ) → IsRound variant dating t n u
      → NoneSettled variant dating t n → IsRead variant dating u m → (n ≡ 0 → IsRead3164 dash_rule dating u m)
      → Weighs dash_rule m w → w + n ≤ length t
  weighs_less t zero u m w e none k r x = omega (arith, light dash_rule dating t m w (rw e at (r refl)) x)
  weighs_less t (suc n) u m w (before, round, h) none k r x =
      let unsettled : IsSettled variant dating u → ⊥ = λ s. none n u (omega arith) (before, round, h) s in
      let first = unsettled_rfc3164 before u h unsettled in
      let second = stays_rfc3164 variant dating h.message m
      (read_near dash_rule dating before h.message first).protocol (rw h.is_printed at k) in
      let (v, y) = weight dash_rule h.message in
      elim (falls dash_rule dating dating before h.message m first second (inl refl) v w y x) [
        | inl less ↦ omega (
          arith,
          less,
          weighs_less t n before h.message v round (λ i z l. none i z (omega arith)) h.read (λ z. first) y,
        )
        | inr same ↦ absurd (unsettled (record { message = m; read = k; is_printed = h.is_printed ∙ sym same }))
      ]

  -- So many rounds can't be unsettled.
  ends : (t : Text) (n : ℕ) (u : Text) → length t < n → Reaches variant dating t (suc n) u → ⊥
  ends t n u l r =
      let (before, round, k) = r.round in
      let (w, x) = weight dash_rule k.message in
      let none : NoneSettled variant dating t n = λ i y a. r.none i y (omega arith) in
      omega (arith, weighs_less t n before k.message w round none k.read (λ z. absurd (omega arith)) x)

  pub rests : (t u : Text) → NoneSettled variant dating t (length t + 1) → IsRound variant dating t (length t + 2) u → ⊥
  rests t u none round =
      let e : length t + 2 ≡ suc (length t + 1) = omega arith in
      ends t (length t + 1) u (omega arith) (record { round = rw e at round; none = λ k x l. none k x (omega arith) })

  -- ---- what is answered

  -- a round that is settled after n that are not is the result
  settles_as : (t : Text) (n : ℕ) (u : Text) → Reaches variant dating t (suc n) u → IsSettled variant dating u
      → SettlesAs variant dating t u
  settles_as t n u r s = record {
    first = record { before = n; round = r.round; settled = s; none_before = λ k y l. r.none k y (omega arith) };
    soon = elim (leb_tells n (length t)) [ inl l ↦ l.1 | inr l ↦ absurd (ends t n u l.1 r) ];
  }

  -- so is the round before it, where it is the same text
  settles_after : (t : Text) (n : ℕ) (u x : Text) → Reaches variant dating t n u → IsNext variant dating u x
      → IsSettled variant dating x → SettlesAs variant dating t x
  settles_after t zero u x r next s =
      settles_as t 0 x (reached_next variant dating t 0 u x r (λ l. absurd (omega arith)) next) s
  settles_after t (suc n) u x r next s = elim (same_text u x) [
    | inl same ↦ settles_as t n x (rw same at r) s
    | inr other ↦ settles_as t (suc n) x
        (reached_next variant dating t (suc n) u x r (λ l k. other (one_next variant dating u u x k next)) next) s
  ]

  -- a round that is not read
  refused : (t : Text) (n : ℕ) (u : Text) (fault : ParseFault) → Reaches variant dating t n u
      → (fault ≡ Invalid) ↔ IsUnreadable variant dating u → IsSettlingFault variant dating t fault
  refused t n u Invalid r h =
      let never : (y : Text) → IsFirstSettled variant dating t y → ⊥ = λ y s. elim (leb_tells n (suc s.before)) [
        | inl a ↦ none_after variant dating t n u r.round (h.0 refl) (suc (suc s.before)) y (omega (arith, a.1))
            (y, s.round, s.settled)
        | inr a ↦ r.none s.before y a.1 s.round s.settled
      ] in
      (λ y round. rests t y (none_settled variant dating t never (length t + 1)) round, never)
  refused t n u Memory r h = λ never. invalid_or_memory (h.1 (λ m s. none_after variant dating t 0 t refl never (suc n)
      (printed m) (omega arith) (u, r.round, record { message = m; read = s; is_printed = refl })))

  -- ---- what is known of a round
  module _ (text : Text) (m : MessageValue) (r : IsRead variant dating text m) where
    -- where the message is at rest, its print is the next round, which is settled
    pub told_settled : (bytes : List ℕ) → IsUtf8 bytes → bytes ≡ encode_utf8_all (printed m) → IsStable m.protocol m
        → IsReportedRound variant dating text (chars bytes) true
    told_settled bytes u w rest =
        let next : IsNext variant dating text (chars bytes) =
        record { message = m; read = r; is_printed = sym (chars_from_encodes (printed m) bytes u (sym w)) } in
        let stable = λ (p : Protocol). IsStable p m in
        let fixed : IsFixed m = inr (elim (read_as variant dating text m r) [
          | inl s ↦ inl (text, s)
          | inr s ↦ inr (text, dating, s, subst stable (read_near dash_rule dating text m s).protocol rest)
        ]) in (next, rw next.is_printed (fixed_settled text m r fixed))

    -- where it has a quirk, a later one may take its place, and what is read of that has a lower rank
    pub told_later : (later : Text) → m.protocol ≡ protocol.RFC3164 → (HasNoQuirk dash_rule m → ⊥)
        → IsLater variant dating text m later → IsReportedRound variant dating text later false
    told_later later e odd l = record {
      never = odd_unsettled text m r e odd;
      before = l.before;
      reaches = l.reaches;
      message = m;
      read = r;
      odd = odd;
      lower = λ n x s. rank_falls dating dating l.text l.message x l.read (stays_rfc3164 variant dating l.message x
          (read_near dash_rule dating l.text l.message l.read).protocol (rw l.is_printed at s)) m n l.passes;
    }

  -- ---- what a pass returns

  -- at a round of this rank, by way of the line of its text
  pub made_answer : {E : Type 0} (given : E → E → List ElementValue → Type 0) (before after : E) (t : Text) (n rank : ℕ)
      (u : Text) (old new : String Global) (made : Option (Result Bool AllocError)) → Reaches variant dating t n u
      → ((m : MessageValue) → IsRead variant dating u m → HasRank rank m) → Made (λ (_ : String Global) line written
      last. WritesRound line written (string_bytes last)) given variant dating u old before made new after
      → AnswersPass variant dating t rank u (string_bytes new) (round_answer made)
  made_answer given before after t n rank u old new None r ranked (none, _, _) =
      refused t n u Invalid r ((λ e. none), (λ i. refl))
  made_answer given before after t n rank u old new (Some (Err _)) r ranked (line, of, writes, _) = refused t n u Memory
      r ((λ e. absurd (invalid_or_memory e)), (λ i. absurd (i (line_value line) of.only.read)))
  made_answer given before after t n rank u old new (Some (Ok true)) r ranked (line, of, writes, _) =
      let told = writes variant dating u of.only.read in (told, settles_after t n u _ r told.0 told.1)
  made_answer given before after t n zero u old new (Some (Ok false)) r ranked (line, of, writes, _) =
      let told = writes variant dating u of.only.read in absurd (told.odd (ranked told.message told.read))
  made_answer given before after t n (suc k) u old new (Some (Ok false)) r ranked (line, of, writes, _) =
      let told = writes variant dating u of.only.read in
      let (j, more) = reached_further variant dating t n u told.before _ r told.never told.reaches in (
        told,
        (
          k,
          refl,
          record { before = j; reaches = more; ranked = λ m s. told.lower k m s (ranked told.message told.read) },
        ),
      )

  -- what is printed of a text shows no month date, so that none is after its priority
  pub without_date : (t : Text) (n : ℕ) (u : Text) {follows : Text} {p : Option ℕ} → Reaches variant dating t (suc n) u
      → IsAfterPriority (trimmed u) p follows → BeginsWithout month_date variant follows
  without_date t n u r f reads start gap = λ p q date whole is.
      let (before, round, h) = r.round in
      read_shows_none variant dating before h.message h.read date (subst (λ (x : Text). ShowsMonthDate x date)
      h.is_printed (shows month_date f gap (record { piece = p; whole = whole; is = is })))

  -- the last pass, and one before others
  pub last_pass : (n : ℕ) (text u : Text) → IsReportedRound variant dating text u true
      → PassesLead variant dating (suc n) text u
  unfolding PassesLead
  last_pass n text u told = inl told

  pub pass_before : (n : ℕ) (text later u : Text) → IsReportedRound variant dating text later false
      → PassesLead variant dating n later u → PassesLead variant dating (suc n) text u
  unfolding PassesLead
  pass_before n text later u told more = inr (later, told, more)

  pub passes_on : (n : ℕ) (text later : Text) (result : Result (String Global) ParseFault)
      → IsReportedRound variant dating text later false
      → IfOk result (λ u. PassesLead variant dating n later (chars (string_bytes u)))
      → IfOk result (λ u. PassesLead variant dating (suc n) text (chars (string_bytes u)))
  passes_on n text later (Ok u) told more = pass_before n text later (chars (string_bytes u)) told more
  passes_on n text later (Err fault) told more = tt

  -- the message of a settled text is canonical
  pub answer_canonical : (text : Text) (result : Result (String Global) ParseFault)
      → Settles variant dating text result → IfOk result
      (λ u. (m : MessageValue) → IsRead variant dating (chars (string_bytes u)) m → IsCanonical dash_rule m)
  answer_canonical text (Ok u) s = λ m r. settled_canonical (chars (string_bytes u)) m s.first.settled r
  answer_canonical text (Err fault) s = tt

-- ---- rounds that are skipped

-- what is read back has the priority of the message, so that what is read of its print is read with that
read_twice : (m : MessageValue) (n : Names3164) (t : Text) → read_with (read_with m n t) n t ≡ read_with m n t
read_twice m n t = search (rules, priority_again)

abbrev names_of : MessageValue → Names3164
names_of m = names m.hostname m.appname m.procid

-- a printed message of RFC 3164 is read by the variant as by RFC 3164
as_variant : (variant : Variant) (dating : Dating) (m n : MessageValue) → ReadsProtocol variant protocol.RFC3164
    → IsRead3164 BeforeBlank dating (printed_3164 m) n → IsRead variant dating (printed_3164 m) n
as_variant RFC5424 dating m n h s = absurd h
as_variant RFC3164 dating m n h s = s
as_variant Either dating m n h s = inr (printed_apart m, s)

-- ---- a text, several times

repeat_sum : (xs : List ℕ) (m n k : ℕ) → m + n ≡ k → repeat m xs ++ repeat n xs ≡ repeat k xs
repeat_sum xs zero n k e = ap (λ (i : ℕ). repeat i xs) (let same : n ≡ k = omega (arith, e) in same)
repeat_sum xs (suc m) n zero e = absurd (omega (arith, e))
repeat_sum xs (suc m) n (suc k) e = rw (append_assoc, repeat_sum xs m n k (omega (arith, e))) refl

repeat_times : (xs : List ℕ) (m n : ℕ) → repeat m (repeat n xs) ≡ repeat (m * n) xs
repeat_times xs zero n = ap (λ (i : ℕ). repeat i xs) (let same : 0 ≡ 0 * n = omega arith in same)
repeat_times xs (suc m) n =
    rw (repeat_times xs m n) (repeat_sum xs n (m * n) (suc m * n)
    (let same : n + m * n ≡ suc m * n = grind arith in same))

repeat_alone : (xs : List ℕ) (n : ℕ) → encode_utf8_all xs ≡ xs → encode_utf8_all (repeat n xs) ≡ repeat n xs
unfolding encode_utf8
repeat_alone xs zero e = refl
repeat_alone xs (suc n) e = rw (encodes-append xs (repeat n xs), e, repeat_alone xs n e) refl

-- what was pushed n times and once more, and what was pushed m times k at once and then n times
pub pushed : (old mid new run : List ℕ) (n : ℕ) → mid ≡ old ++ repeat n run → new ≡ mid ++ run
    → new ≡ old ++ repeat (n + 1) run
pushed old mid new run n e f =
    let more = ap (λ (x : List ℕ). repeat n run ++ x) (sym (append-nil run)) ∙ repeat_sum run n 1 (n + 1) refl in
    rw (f, e, append_assoc) (ap (λ (x : List ℕ). old ++ x) more)

pub pushed_twice : (xs old mid new : List ℕ) (m k n all : ℕ) → m * k + n ≡ all → mid ≡ old ++ repeat m (repeat k xs)
    → new ≡ mid ++ repeat n xs → new ≡ old ++ (repeat all xs ++ [])
pushed_twice xs old mid new m k n all same e f =
    rw (f, e, repeat_times xs m k, append_assoc, append-nil, repeat_sum xs (m * k) n all same) refl

passes_dashed : (n : ℕ) (t u : Text) → PassesDashes (suc n) t u → (next : Text) × IsDashed t next
passes_dashed zero t u (before, is, d, next, f) = (u, rw is at d)
passes_dashed (suc n) t u (before, p, d, next, f) = passes_dashed n t before p

module _ (dating : Dating) (text : Text) (m : MessageValue) (r : IsRead3164 BeforeBlank dating text m) where
  near : HasQuirksAlone m
  near = read_near BeforeBlank dating text m r

  abbrev tail : Text
  tail = tail_text m.structured_data m.msg

  -- what is read after the printed timestamp
  after_stamp : (vs : Values (body_row BeforeBlank)) (n : Names3164) → IfSome m.timestamp IsCanonicalStamp
      → Front (Row (body_row BeforeBlank)) (32 ∷ after_space m) [] vs → Resolves vs.0 vs.1.0 n → IsRead3164 BeforeBlank
      dating (printed_3164 m) (told BeforeBlank dating (Some (priority_of m), (tt, (m.timestamp, vs))) n)
  after_stamp vs n k f means = record {
    values = (Some (priority_of m), (tt, (m.timestamp, vs)));
    division = front_division (rfc3164_row BeforeBlank dating) (rw (trimmed_whole m near.msg_end) (rows_join to_stamp
        (from_stamp BeforeBlank dating) (to_stamp_back m (after_space m)) (row_cons (rfc3164_stamp dating)
        (body_row BeforeBlank) (stamp_back dating m.timestamp (after_space m) k) f)));
    means = (n, means, refl);
  }

  -- a host that ends in two colons or more loses one
  colon_read : (h : Text) → IfSome m.timestamp IsCanonicalStamp → m.hostname ≡ Some (h ++ colon) → EndsInColon h
      → IsRead3164 BeforeBlank dating (printed_3164 m) (read_with m (names (Some h) None None) (58 ∷ tail))
  unfolding message_end
  colon_read h k is (front, o) =
      let alone : m.appname ≡ None = (rw is at near.odd_host) (inr (h, refl)) in
      let some : 0 < length h = omega (arith, ap length o, length-append front colon) in
      let each = each_front is_not_whitespace h colon (rw is at near.hostname).1 in
      let vs : Values (body_row BeforeBlank) =
      (Some (Some h), (None, (tt, (Some tt, (tt, (None, (tt, (58 ∷ tail, tt)))))))) in
      after_stamp vs (names (Some h) None None) k
      (rw (is, alone) (rows_join to_colon (from_blanks BeforeBlank) (host_left h tail (some, each))
      (body_back BeforeBlank [] (58 ∷ tail) tt tt refl
      (λ _. no_list_by BeforeBlank 58 tail (λ e. omega arith) (λ e. omega arith)))))
      (inr (rw o (no_form_open front 58 [] (refl, tt)), refl))

  -- a message part of dashes loses one, which is taken for an empty list
  dash_read : (rest : Text) → HasNoNameQuirk m → m.structured_data ≡ [] → IsDashed m.msg rest
      → IsRead3164 BeforeBlank dating (printed_3164 m) (read_with m (names_of m) rest)
  unfolding message_end
  dash_read rest none es d =
      let canonical = canonical_names m.hostname m.appname m.procid near.names none.names.no_colon in
      let bounded : IfSome m.procid IsBoundedProcess = (rfc3164_bounded BeforeBlank dating text m r).procid in
      let after : Text = d.blanks ++ rest in
      let list : Front (Row (from_blanks BeforeBlank)) (32 ∷ 45 ∷ after) [] (tt, (Some [], (tt, (rest, tt)))) =
      row_of (from_blanks BeforeBlank)
      (piece_front (run is_blank) (32 ∷ []) (45 ∷ after) tt ((refl, tt), refl)
      then optional_some (rfc3164_list BeforeBlank)
      (dash_rfc3164_list BeforeBlank (45 ∷ after) after refl (dash_before d.blanks rest d.some d.each))
      then piece_front (run is_blank) d.blanks rest tt (d.each, d.no_more) then rest_front rest then refl) in
      let from : Values (from_blanks BeforeBlank) = (tt, (Some [], (tt, (rest, tt)))) in
      after_stamp (Some m.hostname, (program_field m.appname m.procid, (tt, (Some tt, from)))) (names_of m)
      none.timestamp
      (rows_join to_colon (from_blanks BeforeBlank) (names_back m.hostname m.appname m.procid tail
      (canonical_host m.hostname m.procid near.hostname none.names) canonical bounded)
      (rw (es, d.whole) list))
      (resolved m.hostname m.appname m.procid canonical bounded)

module _ (variant : Variant) (dating : Dating) (input : Text) (m : MessageValue)
    (r : IsRead variant dating input m) (e : m.protocol ≡ protocol.RFC3164) where
  -- the text before it is read as the message, which is printed n rounds after round 1
  abbrev Known : ℕ → MessageValue → Type 0
  Known n y = (text : Text) × IsRead3164 BeforeBlank dating text y × Reaches variant dating input (suc n) (printed y)

  known : Known 0 m
  known = search rules

  -- the next round, which has an exception itself
  next_known : (n : ℕ) (y z : MessageValue) → Known n y → IsRead3164 BeforeBlank dating (printed_3164 y) z
      → (HasNoQuirk dash_rule z → ⊥) → Known (suc n) z
  next_known n y z (text, before, reaches) again odd =
      let same = printed_3164_is y (read_near BeforeBlank dating text y before).protocol in
      let read : IsRead variant dating (printed y) z = rw same
      (as_variant variant dating y z (rw e at (read_protocol variant dating input m r)) again) in (
        printed y,
        rw same again,
        reached_next variant dating input (suc n) (printed y) (printed z) reaches
            (λ l. odd_unsettled variant dating (printed y) z read
            (read_near BeforeBlank dating (printed_3164 y) z again).protocol odd)
            (record { message = z; read = read; is_printed = refl }),
      )

  known_later : (n : ℕ) (y : MessageValue) (later : Text) → Known n y → later ≡ printed y → Prints m y
      → IsLater variant dating input m later
  known_later n y later (text, read, reaches) is prints = search rules

  -- ---- rounds in which a host loses its colons
  module _ (stamp : IfSome m.timestamp IsCanonicalStamp) where
    next_colons : (n : ℕ) (y : MessageValue) (h : Text) → Known n y → IfSome y.timestamp IsCanonicalStamp
        → y.hostname ≡ Some (h ++ colon) → EndsInColon h
        → Known (suc n) (read_with y (names (Some h) None None) (58 ∷ tail_text y.structured_data y.msg))
    next_colons n y h k s is o =
        next_known n y _ k (colon_read dating k.0 y k.1 h s is o) (λ none. none.names.no_last_colon o)

    all_colons : (h : Text) (n : ℕ) → m.hostname ≡ Some (h ++ colons (suc n)) → EndsInColon h
        → Known (suc n) (past_colons m h n)
    unfolding message_end
    all_colons h zero is o = next_colons 0 m h known stamp is o
    all_colons h (suc n) is o =
        let before = all_colons (h ++ colon) n (is ∙ ap Some (sym (append_assoc h colon (colons (suc n))))) (h, refl) in
        rw (read_twice m (names (Some h) None None) (58 ∷ colons_before (suc n) (tail_text m.structured_data m.msg))) at
        (next_colons (suc n) (past_colons m (h ++ colon) n) h before stamp refl o)

    -- the host ends in n + 1 colons more than the given one, which ends in just one itself
    pub colons_later : (h : Text) (n : ℕ) → EndsColons m h (suc n) → EndsOnce h
        → IsLater variant dating input m (printed (past_colons m h n))
    colons_later h n k once =
        let odd : IfSome m.hostname (λ x. EndsInColon x → ⊥) → ⊥ = λ none. (rw k.hostname at none)
        (h ++ colons n, rw (append_assoc, repeat_sum colon n 1 (suc n) (omega arith)) refl) in
        let none : HasNoNameQuirk m → ⊥ = λ q. odd q.names.no_last_colon in
        let prints : Prints m (past_colons m h n) = search (rules, none) in
        known_later (suc n) (past_colons m h n) _ (all_colons h n k.hostname k.keeps) refl prints

  -- ---- rounds in which a message part loses its dashes
  next_dash : (n : ℕ) (y : MessageValue) (u next : Text) → Known n y → HasNoNameQuirk y → y.structured_data ≡ []
      → IsDashed y.msg u → IsDashed u next → Known (suc n) (read_with y (names_of y) u)
  next_dash n y u next k none es d f = next_known n y _ k (dash_read dating k.0 y k.1 u none es d)
      (λ none. (none.no_list refl).0 (f.blanks ++ next) f.whole (dash_before f.blanks next f.some f.each))

  module _ (none : HasNoNameQuirk m) (es : m.structured_data ≡ []) where
    more_dashes : (n : ℕ) (before u next : Text) → Known (suc n) (read_with m (names_of m) before) → IsDashed before u
        → IsDashed u next → Known (suc (suc n)) (read_with m (names_of m) u)
    more_dashes n before u next k d f =
        rw (read_twice m (names_of m) u) at
        (next_dash (suc n) (read_with m (names_of m) before) u next k
        (record { timestamp = none.timestamp; names = none.names }) refl d f)

    all_dashes : (n : ℕ) (u : Text) → PassesDashes (suc n) m.msg u → Known (suc n) (read_with m (names_of m) u)
    all_dashes zero u (before, is, d, next, f) = next_dash 0 m u next known none es (rw is at d) f
    all_dashes (suc n) u (before, p, d, next, f) = more_dashes n before u next (all_dashes n before p) d f

  -- the last of these dashes is the last that has blanks after it; where none is passed, no more need be known
  pub dashes_later : (n : ℕ) (u : Text) → PassesDashes n m.msg u
      → (0 < n → HasNoNameQuirk m × (m.structured_data ≡ []))
      → (HasNoNameQuirk m → m.structured_data ≡ [] → (p q : Text) → IsDashed u p → IsDashed p q → ⊥)
      → (IfSome m.timestamp IsCanonicalStamp → IfSome m.hostname EndsOnce)
      → IsLater variant dating input m (printed (with_msg m u))
  dashes_later zero u is some last once =
      known_later 0 m _ known (ap (λ (x : Text). printed (with_msg m x)) is) (search (rules, rw is at last))
  dashes_later (suc n) u p some last once =
      let (none, es) = some (omega arith) in
      let same : printed (with_msg m u) ≡ printed (read_with m (names_of m) u) = printed_3164_is (with_msg m u) e
      ∙ sym (printed_same (with_msg m u) (read_with m (names_of m) u)
      (priority_again (priority_of m) (priority_small m)) refl refl refl (sym es) refl) in
      known_later (suc n) (read_with m (names_of m) u) _ (all_dashes none es n u p) same
      (search (rules, passes_dashed n m.msg u p, last none es))

-- ---- what the code finds and writes

pub dash_told : (t q : Text) (f : Front (exactly (45 ∷ [])) t q tt) (r : Option (Bor (List ℕ))) → Skips
    (some_run is_blank) tt q r → MatchOption r ((rest : Text) → IsDashed t rest → ⊥) (λ x. IsDashed t (shown x))
dash_told t q f None n = λ rest d. n d.blanks rest tt (cc (begins 45 t q f)) (d.some, d.each, d.no_more)
dash_told t q f (Some x) g =
    record { blanks = g.piece; whole = cc (begins 45 t q f); some = g.is.0; each = g.is.1; no_more = g.is.2 }

-- n dashes, each with a space after it
abbrev pub spaced_dashes : ℕ → Text
spaced_dashes n = repeat n (45 ∷ 32 ∷ [])

one_dashed : (t next : Text) → IsDashed t next → IsDashed (45 ∷ 32 ∷ t) t
one_dashed t next d = record {
  blanks = 32 ∷ [];
  whole = refl;
  some = omega arith;
  each = (refl, tt);
  no_more = subst (Ends is_blank) (sym d.whole) refl;
}

pub passes_spaced : (n : ℕ) (t next : Text) → IsDashed t next → PassesDashes n (spaced_dashes n ++ t) t
passes_spaced zero t next d = refl
passes_spaced (suc n) t next d =
    let one = one_dashed t next d in
    let more : spaced_dashes (suc n) ++ t ≡ spaced_dashes n ++ (45 ∷ 32 ∷ t) =
    ap (λ (x : Text). x ++ t) (sym (repeat_sum (45 ∷ 32 ∷ []) n 1 (suc n) (omega arith)))
    ∙ append_assoc (spaced_dashes n) (45 ∷ 32 ∷ []) t in
    (45 ∷ 32 ∷ t, rw more (passes_spaced n (45 ∷ 32 ∷ t) t one), one, next, d)

pub passes_both : (m n : ℕ) (a b t : Text) → PassesDashes m a b → PassesDashes n b t → (k : ℕ) × PassesDashes k a t
passes_both m zero a b t p q = (m, subst (λ (x : Text). PassesDashes m a x) (sym q) p)
passes_both m (suc n) a b t p (before, q, d, next, f) =
    let (k, r) = passes_both m n a b before p q in (suc k, (before, r, d, next, f))

-- what `strip_prefix` of dashes gives
pub dashes_front : (bytes rest : List ℕ) (n : ℕ) → IsUtf8 bytes → IsUtf8 rest
    → StripsPrefix (FindsTextPrefix (spaced_dashes n)) bytes rest → chars bytes ≡ spaced_dashes n ++ chars rest
unfolding encode_utf8
dashes_front bytes rest n u v (k, (long, whole, cut), after_is, fits) =
    sym (chars_from_encodes (spaced_dashes n ++ chars rest) bytes u
    (rw (encodes-append, repeat_alone (45 ∷ 32 ∷ []) n refl, encodes-chars rest v, after_is) (sym whole)))

pub some_next : (t : Text) (A : Type 0) (r : Option (Bor (List ℕ))) → is_some r ≡ true
    → MatchOption r A (λ x. IsDashed t (shown x)) → (next : Text) × IsDashed t next
some_next t A None h m = absurd (let u : false ≡ true = h in cc)
some_next t A (Some x) h m = (shown x, m)

-- ---- the end of a line
some_end : (t : Text) (bytes : List ℕ) → encode_utf8_all t ≡ bytes → 0 < length bytes
    → encode_utf8_all (message_end t) ≡ 32 ∷ bytes
unfolding message_end encode_utf8
some_end [] bytes e l = absurd (let k = ap length e in omega (arith, k, l))
some_end (c ∷ cs) bytes e l = ap (λ (x : List ℕ). 32 ∷ x) e

pub ends_empty : (old bytes : List ℕ) → length bytes ≡ 0 → old ≡ old ++ encode_utf8_all (message_end (chars bytes))
unfolding message_end
ends_empty old bytes l = rw (nil_from_length (chars bytes) (chars_empty bytes l), append-nil) refl

pub ends_some : (old bytes : List ℕ) → IsUtf8 bytes → 0 < length bytes
    → (old ++ (32 ∷ [])) ++ bytes ≡ old ++ encode_utf8_all (message_end (chars bytes))
ends_some old bytes u l = rw (some_end (chars bytes) bytes (encodes-chars bytes u) l) (append_assoc old (32 ∷ []) bytes)

-- ---- a tail of elements and a message part
pub tail_pushed : (old mid new : List ℕ) (es : List ElementValue) (msg : Text) → (es ≡ [] → ⊥)
    → mid ≡ old ++ (32 ∷ encode_utf8_all (elements_text es)) → new ≡ mid ++ encode_utf8_all (message_end msg)
    → new ≡ old ++ encode_utf8_all (tail_text es msg)
unfolding encode_utf8
tail_pushed old mid new [] msg n e f = absurd (n refl)
tail_pushed old mid new (x ∷ es) msg n e f = search (rules, encodes-append, append_assoc)

-- what `strip_suffix` of a text gives
pub suffix_bytes : (run bytes short : List ℕ) → StripsSuffix (FindsTextSuffix run) bytes short → bytes ≡ short ++ run
suffix_bytes run bytes short (n, (long, whole, cut), front_is, fits) =
    whole ∙ ap (λ (x : List ℕ). x ++ run) (sym front_is)

pub cut_on : (name host shorter : List ℕ) (c n : ℕ) → CutsColons name host c → host ≡ shorter ++ colons n
    → (0 < c + n → EndsInColon shorter) → CutsColons name shorter (c + n)
cut_on name host shorter c n k e o =
    record { whole = rw (k.whole, e, append_assoc, repeat_sum colon n c (c + n) (omega arith)) refl; keeps = o }

cut_twice : (name host shorter : List ℕ) (c n : ℕ) → CutsColons name host c → CutsColons host shorter n
    → CutsColons name shorter (c + n)
cut_twice name host shorter c zero k l = search rules
cut_twice name host shorter c (suc n) k l = cut_on name host shorter c (suc n) k l.whole (λ p. l.keeps (omega arith))

repeat_ascii : (n : ℕ) → IsAscii (colons n)
repeat_ascii zero = IsAscii-nil
repeat_ascii (suc n) = IsAscii-append colon (colons n) colon_ascii (repeat_ascii n)

-- the same by characters
pub cut_chars : (name host shorter : List ℕ) (c n : ℕ) → IsUtf8 shorter → CutsColons name host c
    → CutsColons host shorter n → CutsColons (chars name) (chars shorter) (c + n)
cut_chars name host shorter c n u k l =
    let both = cut_twice name host shorter c n k l in
    search (rules, both, chars-append, chars-IsAscii, repeat_ascii, colon_end)

pub once_chars : (bs : List ℕ) → IsUtf8 bs → EndsOnce bs → EndsOnce (chars bs)
once_chars bs u n front e (g, f) =
    let bytes = λ (t : Text). encodes-append t colon ∙ ap (λ (x : List ℕ). encode_utf8_all t ++ x)
    (encodes-IsAscii colon colon_ascii) in
    n (encode_utf8_all front) (sym (encodes-chars bs u) ∙ ap encode_utf8_all e ∙ bytes front)
    (encode_utf8_all g, ap encode_utf8_all f ∙ bytes g)

-- dashes are followed by one text
pub last_of_all : {t rest : Text} → IsDashed t rest → ((next : Text) → IsDashed rest next → ⊥) → (p q : Text)
    → IsDashed t p → IsDashed p q → ⊥
last_of_all {rest = rest} d none p q e f =
    let whole : d.blanks ++ rest ≡ e.blanks ++ p = (let a = d.whole in let b = e.whole in cc) in
    let same = (front_same (run is_blank) (run_det is_blank)
    (piece_front (run is_blank) d.blanks rest tt (d.each, d.no_more))
    (record { piece = e.blanks; whole = whole; is = (e.each, e.no_more) })).0 in
    none q (subst (λ (x : Text). IsDashed x q) (sym same) f)

-- ---- what was written
module _ (variant : Variant) (dating : Dating) (input : Text) (m : MessageValue) where
  pub later_printed : (t : Text) (bytes : List ℕ) → IsUtf8 bytes → bytes ≡ encode_utf8_all t
      → IsLater variant dating input m t → IsLater variant dating input m (chars bytes)
  later_printed t bytes u w later = rw (← chars_from_encodes t bytes u (sym w)) later

  pub later_written : (h : Text) (cut : ℕ) (bytes : List ℕ) → IsUtf8 bytes → IsRead variant dating input m → m.protocol
      ≡ protocol.RFC3164 → EndsColons m h cut → 0 < cut → EndsOnce h → bytes ≡ encode_utf8_all
      (printed (past_colons m h (cut - 1))) → IsLater variant dating input m (chars bytes)
  later_written h cut bytes u r e k l once w =
      let same : cut ≡ suc (cut - 1) = omega (arith, l) in
      later_printed (printed (past_colons m h (cut - 1))) bytes u w
      (colons_later variant dating input m r e k.timestamp h (cut - 1) (rw same at k) once)

-- the message with this host and a colon as its message part, without other names and without elements
abbrev pub colon_alone : MessageValue → Text → MessageValue
colon_alone m h = record m {
  protocol = protocol.RFC3164;
  hostname = Some h;
  appname = None;
  procid = None;
  msgid = None;
  structured_data = [];
  msg = colon;
}

-- it prints as the later message begins
colon_first : (m : MessageValue) (h : Text) (n : ℕ) → printed_3164 (past_colons m h n)
    ≡ printed_3164 (colon_alone m h) ++ colons_before n (tail_text m.structured_data m.msg)
unfolding printed_3164
colon_first m h n = rw (priority_again (priority_of m) (priority_small m)) (simp append_assoc refl)

pub past_written : (m : MessageValue) (h : Text) (n : ℕ) (start mid bytes : List ℕ)
    → start ≡ encode_utf8_all (printed_3164 (colon_alone m h)) → mid ≡ start ++ colons_before n []
    → bytes ≡ mid ++ encode_utf8_all (tail_text m.structured_data m.msg)
    → bytes ≡ encode_utf8_all (printed_3164 (past_colons m h n))
unfolding encode_utf8
past_written m h n start mid bytes first more e = rw (
  colon_first m h n,
  encodes-append,
  encodes-append,
  repeat_alone (32 ∷ 58 ∷ []) n refl,
) (rw (more, first, append-nil, append_assoc) at e)
