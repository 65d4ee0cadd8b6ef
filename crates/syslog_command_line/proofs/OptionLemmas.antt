-- Flags in any order before a date.
use Rattle.syslog_command_line.proofs.Names.{◌≡◌, ◌≢◌, ◌<◌, ◌∷◌, ◌++◌, ◌∙◌, ℕ, ℤ, [], List, MatchOption, None, Option}
use Rattle.syslog_command_line.proofs.Names.{Some, append_assoc, ap, arith, get_or, inl, inr, length, pos, refl, subst}
use Rattle.syslog_command_line.proofs.Names.{sym, true, false}
use Rattle.std.proofs.Common.{All, Bool, Bor, Contains, IsSomeAnd, flat_map, is_some, set, unwrap_or, ◌⊎◌}
use Rattle.std.proofs.lemmas.{Bool.cases_eq, List.flat_map_more, List.length-append, List.length-set}
use Rattle.std.proofs.lemmas.List.{get_or_append_left, get_or-set_other, get_or-set_same}
use Rattle.std.proofs.lemmas.List.Elements.{All-push, Contains-append_left, Contains-push}
use Rattle.std.proofs.lemmas.List.Quantifiers.{all_pairs_push}
use Rattle.std.proofs.Math.Seq.{get_or-append_seam}
use Rattle.syslog_command_line.proofs.FlagLemmas.{flag_no_date, number_within, one_beginning, same_by_number}
use Rattle.syslog_command_line.proofs.FlagLemmas.{same_by_word}
use Rattle.syslog_command_line.proofs.WordLemmas.{among_later}
use Rattle.jiff.specs.Types.{TimeZone}
use Rattle.jiff.specs.declared.tz.timezone.TimeZone.{TimeZone as Held}
use Rattle.jiff.specs.Placed.{IsPosixZone}
use Rattle.jiff.specs.Words.{plain_zone}
use Rattle.syslog_loose.specs.Reckoning.{IsZoneAt}
use Rattle.syslog_loose.specs.declared.today.Today.{Today}
use Rattle.syslog_command_line.specs.Arguments.{NamesOffset}
use Rattle.syslog_command_line.specs.Flags.{IsValue, flag_number, flag_word, rival}
use Rattle.syslog_command_line.specs.Given.{AreNoFlagsAndDate, BeginsWith, BeginsWithNone, Holds, SplitsWords, value_at}
use Rattle.syslog_command_line.specs.Options.{AreFlagsAndDate, AsksForOptions, ByFlag, CanBeGiven, GivenFlag}
use Rattle.syslog_command_line.specs.Options.{GoTogether, IsZoneGiven, IsGivenAs, IsLeftOut, given_words, value_words}
use Rattle.syslog_command_line.specs.Words.{AreDateWords, IsAmong}
use Rattle.syslog_command_line.specs.declared.flags.Flag.{Flag}
use Rattle.syslog_command_line.specs.declared.flags.Flag.TheVariants.{Offset, Zone}
use Rattle.syslog_command_line.specs.declared.given.Given.{Given}
use Rattle.syslog_command_line.specs.declared.options.Options.{Options}
use Rattle.syslog_command_line.specs.declared.words.Wrong.{Wrong}

-- ---- flags that can be given, and one more

can_be_more : (offered : List Flag) (given : List GivenFlag) (one : GivenFlag) → CanBeGiven offered given
    → Contains offered one.flag → IsValue one.flag one.value → All (λ other. GoTogether other one) given
    → CanBeGiven offered (given ++ one ∷ [])
can_be_more offered given one can has is beside = record {
  known = All-push (λ (it : GivenFlag). Contains offered it.flag) given one can.known has;
  valued = All-push (λ (it : GivenFlag). IsValue it.flag it.value) given one can.valued is;
  together = all_pairs_push GoTogether given one can.together beside;
}

can_be_one : (offered : List Flag) (given more : List GivenFlag) (one : GivenFlag)
    → CanBeGiven offered (given ++ one ∷ more)
    → Contains offered one.flag × IsValue one.flag one.value × All (λ other. GoTogether other one) given
can_be_one offered given more one can =
    let long : length given < length (given ++ one ∷ more) = omega (arith, length-append given (one ∷ more)) in
    let here : (d : GivenFlag) → get_or (given ++ one ∷ more) (length given) d ≡ one =
    λ d. get_or-append_seam given one more d in (
      subst (λ (it : GivenFlag). Contains offered it.flag) (here one) (can.known (length given) one long),
      subst (λ (it : GivenFlag). IsValue it.flag it.value) (here one) (can.valued (length given) one long),
      λ k d within. subst (λ (it : GivenFlag). GoTogether it one) (get_or_append_left given (one ∷ more) d k within)
          (subst (λ (it : GivenFlag). GoTogether (get_or (given ++ one ∷ more) k d) it) (here d)
          (can.together k (length given) d within long)),
    )

-- ---- what is held

-- a flag with its value
abbrev pub given_as : Flag → List ℕ → GivenFlag
given_as flag value = record { flag = flag; value = value }

-- what a flag has
abbrev Has : List GivenFlag → Flag → Option (Bor (List ℕ)) → Type 0
Has given flag o = MatchOption o (IsLeftOut given flag) (λ value. IsGivenAs given flag value.now)

left_out : (given : List GivenFlag) (flag : Flag) (o : Option (Bor (List ℕ))) → Has given flag o → o ≡ None
    → IsLeftOut given flag
left_out given flag None held none = held
left_out given flag (Some value) held none = cc

none_held : (given : List GivenFlag) (flag : Flag) (o : Option (Bor (List ℕ))) → Has given flag o
    → IsLeftOut given flag → o ≡ None
none_held given flag None held out = refl
none_held given flag (Some value) (k, within, is) out =
    absurd (out k (record { flag = flag; value = value.now }) within (ap (λ (it : GivenFlag). it.flag) is))

one_more : (given : List GivenFlag) (one : GivenFlag) (flag : Flag) (o : Option (Bor (List ℕ))) → one.flag ≢ flag
    → Has given flag o → Has (given ++ one ∷ []) flag o
one_more given one flag None apart out = All-push (λ (it : GivenFlag). it.flag ≢ flag) given one out apart
one_more given one flag (Some value) apart at =
    Contains-append_left given (one ∷ []) (record { flag = flag; value = value.now }) at

-- one more flag is held
held_more : (held after : Given) (given : List GivenFlag) (flag : Flag) (value : Bor (List ℕ)) → Holds held given
    → IsValue flag value.now → after.values ≡ set held.values (flag_number flag) (Some value)
    → Holds after (given ++ given_as flag value.now ∷ [])
held_more held after given flag value holds is same = record {
  size = rw same (length-set held.values (flag_number flag) (Some value) ∙ holds.size);
  each = λ other. each other (cases_eq (flag_number other) (flag_number flag));
  valued = All-push (λ (it : GivenFlag). IsValue it.flag it.value) given (given_as flag value.now) holds.valued is;
}
  where
    here : value_at after flag ≡ Some value
    here = ap (λ (vs : List (Option (Bor (List ℕ)))). get_or vs (flag_number flag) None) same
        ∙ get_or-set_same held.values (flag_number flag) (Some value) None (rw holds.size (number_within flag))

    elsewhere : (other : Flag) → flag_number other ≢ flag_number flag → value_at after other ≡ value_at held other
    elsewhere other apart = ap (λ (vs : List (Option (Bor (List ℕ)))). get_or vs (flag_number other) None) same
        ∙ get_or-set_other held.values (flag_number flag) (flag_number other) (Some value) None apart

    each : (other : Flag) → (flag_number other ≡ flag_number flag) ⊎ (flag_number other ≢ flag_number flag)
        → Has (given ++ given_as flag value.now ∷ []) other (value_at after other)
    each other (inl number) = subst (λ (f : Flag). Has (given ++ given_as flag value.now ∷ []) f (value_at after f))
        (sym (same_by_number other flag number))
        (subst (λ (o : Option (Bor (List ℕ))). Has (given ++ given_as flag value.now ∷ []) flag o) (sym here)
        (Contains-push given (given_as flag value.now)))
    each other (inr apart) = subst (λ (o : Option (Bor (List ℕ))). Has (given ++ given_as flag value.now ∷ []) other o)
        (sym (elsewhere other apart))
        (one_more given (given_as flag value.now) other (value_at held other) (λ same_flag. apart
        (ap flag_number (sym same_flag)))
        (holds.each other))

-- ---- the flag that begins the words

-- where the first word is a flag's, it is this flag that begins them
this_flag : (offered : List Flag) (held : Given) (flag : Flag) (words tail : List (List ℕ)) (one : GivenFlag)
    (rest : List (List ℕ)) → words ≡ flag_word flag ∷ tail → BeginsWith offered held words one rest
    → (one.flag ≡ flag) × (tail ≡ value_words flag one.value ++ rest)
this_flag offered held flag words tail one rest first begins =
    let both : flag_word one.flag ∷ (value_words one.flag one.value ++ rest) ≡ flag_word flag ∷ tail =
    sym begins.listed ∙ first in
    let same : one.flag ≡ flag =
    same_by_word one.flag flag (ap (λ (ws : List (List ℕ)). get_or ws 0 []) both) in
    let after : value_words one.flag one.value ++ rest ≡ tail = cc in
    (same, sym (subst (λ (f : Flag). value_words f one.value ++ rest ≡ tail) same after))

pub none_valued : (offered : List Flag) (held : Given) (flag : Flag) (words tail : List (List ℕ))
    → words ≡ flag_word flag ∷ tail
    → ((value : List ℕ) (rest : List (List ℕ)) → IsValue flag value → tail ≡ value_words flag value ++ rest → ⊥)
    → BeginsWithNone offered held words
none_valued offered held flag words tail first none one rest begins =
    let (same, after) = this_flag offered held flag words tail one rest first begins in
    none one.value rest (subst (λ (f : Flag). IsValue f one.value) same begins.valued) after

-- ---- the loop over the words

-- these flags were read and are held, and whatever flags and a date the words are, they begin with these
pub record ReadSoFar (offered : List Flag) (words : List (List ℕ)) (held : Given) (rest : List (List ℕ)) : Type 0 where
  pub given : List GivenFlag
  pub listed : words ≡ flat_map given_words given ++ rest
  pub allowed : CanBeGiven offered given
  pub holds : Holds held given
  pub goes_on : (flags : List GivenFlag) (today : Today)
      → (all : AreFlagsAndDate offered words flags today)
      → (more : List GivenFlag) × (flags ≡ given ++ more) × (rest ≡ flat_map given_words more ++ all.rest)

-- after one more flag
goes_on_more : (offered : List Flag) (given flags : List GivenFlag) (one : GivenFlag) (rest left last : List (List ℕ))
    (today : Today) → IsValue one.flag one.value → rest ≡ given_words one ++ left
    → CanBeGiven offered flags → AreDateWords last today → (more : List GivenFlag) → flags ≡ given ++ more
    → rest ≡ flat_map given_words more ++ last
    → (after : List GivenFlag) × (flags ≡ (given ++ one ∷ []) ++ after) × (left ≡ flat_map given_words after ++ last)
goes_on_more offered given flags one rest left last today is begins can dated [] same listed =
    absurd (flag_no_date one.flag last (value_words one.flag one.value ++ left) today (sym listed ∙ begins) dated)
goes_on_more offered given flags one rest left last today is begins can dated (other ∷ more) same listed =
    let (has, is_other, beside) =
    can_be_one offered given more other (subst (λ (them : List GivenFlag). CanBeGiven offered them) same can) in
    let both : given_words one ++ left ≡ given_words other ++ (flat_map given_words more ++ last) =
    sym begins ∙ listed ∙ append_assoc (given_words other) (flat_map given_words more) last in
    let (is_it, after) = one_beginning one other left (flat_map given_words more ++ last) is is_other both in (
      more,
      same ∙ ap (λ (it : GivenFlag). given ++ it ∷ more) (sym is_it) ∙ sym (append_assoc given (one ∷ []) more),
      after,
    )

pub ReadSoFar-more : (offered : List Flag) (words : List (List ℕ)) (held after : Given) (rest left : List (List ℕ))
    (flag : Flag) (value : Bor (List ℕ)) → ReadSoFar offered words held rest
    → BeginsWith offered held rest (record { flag = flag; value = value.now }) left
    → after.values ≡ set held.values (flag_number flag) (Some value) → ReadSoFar offered words after left
ReadSoFar-more offered words held after rest left flag value so_far begins added =
    let new : IsLeftOut so_far.given flag =
    left_out so_far.given flag (value_at held flag) (so_far.holds.each flag) begins.new in
    let unopposed : IsLeftOut so_far.given (rival flag) =
    left_out so_far.given (rival flag) (value_at held (rival flag)) (so_far.holds.each (rival flag)) begins.unopposed in
    record {
      given = so_far.given ++ record { flag = flag; value = value.now } ∷ [];
      listed = so_far.listed ∙ ap (λ (ws : List (List ℕ)). flat_map given_words so_far.given ++ ws) begins.listed
          ∙ sym (append_assoc (flat_map given_words so_far.given)
          (given_words (record { flag = flag; value = value.now })) left)
          ∙ ap (λ (ws : List (List ℕ)). ws ++ left)
          (flat_map_more given_words [] so_far.given (record { flag = flag; value = value.now }));
      allowed = can_be_more offered so_far.given (record { flag = flag; value = value.now }) so_far.allowed begins.known
          begins.valued (λ k d within. (new k d within, unopposed k d within));
      holds = held_more held after so_far.given flag value so_far.holds begins.valued added;
      goes_on = λ flags today all.
          let (more, same, listed) = so_far.goes_on flags today all in
          goes_on_more offered so_far.given flags (record { flag = flag; value = value.now }) rest left all.rest today
          begins.valued begins.listed all.allowed all.dated more same listed;
    }

date_left : (offered : List Flag) (words : List (List ℕ)) (held : Given) (rest last : List (List ℕ)) (today : Today)
    (flags : List GivenFlag) → (so_far : ReadSoFar offered words held rest)
    → BeginsWithNone offered held rest → CanBeGiven offered flags → AreDateWords last today
    → (more : List GivenFlag) → flags ≡ so_far.given ++ more → rest ≡ flat_map given_words more ++ last
    → AreDateWords rest today
date_left offered words held rest last today flags so_far none can dated [] same listed =
    subst (λ (ws : List (List ℕ)). AreDateWords ws today) (sym listed) dated
date_left offered words held rest last today flags so_far none can dated (one ∷ more) same listed =
    let (has, is, beside) =
    can_be_one offered so_far.given more one (subst (λ (them : List GivenFlag). CanBeGiven offered them) same can) in
    absurd (none one (flat_map given_words more ++ last) (record {
      known = has;
      valued = is;
      new = none_held so_far.given one.flag (value_at held one.flag) (so_far.holds.each one.flag)
          (λ k d within. (beside k d within).0);
      unopposed = none_held so_far.given (rival one.flag) (value_at held (rival one.flag))
          (so_far.holds.each (rival one.flag)) (λ k d within. (beside k d within).1);
      listed = listed ∙ append_assoc (given_words one) (flat_map given_words more) last;
    }))

pub ReadSoFar-end : (offered : List Flag) (words : List (List ℕ)) (held : Given) (rest : List (List ℕ))
    → ReadSoFar offered words held rest → BeginsWithNone offered held rest → SplitsWords offered words held rest
ReadSoFar-end offered words held rest so_far none = record {
  given = so_far.given;
  listed = so_far.listed;
  allowed = so_far.allowed;
  holds = so_far.holds;
  dated = λ flags today all.
      let (more, same, listed) = so_far.goes_on flags today all in
      date_left offered words held rest all.rest today flags so_far none all.allowed all.dated more same listed;
}

pub ReadSoFar-wrong : (offered : List Flag) (words : List (List ℕ)) (held : Given) (rest : List (List ℕ))
    (wrong : Wrong)
    → ReadSoFar offered words held rest → IsAmong rest wrong
    → (flag : Flag) × (after : List (List ℕ)) × (rest ≡ flag_word flag ∷ after) → BeginsWithNone offered held rest
    → IsAmong words wrong × AreNoFlagsAndDate offered words
ReadSoFar-wrong offered words held rest wrong so_far among (flag, after, first) none = (
  among_later (flat_map given_words so_far.given) rest words wrong so_far.listed among,
  λ flags today all. flag_no_date flag rest after today first
      ((ReadSoFar-end offered words held rest so_far none).dated flags today all),
)

-- ---- what was asked for

-- a value that was given is one of the flag's
is_valid : (given : List GivenFlag) (flag : Flag) (text : List ℕ) → IsGivenAs given flag text
    → All (λ one. IsValue one.flag one.value) given → IsValue flag text
is_valid given flag text (k, within, is) valued =
    subst (λ (it : GivenFlag). IsValue it.flag it.value) is (valued k (record { flag = flag; value = text }) within)

module _ (given : List GivenFlag) (flag : Flag) where
  pub by_flag : (held : Given) (With : List ℕ → Type 0) (Without : Type 0) → Holds held given
      → ((value : Bor (List ℕ)) → value_at held flag ≡ Some value → IsValue flag value.now → With value.now)
      → (value_at held flag ≡ None → Without) → ByFlag given flag With Without
  by_flag held With Without holds is out =
      by_value (value_at held flag) With Without (holds.each flag)
      (λ value same at. is value same (is_valid given flag value.now at holds.valued)) out
    where
      by_value : (o : Option (Bor (List ℕ))) (With : List ℕ → Type 0) (Without : Type 0) → Has given flag o
          → ((value : Bor (List ℕ)) → o ≡ Some value → IsGivenAs given flag value.now → With value.now)
          → (o ≡ None → Without) → ByFlag given flag With Without
      by_value (Some value) With Without at is out = inl (value.now, at, is value refl at)
      by_value None With Without left is out = inr (left, out refl)

  -- the same where it is asked for
  pub by_has : (held : Given) (With : List ℕ → Type 0) (Without : Type 0) → Holds held given → (has : Bool)
      → has ≡ is_some (value_at held flag) → (has ≡ true → (text : List ℕ) → With text) → (has ≡ false → Without)
      → ByFlag given flag With Without
  by_has held With Without holds has is given_so left_so = by_flag held With Without holds
      (λ value same valid. given_so (is ∙ ap (λ (o : Option (Bor (List ℕ))). is_some o) same) value.now)
      (λ none. left_so (is ∙ ap (λ (o : Option (Bor (List ℕ))). is_some o) none))

  -- what a reader returns of the value that was given
  pub by_reader : {X : Type 0} (Names : List ℕ → X → Type 0) (Wrong : List ℕ → Type 0)
      → ((text : List ℕ) → Wrong text → IsValue flag text → ⊥) → (held : Given) (r : Option X) → Holds held given
      → MatchOption (value_at held flag) (r ≡ None) (λ text. MatchOption r (Wrong text.now) (λ x. Names text.now x))
      → ByFlag given flag (λ text. IsSomeAnd r (λ x. Names text x)) (r ≡ None)
  by_reader {X} Names Wrong unless held r holds = read_of (value_at held flag) r (holds.each flag)
    where
      read_of : (o : Option (Bor (List ℕ))) (r : Option X) → Has given flag o
          → MatchOption o (r ≡ None) (λ text. MatchOption r (Wrong text.now) (λ x. Names text.now x))
          → ByFlag given flag (λ text. IsSomeAnd r (λ x. Names text x)) (r ≡ None)
      read_of None r left none = inr (left, none)
      read_of (Some value) (Some x) at is = inl (value.now, at, is)
      read_of (Some value) None at wrong =
          absurd (unless value.now wrong (is_valid given flag value.now at holds.valued))

  pub text_given : (o answer : Option (Bor (List ℕ))) → Has given flag o → answer ≡ o
      → ByFlag given flag (λ text. IsSomeAnd answer (λ it. it.now ≡ text)) (answer ≡ None)
  text_given (Some value) answer held is =
      inl (value.now, held, subst (λ (r : Option (Bor (List ℕ))). IsSomeAnd r (λ it. it.now ≡ value.now)) (sym is) refl)
  text_given None answer held is = inr (held, is)

-- and where another is taken for none
pub or_usual : {X : Type 0} (Names : List ℕ → X → Type 0) (given : List GivenFlag) (flag : Flag) (r : Option X)
    (usual : X) → ByFlag given flag (λ text. IsSomeAnd r (λ x. Names text x)) (r ≡ None)
    → ByFlag given flag (λ text. Names text (unwrap_or r usual)) (unwrap_or r usual ≡ usual)
or_usual Names given flag (Some x) usual (inl is) = inl is
or_usual Names given flag (Some x) usual (inr (left, none)) = cc
or_usual Names given flag None usual (inl (text, at, none)) = absurd none
or_usual Names given flag None usual (inr (left, none)) = inr (left, refl)

-- the zone, by the offset that was named
pub zone_by : (given : List GivenFlag) (offset : ℤ) (zone : TimeZone)
    → ByFlag given Offset (λ text. NamesOffset text offset) (offset ≡ pos 0) → IsZoneAt offset zone
    → ByFlag given Offset (λ text. (seconds : ℤ) × NamesOffset text seconds × IsZoneAt seconds zone)
    (IsZoneAt (pos 0) zone)
zone_by given offset zone (inl (text, at, named)) is = inl (text, at, (offset, named, is))
zone_by given offset zone (inr (left, none)) is = inr (left, subst (λ (z : ℤ). IsZoneAt z zone) none is)

-- or by the rule that was
pub zone_by_rule : (given : List GivenFlag) (found : Option Held) (held : Held) (zone : TimeZone) → found ≡ Some held
    → zone ≡ plain_zone held
    → ByFlag given Zone (λ text. IsSomeAnd found (λ it. IsPosixZone text (plain_zone it))) (found ≡ None)
    → IsZoneGiven given zone
zone_by_rule given found held zone some same (inl (text, at, is)) =
    let here : IsSomeAnd (Some held) (λ it. IsPosixZone text (plain_zone it)) =
    subst (λ (r : Option Held). IsSomeAnd r (λ it. IsPosixZone text (plain_zone it))) some is in
    inl (text, at, subst (IsPosixZone text) (sym same) here)
zone_by_rule given found held zone some same (inr (left, none)) = cc

pub zone_without_rule : (given : List GivenFlag) (found : Option Held) (offset : ℤ) (zone : TimeZone) → found ≡ None
    → ByFlag given Zone (λ text. IsSomeAnd found (λ it. IsPosixZone text (plain_zone it))) (found ≡ None)
    → ByFlag given Offset (λ text. NamesOffset text offset) (offset ≡ pos 0) → IsZoneAt offset zone
    → IsZoneGiven given zone
zone_without_rule given found offset zone none (inl (text, at, is)) named at_offset =
    absurd (subst (λ (r : Option Held). IsSomeAnd r (λ it. IsPosixZone text (plain_zone it))) none is)
zone_without_rule given found offset zone none (inr (left, same)) named at_offset =
    inr (left, zone_by given offset zone named at_offset)

-- no options, where no flags and date are
pub no_options : (offered : List Flag) (words : List (List ℕ)) → AreNoFlagsAndDate offered words → (options : Options)
    → AsksForOptions offered words options → ⊥
no_options offered words none options (given, today, are, so) = none given today are
