-- A line that is read into the caller's arrays.
use Rattle.syslog_c.proofs.Words.{List, list_elements, IsElement, all_params, ReadsInto, NoReading}
use Rattle.syslog_c.proofs.Words.{◌≡◌, ◌⊎◌, ◌<◌, ◌≤◌, ℕ, Option, None, Some, refl, arith, length, Text, Dating, IsParam}
use Rattle.syslog_c.proofs.Words.{◌∙◌, [], inl, inr, sym, subst, Outcome, Rules}
use Rattle.syslog_c.proofs.Words.{AreRules, IsUtf8, OnLine, Options, in_year_map}
use Rattle.syslog_c.proofs.LineLemmas.{tried_line}
use Rattle.std.specs.Str.{chars}
use Rattle.syslog_loose.specs.Dates.{IsDated}
use Rattle.std.proofs.lemmas.Bool.{cases_lt}
use Rattle.std.specs.Prelude.{Bool, MatchBool, MatchOption}
use Rattle.syslog_elements.specs.StructuredData.Element.{ElementValue}
use Rattle.syslog_loose.specs.Reading.{IsUnreadable}
use Rattle.syslog_loose.specs.Visit.{IsLineOf, Made}
use Rattle.syslog_loose.specs.declared.line.Line.{Line}
use Rattle.syslog_dialects.specs.Ordinary.{IsOrdinary}
use Rattle.syslog_dialects.specs.SentReading.{IsUnsent}
use Rattle.syslog_c.{specs.Arrays.HasPut, specs.Arrays.IsFilled, specs.declared.fields.Fields.Fields}
use Rattle.syslog_c.specs.Reported.{AreMeant, AreTaken}
use Rattle.syslog_elements.specs.StructuredData.Visited.{Visits}
use Rattle.syslog_elements.specs.declared.structured_data.recognised.ElementList.{ElementList}
use Rattle.syslog_c.{specs.OfLine.AreOfLine, specs.declared.arrays.Arrays.Arrays, specs.declared.fields.Element.Element}
use Rattle.syslog_c.{proofs.ArrayLemmas.begun_none, proofs.ArrayLemmas.begun_nothing, specs.declared.fields.Param.Param}
use Rattle.syslog_c.specs.declared.outcome.Outcome.TheVariants.{Done, NoRoom}

-- nothing is put yet
start : (a : Arrays) → a.count ≡ 0 → a.filled ≡ 0 → HasPut a a []
start a c f = record {
  same_elements = refl;
  same_params = refl;
  put = λ space. record {
    count = c;
    filled = f;
    elements = begun_none IsElement a.elements.now;
    params = begun_none IsParam a.params.now;
  };
}

too_many : (p m : ℕ) → (p ≤ m → ⊥) → m < p
too_many p m over = elim (cases_lt m p) [
  | inl more ↦ more
  | inr fits ↦ absurd (over fits)
]

too_few : (e p n m : ℕ) → (e ≤ n → p ≤ m → ⊥) → (n < e) ⊎ (m < p)
too_few e p n m over = elim (cases_lt n e) [
  | inl more ↦ inl more
  | inr fits ↦ inr (too_many p m (over fits))
]

-- what a reading leaves in the arrays is in the caller's, since they stay these
pub tried_arrays : {Stay : Type 0} (options : Options) (line : List ℕ) (rules : Rules) (outcome : Outcome)
    (old new : Fields) (old_es : List Element) (old_ps : List Param) (last : Arrays) (es : List Element)
    (ps : List Param) → AreRules options rules → IsUtf8 line
    → IsDated rules.dates rules.variant (chars line) (λ dating. Stay × ReadsInto rules dating (chars line) old new
    old_es last.elements.now old_ps last.params.now outcome)
    → (Stay → es ≡ last.elements.now) → (Stay → ps ≡ last.params.now)
    → OnLine options line outcome ((new ≡ old) × (es ≡ old_es) × (ps ≡ old_ps))
    (λ by dating text. ReadsInto by dating text old new old_es es old_ps ps outcome)
tried_arrays options line rules outcome old new old_es old_ps last es ps are utf8 holds same_elements same_params =
    let stay = (holds.holds holds.answered (λ date asks. refl)).0 in
    rw (same_elements stay, same_params stay) (inr (inr (tried_line
    (λ by dating text. ReadsInto by dating text old new old_es last.elements.now old_ps last.params.now outcome)
    options line line rules are (refl, utf8) (in_year_map (λ year h. h.1) holds))))

module _ (rules : Rules) (dating : Dating) (text : Text) (old mid new : Fields) (before after last : Arrays)
    (none_put : before.count ≡ 0) (none_filled : before.filled ≡ 0) where
  abbrev Reads : Option Bool → Type 0
  Reads found = Made (λ (_ : Fields) line (made : Bool) now.
      AreOfLine now None line × MatchBool made (IsOrdinary line) (IsOrdinary line → ⊥))
      (λ (first now : Arrays) es. HasPut first now es) rules.variant dating text old before found mid after

  -- the elements of a dialect's line were put, if there is one
  abbrev pub PutsOwn : Option ElementList → Type 0
  PutsOwn own = MatchOption own (last ≡ after)
      (λ list. Visits (λ (first now : Arrays) es. HasPut first now es) after (list_elements list) last)

  -- the arrays stay the caller's
  abbrev Stay : Type 0
  Stay = (last.elements.ghost_name ≡ before.elements.ghost_name) × (last.params.ghost_name ≡ before.params.ghost_name)

  abbrev Into : Outcome → Type 0
  Into outcome = ReadsInto rules dating text old new before.elements.now last.elements.now
      before.params.now last.params.now outcome

  -- where there is space for the elements, they are there; where there is too little, their numbers are
  into : (outcome : Outcome) (es : List ElementValue) → AreMeant rules dating text es new → HasPut before last es
      → IsFilled last new outcome → Into outcome
  into Done es meant given (e, p) =
      let all = subst (λ (xs : List ElementValue). HasPut before last xs) (sym meant.elements) given in
      let put = all.put record {
        elements = omega (arith, e, meant.are.elements);
        params = omega (arith, p, meant.are.params);
      } in
      inl (meant.dialect, meant.message, meant.only, meant.shown, meant.leaves, (meant.are, put.elements, put.params))
  into NoRoom es meant given over =
      let all = meant.message.structured_data in
      inl (
        meant.dialect,
        meant.message,
        meant.only,
        meant.shown,
        meant.leaves,
        (
          meant.are,
          too_few (length all) (length (all_params all)) (length last.elements.now) (length last.params.now)
              (λ e p. over (omega (arith, e, meant.are.elements)) (omega (arith, p, meant.are.params))),
        ),
      )
  into outcome es meant given none = absurd none

  put_own : (own : Option ElementList) (port es : List ElementValue) → HasPut before after port
      → MatchOption own (es ≡ port) (λ list. (port ≡ []) × (es ≡ list_elements list)) → PutsOwn own
      → HasPut before last es
  put_own None port es has same kept =
      subst (λ (a : Arrays). HasPut before a es) (sym kept) (subst (HasPut before after) (sym same) has)
  put_own (Some list) port es has (none, same) gives =
      subst (HasPut before last) (sym same) (gives before [] (subst (HasPut before after) none has))

  -- what the line of the port that was read gives
  abbrev pub Takes : Bool → Option ElementList → Type 0
  Takes is_ordinary own = (line : Line) → IsLineOf rules.variant dating text line
      → AreOfLine mid None line → MatchBool is_ordinary (IsOrdinary line) (IsOrdinary line → ⊥)
      → AreTaken rules dating text (list_elements line.list) own new

  abbrev Ends : Outcome → Type 0
  Ends outcome = Stay × Into outcome

  pub read_into : (is_ordinary : Bool) (own : Option ElementList) (outcome : Outcome) → Reads (Some is_ordinary)
      → Takes is_ordinary own → PutsOwn own → IsFilled last new outcome → Ends outcome
  read_into is_ordinary own outcome (line, of, (are, keeps), v) says puts filled =
      let (es, meant, which) = says line of are keeps in
      let put = put_own own (list_elements line.list) es (v before [] (start before none_put none_filled)) which puts in
      ((put.same_elements, put.same_params), into outcome es meant put filled)

  -- where the port reads no line, it is of a dialect
  pub unread_into : (list : ElementList) (outcome : Outcome) → Reads None
      → (IsUnreadable rules.variant dating text → AreMeant rules dating text (list_elements list) new)
      → PutsOwn (Some list) → IsFilled last new outcome → Ends outcome
  unread_into list outcome (none, same, v) says puts filled =
      let put = puts before [] (v before [] (start before none_put none_filled)) in
      ((put.same_elements, put.same_params), into outcome (list_elements list) (says none) put filled)

  -- or there is none, and all is as it was
  pub none_into : Reads None → last ≡ after → (IsUnreadable rules.variant dating text
      → IsUnsent rules.dates dating rules.dialects rules.variant text × (new ≡ mid)) → Ends NoReading
  none_into (none, same, v) kept says =
      let (unsent, is) = says none in
      let has = subst (λ (a : Arrays). HasPut before a []) (sym kept)
      (v before [] (start before none_put none_filled)) in
      let put = has.put record {
        elements = omega arith;
        params = omega arith;
      } in (
        (has.same_elements, has.same_params),
        inr (
          (refl, unsent),
          is ∙ same,
          begun_nothing IsElement _ _ put.elements,
          begun_nothing IsParam _ _ put.params,
        ),
      )
