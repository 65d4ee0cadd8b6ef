-- A line that is read.
use Rattle.syslog_c.proofs.Words.{ℕ, List, inl, inr, subst, IsUtf8, Dating, Text, Options, Outcome, OnLine, ◌≡◌}
use Rattle.syslog_c.proofs.Words.{AreRules, Rules, in_year_map}
use Rattle.std.specs.Str.{chars}
use Rattle.syslog_loose.specs.Dates.{IsDated}
use Rattle.syslog_c.specs.Line.{IsTried}
use Rattle.syslog_c.specs.declared.outcome.Outcome.TheVariants.{NotUtf8}

-- what holds of the text that the line's bytes are, as its dates are taken by the rules
pub tried_line : (Holds : Rules → Dating → Text → Type 0) (options : Options) (line bytes : List ℕ) (rules : Rules)
    → AreRules options rules → (bytes ≡ line) × IsUtf8 line
    → IsDated rules.dates rules.variant (chars bytes) (λ dating. Holds rules dating (chars bytes))
    → IsTried options line Holds
tried_line Holds options line bytes rules are (same, utf8) holds = record {
  rules = rules;
  are = are;
  utf8 = utf8;
  holds = subst (λ (bs : List ℕ). IsDated rules.dates rules.variant (chars bs)
      (λ dating. Holds rules dating (chars bs))) same holds;
}

-- a line that is not UTF-8, by options that say some rules
pub not_text : {Left : Type 0} {Holds : Rules → Dating → Text → Type 0} (options : Options) (line : List ℕ)
    (outcome : Outcome) (rules : Rules) → AreRules options rules → (IsUtf8 line → ⊥) → outcome ≡ NotUtf8 → Left
    → OnLine options line outcome Left Holds
not_text options line outcome rules are other is left = inr (inl (is, (rules, are), other, left))

-- what holds of a line that is read holds of one that is read so
pub tried_map : {Holds More : Rules → Dating → Text → Type 0} (options : Options) (line : List ℕ)
    → ((rules : Rules) (dating : Dating) (text : Text) → Holds rules dating text → More rules dating text)
    → IsTried options line Holds → IsTried options line More
tried_map options line f t = record {
  rules = t.rules;
  are = t.are;
  utf8 = t.utf8;
  holds = in_year_map (λ year h. f _ _ _ h) t.holds;
}

pub on_line_map : {Left Other : Type 0} {Holds More : Rules → Dating → Text → Type 0}
    (options : Options) (line : List ℕ) (outcome : Outcome) → (Left → Other)
    → ((rules : Rules) (dating : Dating) (text : Text) → Holds rules dating text → More rules dating text)
    → OnLine options line outcome Left Holds → OnLine options line outcome Other More
on_line_map options line outcome g f (inl a) = inl (a.0, a.1, g a.2)
on_line_map options line outcome g f (inr (inl a)) = inr (inl (a.0, a.1, a.2, g a.3))
on_line_map options line outcome g f (inr (inr t)) = inr (inr (tried_map options line f t))
