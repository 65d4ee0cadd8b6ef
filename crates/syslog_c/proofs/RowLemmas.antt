-- The rows of the lines of a block.
use Rattle.syslog_c.proofs.Words.{◌≡◌, ◌∙◌, ℕ, ◌<◌, ◌+◌, List, [], ◌∷◌, ◌++◌, length, take, arith, sym, ap, inl, inr}
use Rattle.syslog_c.proofs.Words.{refl, subst, append-nil, length-append, append_assoc, IsBegun, Options}
use Rattle.std.proofs.Common.{Bool, set, true}
use Rattle.syslog_lines.proofs.Names.{eqb, eqb-true}
use Rattle.std.proofs.Math.Seq.{take-append_seam}
use Rattle.syslog_lines.specs.Lines.{IsLines, IsFirstLine}
use Rattle.syslog_lines.proofs.LineLemmas.{IsLines-cons, IsLines-nil, some_lines}
use Rattle.syslog_c.proofs.ArrayLemmas.{begun_next}
use Rattle.syslog_c.specs.Rows.{IsRow}
use Rattle.syslog_c.specs.declared.fields.Row.{Row}

-- The lines of the buffer up to the rest have rows.
pub record AreRead (options : Options) (buffer rest : List ℕ) (old new : List Row) (count : ℕ) : Type 0 where
  pub done : List (List ℕ)
  pub lines : (more : List (List ℕ)) → IsLines rest more → IsLines buffer (done ++ more)
  pub counted : length done ≡ count
  pub rows : IsBegun (IsRow options) done old new

pub none_left : (rest : List ℕ) (empty : Bool) → empty ≡ eqb (length rest) 0 → empty ≡ true → rest ≡ []
none_left [] empty same none = refl
none_left (byte ∷ rest) empty same none = absurd (omega (arith, eqb-true (length (byte ∷ rest)) 0 (sym same ∙ none)))

-- one more line
pub one_more : (options : Options) (buffer rest line after : List ℕ) (old new : List Row) (count : ℕ) (row : Row)
    → AreRead options buffer rest old new count → 0 < length rest → IsFirstLine rest line after → count < length new
    → IsRow options row line → AreRead options buffer after old (set new count row) (count + 1)
one_more options buffer rest line after old new count row are some first room is = record {
  done = are.done ++ (line ∷ []);
  lines = λ more cut. rw (append_assoc are.done (line ∷ []) more)
      (are.lines (line ∷ more) (IsLines-cons rest line after more some first cut));
  counted = length-append are.done (line ∷ []) ∙ ap (λ (n : ℕ). n + 1) are.counted;
  rows = begun_next (IsRow options) are.done line old new count row are.counted room are.rows is;
}

-- all lines
pub all_lines : (options : Options) (buffer rest : List ℕ) (old new : List Row) (count : ℕ)
    → AreRead options buffer rest old new count → rest ≡ []
    → (lines : List (List ℕ)) × IsLines buffer lines × (count ≡ length lines) × IsBegun (IsRow options) lines old new
all_lines options buffer rest old new count are end = (
  are.done,
  rw append-nil at (are.lines [] (rw end IsLines-nil)),
  sym are.counted,
  are.rows,
)

-- as many lines as there are rows, and more lines after them
pub first_lines : (options : Options) (buffer rest : List ℕ) (old new : List Row) (count : ℕ)
    → AreRead options buffer rest old new count → 0 < length rest → count ≡ length new
    → (lines : List (List ℕ)) × IsLines buffer lines × (count ≡ length new) × (length new < length lines)
    × IsBegun (IsRow options) (take (length new) lines) old new
first_lines options buffer rest old new count are some full =
    let (more, cut) = some_lines rest in
    let long : 0 < length more = some_more rest more some cut in
    let front : take (length new) (are.done ++ more) ≡ are.done =
    subst (λ (n : ℕ). take n (are.done ++ more) ≡ are.done) (are.counted ∙ full) (take-append_seam are.done more) in (
      are.done ++ more,
      are.lines more cut,
      full,
      omega (arith, length-append are.done more, are.counted, full, long),
      subst (λ (ls : List (List ℕ)). IsBegun (IsRow options) ls old new) (sym front) are.rows,
    )
  where
    some_more : (bytes : List ℕ) (ls : List (List ℕ)) → 0 < length bytes → IsLines bytes ls → 0 < length ls
    some_more bytes [] some (free, inl joined) = absurd (omega (arith, some, ap length joined))
    some_more bytes [] some (free, inr lacks) =
        omega (arith, length-append lacks.before (lacks.last ∷ []), ap length lacks.listed)
    some_more bytes (line ∷ ls) some cut = omega arith
