-- Formats: what is read as a class, and how its values are printed.
use Rattle.std.specs.Prelude.{List, [], ◌∷◌, ◌++◌}
use Rattle.syslog_text.specs.Pieces.Class.{Text, Class, Values}

-- A class, the printer of its values, which of its values are read back from print, and what may follow them there.
pub record Format : Type 1 where
  pub reads : Class
  pub print : reads.Value → Text
  pub ReadsBack : reads.Value → Type 0
  pub Before : Text → Type 0

-- such a printed value is, before what may follow it, a piece of the class with that meaning
abbrev pub IsSound : Format → Type 0
IsSound F = (v : F.reads.Value) (q : Text) → F.ReadsBack v → F.Before q → F.reads.Is (F.print v) q v

-- ---- formats in a row

abbrev pub classes : List Format → List Class
classes [] = []
classes (F ∷ Fs) = F.reads ∷ classes Fs

-- the printed values, one after the other, and then a text
abbrev pub printed_row : (Fs : List Format) → Values (classes Fs) → Text → Text
printed_row [] vs q = q
printed_row (F ∷ Fs) vs q = F.print vs.0 ++ printed_row Fs vs.1 q

-- each value is read back from print, and may come before what is printed after it
abbrev pub RowReadsBack : (Fs : List Format) → Values (classes Fs) → Text → Type 0
RowReadsBack [] vs q = Unit {0}
RowReadsBack (F ∷ Fs) vs q = (F.ReadsBack vs.0 × F.Before (printed_row Fs vs.1 q)) × RowReadsBack Fs vs.1 q
