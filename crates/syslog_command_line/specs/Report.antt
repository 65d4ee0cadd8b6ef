-- What the programs say, and their exit status: this project's own choice.
use Rattle.std.specs.Prelude.{ℕ, Bool, true, false, ◌==◌, if◌then◌else◌, List, [], ◌++◌, Option, Result, Ok, Err}
use Rattle.std.specs.Prelude.{◌≡◌, ◌⊎◌, Some, codes, decimal, take}
use Rattle.std.specs.Fmt.{debug_str}
use Rattle.std.specs.Io.KnownBytes.{Appends}
use Rattle.syslog_command_line.specs.declared.words.Wrong.{Wrong}
use Rattle.syslog_command_line.specs.declared.words.Wrong.TheVariants.{Word, Missing, Unreadable}
use Rattle.syslog_lines.specs.declared.summary.RunFault.{RunFault}
use Rattle.syslog_lines.specs.declared.summary.RunFault.TheVariants.{Read, Write, Memory}

-- 0 where this count is zero, 1 where it isn't, 2 after a fault
abbrev pub status_of : {X : Type 0} → (X → ℕ) → Result X RunFault → ℕ
status_of count (Ok counts) = if count counts == 0 then 0 else 1
status_of count (Err fault) = 2

-- what became of so many of the lines
abbrev pub count_line : List ℕ → ℕ → ℕ → List ℕ
count_line what count lines =
    what ++ (codes " " ++ (decimal count ++ (codes " of " ++ (decimal lines ++ codes " lines\n"))))

-- why a filter ended early
abbrev pub fault_line : RunFault → List ℕ
fault_line Read = codes "read failed\n"
fault_line Write = codes "write failed\n"
fault_line Memory = codes "out of memory\n"

-- what is said of a run: nothing where the first count is zero
abbrev pub said_of : {X : Type 0} → List ℕ → (X → ℕ) → (X → ℕ) → Result X RunFault → List ℕ
said_of what count lines (Ok counts) =
    if count counts == 0 then [] else count_line what (count counts) (lines counts)
said_of what count lines (Err fault) = fault_line fault

-- a program's name and its version, as one line
abbrev pub version_line : List ℕ → List ℕ → List ℕ
version_line program version = program ++ (codes " " ++ (version ++ codes "\n"))

-- what is wrong with a word, which is quoted; where it is a file's name, there is a hint too
abbrev pub IsWrongWord : List ℕ → List ℕ → Type 0
IsWrongWord quoted line = (line ≡ codes "wrong word: " ++ (quoted ++ codes "\n"))
    ⊎ (line ≡ codes "wrong word: " ++ (quoted ++ (codes "; to read this file: < " ++ (quoted ++ codes "\n"))))

-- what is wrong with the words, as a line. How a word is quoted that is not ASCII is left open.
abbrev pub IsReason : Wrong → List ℕ → Type 0
IsReason (Word word) line = (quoted : List ℕ) → debug_str word.now ≡ Some quoted → IsWrongWord quoted line
IsReason Missing line = line ≡ codes "YEAR is missing\n"
IsReason Unreadable line = line ≡ codes "a word is not UTF-8, or out of memory\n"

-- what is said of wrong words: the usage line and the reason; or, where an allocation failed, the usage line alone
abbrev pub IsRefusal : List ℕ → Wrong → List ℕ → Type 0
IsRefusal usage wrong text = (text ≡ usage) ⊎ ((reason : List ℕ) × IsReason wrong reason × (text ≡ usage ++ reason))

-- a prefix of the text was written
abbrev pub WritesFront : Option (List ℕ) → Option (List ℕ) → List ℕ → Type 0
WritesFront before after text = (size : ℕ) × Appends before after (take size text)

-- all of the text was written; or, if the stream failed, a prefix of it
abbrev pub WritesUnlessFailed : Option (List ℕ) → Option (List ℕ) → Bool → List ℕ → Type 0
WritesUnlessFailed before after false text = Appends before after text
WritesUnlessFailed before after true text = WritesFront before after text
