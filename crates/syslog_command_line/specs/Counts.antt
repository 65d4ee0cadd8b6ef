-- What a program says of its lines, where not all is well: this project's own choice.
use Rattle.std.specs.Prelude.{ℕ, ◌&&◌, ◌==◌, if◌then◌else◌, List, [], ◌∷◌, ◌++◌, Result, Ok, Err, codes, decimal}
use Rattle.std.specs.List.{flat_map}
use Rattle.syslog_command_line.specs.Report.{fault_line}
use Rattle.syslog_lines.specs.declared.summary.LineCounts.{LineCounts}
use Rattle.syslog_lines.specs.declared.summary.RunFault.{RunFault}

-- how many of the lines, after the program's name
abbrev pub share : List ℕ → ℕ → ℕ → List ℕ → List ℕ
share program count lines what =
    program ++ (codes ": " ++ (decimal count ++ (codes " of " ++ (decimal lines ++ what))))

-- so many lines of one kind, if there are some
abbrev pub kind : ℕ → List ℕ → List (List ℕ)
kind count what = if count == 0 then [] else (decimal count ++ what) ∷ []

-- the kinds in brackets, with commas between them, if there are some
abbrev pub in_brackets : List (List ℕ) → List ℕ
in_brackets [] = []
in_brackets (first ∷ more) = codes " (" ++ (first ++ (flat_map (λ other. codes ", " ++ other) more ++ codes ")"))

-- why lines are no messages, as far as it is said: how many are not UTF-8, and how many are too long
abbrev pub reasons : ℕ → ℕ → List ℕ
reasons invalid long = in_brackets (kind invalid (codes " not UTF-8") ++ kind long (codes " too long"))

-- how many lines are no messages, if there are some
abbrev pub refused_line : List ℕ → LineCounts → List ℕ
refused_line program counts =
    if counts.refused == 0 then [] else share program counts.refused counts.lines
    (codes " lines are no messages" ++ (reasons counts.refused_invalid counts.too_long ++ codes "\n"))

-- how many messages have U+FFFD for what is not UTF-8, if there are some
abbrev pub replaced_line : List ℕ → LineCounts → List ℕ
replaced_line program counts = if counts.replaced == 0 then []
    else share program counts.replaced counts.lines (codes " lines have U+FFFD for what is not UTF-8\n")

-- both
abbrev pub counts_text : List ℕ → LineCounts → List ℕ
counts_text program counts = refused_line program counts ++ replaced_line program counts

-- 0 where neither is said
abbrev pub counts_status : LineCounts → ℕ
counts_status counts = if (counts.refused == 0) && (counts.replaced == 0) then 0 else 1

-- what is said of a run
abbrev pub lines_said : List ℕ → Result LineCounts RunFault → List ℕ
lines_said program (Ok counts) = counts_text program counts
lines_said program (Err fault) = fault_line fault

-- the exit status after it, which is 2 after a fault
abbrev pub lines_status : Result LineCounts RunFault → ℕ
lines_status (Ok counts) = counts_status counts
lines_status (Err fault) = 2
