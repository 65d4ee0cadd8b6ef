use Rattle.syslog_named_forms.proofs.Names.{BeginsWith, Class, no_such_front, no_such_meaning, no_texted, Row, row_det}
use Rattle.syslog_named_forms.proofs.Names.{such_front, Text, texted, texted_det, words_row}
use Rattle.syslog_named_forms.proofs.ProgramLemmas.{named}
use Rattle.syslog_named_forms.proofs.RowLemmas.{words_row_det}
use Rattle.syslog_sent.specs.Named.{is_letter}
use Rattle.syslog_named_forms.proofs.programs.words.Goals as goal

abbrev text : Class
text = texted (Row words_row)

abbrev Fits : Text → Type 0
Fits = BeginsWith is_letter

pub returns-in_err-rest : goal.returns-in_err-rest
returns-in_err-rest c =
    rw c.from_residual.ensures (no_such_front text Fits (no_texted (Row words_row) c.in_err-rest.ensures))

pub before-name-requires : goal.before-name-requires
before-name-requires c = let (v, f) = c.in_ok-rest.ensures in (f.piece, f.whole)

pub returns-then-is_letter : goal.returns-then-is_letter
returns-then-is_letter c = let (v, f) = c.in_ok-rest.ensures in
    such_front text Fits (named (Row words_row) f c.before-name.ensures) c.if-is_letter.ensures

pub returns-else-is_letter : goal.returns-else-is_letter
returns-else-is_letter c = let (v, f) = c.in_ok-rest.ensures in
    no_such_meaning text Fits (texted_det (Row words_row) (row_det words_row words_row_det))
    (named (Row words_row) f c.before-name.ensures)
    c.if-is_letter.ensures
