use Rattle.syslog_c.proofs.Words.{◌∙◌}
use Rattle.syslog_pieces.proofs.Names.{chars-IsAscii, to_z-of_z}
use Rattle.syslog_c.proofs.TextLemmas.{text_along}
use Rattle.syslog_c.proofs.put_line.put_number.Goals as goal

pub returns : goal.returns
returns c =
    let fits = c.ranges.number in
    rw to_z-of_z at (text_along _ _ _ _ (chars-IsAscii _ c.format.ensures.ascii ∙ c.format.ensures.text) c.put.ensures)
