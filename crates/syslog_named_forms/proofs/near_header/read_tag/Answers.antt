use Rattle.syslog_named_forms.proofs.Names.{◌then◌, inl, NearlyRfc5424, no_row, refl, rest_front, row_of, tag_more}
use Rattle.syslog_named_forms.specs.NearHeader.{tag_says}
use Rattle.syslog_named_forms.proofs.NearHeaderLemmas.{said_of, tag_more_det, unsaid}
use Rattle.syslog_named_forms.proofs.near_header.read_tag.Goals as goal

pub returns-in_err-program : goal.returns-in_err-program
returns-in_err-program c text front = rw c.from_residual.ensures
    (unsaid tag_more front (no_row tag_more tag_more_det (inl c.in_err-program.ensures)))

pub returns : goal.returns
returns c text front = said_of NearlyRfc5424 tag_more tag_says tag_more_det front
    (row_of tag_more (c.in_ok-program.ensures then c.blanks.ensures then rest_front _ then refl)) c.sent.ensures
