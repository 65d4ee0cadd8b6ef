use Rattle.syslog_named_forms.proofs.Names.{◌also◌, ◌then◌, beginning_det, beginning_front, inl, mark_class}
use Rattle.syslog_named_forms.proofs.Names.{no_beginning, no_row, refl, row_of}
use Rattle.syslog_named_forms.specs.NearHeader.{vendor_more, vendor_says}
use Rattle.syslog_named_forms.specs.Untagged.{dialect_of}
use Rattle.syslog_named_forms.proofs.NearHeaderLemmas.{said_of, unsaid}
use Rattle.syslog_named_forms.proofs.near_header.read_vendor.Goals as goal

pub returns-in_err-mark_end : goal.returns-in_err-mark_end
returns-in_err-mark_end c text front = let m = c.args.mark in rw c.from_residual.ensures (unsaid (vendor_more m) front
    (no_row (vendor_more m) (beginning_det (mark_class m) also tt) (inl (no_beginning c.in_err-mark_end.ensures))))

pub returns : goal.returns
returns c text front = let m = c.args.mark in
    said_of (dialect_of m) (vendor_more m) (vendor_says m) (beginning_det (mark_class m) also tt) front
    (row_of (vendor_more m) (beginning_front c.in_ok-mark_end.ensures.1 then refl)) c.sent.ensures
