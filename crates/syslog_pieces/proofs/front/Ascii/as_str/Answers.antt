use Rattle.syslog_pieces.proofs.Names.{take, arith, IsUtf8-from_ascii, IsAscii-from_reads, get_or-take}
use Rattle.syslog_pieces.proofs.front.Ascii.as_str.Goals as goal

pub from_utf8_unchecked-requires : goal.from_utf8_unchecked-requires
from_utf8_unchecked-requires c =
    let a = c.args.self.now in
    IsUtf8-from_ascii _ (IsAscii-from_reads (take a.length a.bytes) a.length (omega arith)
    (λ k h. rw (get_or-take a.length a.bytes k 0 h) (a.ascii k h)))
