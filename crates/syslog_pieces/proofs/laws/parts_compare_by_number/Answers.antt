use Rattle.syslog_pieces.proofs.Names.{◌≡◌, ℕ, pos, get_or, map, arith, nat_tests, tag_of}
use Rattle.syslog_pieces.specs.Words.{int_cmp, nat_cmp}
use Rattle.syslog_pieces.specs.Pri.{facilities, facility_number as number}
use Rattle.syslog_pieces.specs.contracts.pri.SyslogFacility.{the_type}
use Rattle.syslog_pieces.specs.declared.pri.SyslogFacility.{SyslogFacility}
use Rattle.syslog_pieces.proofs.laws.parts_compare_by_number.Goals as goal

at_tag : (f : SyslogFacility) → get_or (map (λ x. pos (number x)) facilities) (tag_of the_type f) (pos 0)
    ≡ pos (number f)
at_tag f = grind arith

compared : (m n : ℕ) → int_cmp (pos m) (pos n) ≡ nat_cmp m n
compared m n = grind (arith, nat_tests)

pub returns-clause-facility_cmp : goal.returns-clause-facility_cmp
returns-clause-facility_cmp c a b = rw (at_tag a, at_tag b) (compared (number a) (number b))
