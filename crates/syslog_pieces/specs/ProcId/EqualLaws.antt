-- Equality of process ids is an equivalence.
use Rattle.std.specs.Prelude.{◌≡◌, true, refl}
use Rattle.std.specs.Cmp.{IsEquivalence, int_eq_equiv}
use Rattle.std.specs.Cmp.Lexicographic.{nat_list_eq_equiv}
use Rattle.syslog_text.specs.Pieces.Class.{Text}
use Rattle.syslog_pieces.specs.ProcId.Equal.{procid_eq}
use Rattle.syslog_pieces.specs.declared.procid.ProcId.{ProcId}
use Rattle.syslog_pieces.specs.declared.procid.ProcId.TheVariants.{PID, Name}

eq_refl : (x : ProcId Text) → procid_eq x x ≡ true
eq_refl (PID m) = int_eq_equiv.refl m
eq_refl (Name s) = nat_list_eq_equiv.refl s

eq_symm : (x y : ProcId Text) → procid_eq x y ≡ procid_eq y x
eq_symm (PID m) (PID n) = int_eq_equiv.symm m n
eq_symm (PID m) (Name t) = refl
eq_symm (Name s) (PID n) = refl
eq_symm (Name s) (Name t) = nat_list_eq_equiv.symm s t

eq_congr : (x y z : ProcId Text) → procid_eq x y ≡ true → procid_eq x z ≡ procid_eq y z
eq_congr (PID m) (PID n) (PID k) e = int_eq_equiv.congr m n k e
eq_congr (PID m) (PID n) (Name u) e = refl
eq_congr (PID m) (Name t) z e = cc
eq_congr (Name s) (PID n) z e = cc
eq_congr (Name s) (Name t) (PID k) e = refl
eq_congr (Name s) (Name t) (Name u) e = nat_list_eq_equiv.congr s t u e

pub procid_equivalence : IsEquivalence procid_eq
procid_equivalence = record { refl = eq_refl; symm = eq_symm; congr = eq_congr }
