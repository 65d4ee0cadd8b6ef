-- What follows a date means one thing.
use Rattle.syslog_dated_forms.proofs.Names.{[], ◌also◌, ◌∙◌, ◌∷◌, ◌≡◌, all_joined, AllDeterministic, ap}
use Rattle.syslog_dated_forms.proofs.Names.{IsDeterministic, None, Option, refl}
use Rattle.syslog_dated_forms.proofs.Names.{rest_det, row_det, Some, sym, tail_row, TailValue, Text, Values}
use Rattle.syslog_text.specs.Pieces.Class.{rest}
use Rattle.syslog_loose.specs.Rows.{fields_row}
use Rattle.syslog_loose.specs.Rfc3164.{HasProcess, Names3164}
use Rattle.syslog_loose.specs.TagForm.{IsIdOf}
use Rattle.syslog_loose.proofs.Rfc3164Lemmas.{fields_det, one_form, resolves_once}
use Rattle.syslog_dated_forms.proofs.Names.{of_forms}
use Rattle.syslog_dated_forms.specs.Tail.{tail, wide_tail}

id_once : (t : Text) (x y : Option Text) → IsIdOf t x → IsIdOf t y → x ≡ y
id_once t (Some i) (Some j) (tag, f) (tag', f') = ap Some (one_form t tag i tag' j f f').1
id_once t (Some i) None (tag, f) n = absurd (n _ f)
id_once t None (Some j) n (tag, f) = absurd (n _ f)
id_once t None None n m = refl

process_once : (o g : Option (Option Text)) (x y : Option Text) → HasProcess o g x → HasProcess o g y → x ≡ y
process_once o (Some (Some p)) x y a b = id_once p x y a b
process_once (Some (Some l)) None x y a b = id_once l x y a b
process_once o g x y a b = a ∙ sym b

pub tail_row_det : AllDeterministic tail_row
tail_row_det = all_joined fields_row (rest ∷ []) fields_det (rest_det also tt)

same_tail : (v w : TailValue) → v.hostname ≡ w.hostname → v.appname ≡ w.appname → v.process ≡ w.process → v.msg ≡ w.msg
    → v ≡ w
same_tail v w a b c d = λ i. record { hostname = a i; appname = b i; process = c i; msg = d i }

pub tail_det : IsDeterministic tail
tail_det p q p' q' v v' e (o, g, m, n, h, r, eh, ea, pr) (o', g', m', n', h', r', eh', ea', pr') =
    let (same, vs) = row_det tail_row tail_row_det p q p' q' _ _ e h h' in
    let so : o ≡ o' = ap (λ (x : Values tail_row). x.0) vs in
    let sg : g ≡ g' = ap (λ (x : Values tail_row). x.1.0) vs in
    let sm : v.msg ≡ v'.msg = ap (λ (x : Values tail_row). x.1.1.1.1.1.0) vs in
    let sn = resolves_once o' g' n n' (rw (so, sg) at r) r' in
    let sp = process_once o' g' v.process v'.process (rw (so, sg) at pr) pr' in (
      same,
      same_tail v v' (eh ∙ ap (λ (x : Names3164). x.hostname) sn ∙ sym eh')
          (ea ∙ ap (λ (x : Names3164). x.appname) sn ∙ sym ea') sp sm,
    )

pub wide_tail_det : IsDeterministic wide_tail
wide_tail_det = search (tail_det, of_forms) depth 32
