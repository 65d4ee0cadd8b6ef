use Rattle.syslog_pieces.proofs.Names.{◌/◌, ◌%◌, ◌++◌, refl, ap, ◌∙◌, arith, rules, pad2, Text, NoFront, year}
use Rattle.syslog_pieces.proofs.timestamp.digits.four_digits.Goals as goal

pub returns-in_err-century : goal.returns-in_err-century
returns-in_err-century c =
    let n : NoFront year c.args.text.now = λ p q v e h. c.in_err-century.ensures (pad2 (v / 100)) (pad2 (v % 100) ++ q)
    (v / 100) (e ∙ ap (λ (x : Text). x ++ q) h.0) (refl, (let fits = h.1 in omega arith)) in search rules

-- the second pair, after the first
pub returns-in_err-year : goal.returns-in_err-year
returns-in_err-year c =
    let g = c.in_ok-century.ensures in
    let front = rw g.is.0 at g.whole in
    let n : NoFront year c.args.text.now = λ p q v e h. (let whole = rw h.0 at e in
    c.in_err-year.ensures (pad2 (v % 100))
    q (v % 100) (cc) (refl, omega arith)) in search rules
