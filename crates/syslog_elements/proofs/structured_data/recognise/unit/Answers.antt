use Rattle.syslog_elements.proofs.Names.{arith, ◌≡◌, ◌∙◌, ℕ, [], ◌∷◌, refl, sym, chars, heads, pair, single, match_map}
use Rattle.syslog_elements.proofs.StructuredDataLemmas.Closing.{no_quoted_short}
use Rattle.syslog_elements.proofs.structured_data.recognise.unit.Goals as goal

pub returns-then-c-eq92 : goal.returns-then-c-eq92
returns-then-c-eq92 c =
    let e = c.in_ok-c.ensures.0 in let slash = c.if-c-eq92.true in
    match_map c.first-then-c-eq92.result (λ n. no_quoted_short (c.in_ok-c.c ∷ []) (rw n at e) (omega arith)
    (λ r f. let i : ◌≡◌ {A = ℕ} 92 34 = sym slash ∙ heads _ _ _ _ f in omega arith))
    (λ x f. (f.1, (pair x.0, tt, rw (slash, f.0) at e, refl))) c.first-then-c-eq92.ensures

pub returns-else-c-eq92 : goal.returns-else-c-eq92
returns-else-c-eq92 c =
    let e = c.in_ok-c.ensures.0 in
    let no_quote = λ (f : c.in_ok-c.c ≡ 34). c.requires (34 ∷ []) (chars c.in_ok-c.more.now) tt (rw f at e) refl in
    (c.in_ok-c.ensures.1, (single c.in_ok-c.c, (c.if-c-eq92.false, no_quote), e, refl))
