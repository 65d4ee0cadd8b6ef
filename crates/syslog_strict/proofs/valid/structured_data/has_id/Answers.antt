use Rattle.syslog_strict.proofs.Words.{◌≡◌, refl, sym, ap, ◌∙◌, ◌||◌, Bool, true, false, List, ElementValue, Front}
use Rattle.syslog_strict.proofs.Words.{Text, chars, is_among, text_eq}
use Rattle.syslog_text.specs.Pieces.Lists.{many}
use Rattle.syslog_text.proofs.PieceLemmas.Rules.{many_left, none_left}
use Rattle.syslog_strict.proofs.GrammarLemmas.{element_det, element_shorter}
use Rattle.syslog_strict.specs.Grammar.{ids_of, sd_element}
use Rattle.syslog_strict.proofs.valid.structured_data.has_id.Goals as goal

-- whether the id is among the elements that are left, by the first of them
among_left : {t u q : Text} (id other : Text) (b : Bool) (us : List ElementValue) {e : ElementValue} → e.id ≡ other
    → Front sd_element t u e → b ≡ text_eq other id → Front (many sd_element) t q us
    → (ws : List ElementValue) × Front (many sd_element) u q ws
    × (is_among id (ids_of us) ≡ (b || is_among id (ids_of ws)))
among_left id other b us same f h g =
    let (ws, e, more) = many_left element_det us f g in (
      ws,
      more,
      ap (λ (x : List ElementValue). is_among id (ids_of x)) e
          ∙ ap (λ (x : Bool). x || is_among id (ids_of ws)) (ap (λ (x : Text). text_eq x id) same ∙ sym h),
    )

pub elements-init : goal.elements-init
elements-init c = (c.utf8.text, (λ q es g. (es, g, refl)))

pub returns-then-is_same_text : goal.returns-then-is_same_text
returns-then-is_same_text c = λ q es g.
    let (us, h, same) = c.elements.invariant.1 q es g in
    let (e, is, f) = c.in-Some.ensures.reads in
    let (ws, more, first) = among_left _ _ true us is f c.if-is_same_text.ensures h in
    sym (same ∙ first)

pub elements-preserved : goal.elements-preserved
elements-preserved c = (
  c.in-Some.ensures.utf8,
  (λ q es g.
      let (us, h, same) = c.elements.invariant.1 q es g in
      let (e, is, f) = c.in-Some.ensures.reads in
      let (ws, more, first) = among_left _ _ false us is f c.if-is_same_text.ensures h in
      (ws, more, same ∙ first)),
)

pub elements-smaller : goal.elements-smaller
elements-smaller c = let (e, is, f) = c.in-Some.ensures.reads in element_shorter f

pub returns : goal.returns
returns c = λ q es g.
    let (us, h, same) = c.elements.invariant.1 q es g in
    sym (same ∙ ap (λ (x : List ElementValue). is_among (chars c.args.id.now) (ids_of x))
    (none_left us c.in_default.ensures.reads h))
