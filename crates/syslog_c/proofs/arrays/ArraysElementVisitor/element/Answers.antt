use Rattle.syslog_c.proofs.Words.{arith, length, length-append, element_seen, IsBegun, IsElement, IsParam, all_params}
use Rattle.syslog_c.proofs.Words.{◌+◌, ◌-◌, ◌≤◌, ◌∷◌, [], List, ap, sym, subst, ◌∙◌, Text}
use Rattle.std.proofs.lemmas.List.{length-set}
use borrow.Rule.Slice.PartMut.{put_mid}
use Rattle.syslog_c.specs.Arrays.{HaveSpace}
use Rattle.syslog_c.proofs.ArrayLemmas.{all_params_more, begun_next, begun_part, put_length}
use Rattle.syslog_c.proofs.arrays.ArraysElementVisitor.element.Goals as goal

pub returns : goal.returns
returns c first es h =
    let old = c.args.self.now in
    let e = element_seen c.args.element in
    let places = c.if-not-have_places.ensures in
    let new = put_mid old.filled (length old.params.now - old.filled) old.params.now c.put_params.new.array in
    let more = all_params_more es e in
    let long_es = length-append es (e ∷ []) in
    let long_ps = ap length more ∙ length-append (all_params es) e.params in
    let same_es = length-set old.elements.now old.count c.element_of.result in
    let same_ps = put_length old.filled old.params.now c.put_params.new.array (omega (arith, places.1))
    c.put_params.auto.array in
    record {
      same_elements = h.same_elements;
      same_params = h.same_params;
      put = λ space. (
          let before : HaveSpace old es = record {
            elements = omega (arith, space.elements, long_es, same_es);
            params = omega (arith, space.params, long_ps, same_ps);
          } in
          let p = h.put before in
          let fits : old.filled + length e.params ≤ length old.params.now =
          omega (arith, places.1, c.params_len-params.ensures) in
          record {
            count = ap (λ n. n + 1) p.count ∙ sym long_es;
            filled = omega (arith, p.filled, c.params_len-params.ensures, long_ps);
            elements = begun_next IsElement es e _ _ _ _ (sym p.count) places.0 p.elements c.element_of.ensures;
            params = subst (λ (vs : List (Text × Text)). IsBegun IsParam vs first.params.now new) (sym more)
                (begun_part IsParam (all_params es) e.params _ _ _ _ (sym p.filled) fits p.params c.put_params.ensures
                c.put_params.auto.array);
          });
    }
