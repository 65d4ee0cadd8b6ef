use Rattle.syslog_elements.proofs.Names.{rules, sym, subst, OneMeaning, optional}
use Rattle.syslog_elements.{proofs.StructuredDataLemmas.Pairs.left_same, specs.StructuredData.Pairs.pairs}
use Rattle.syslog_elements.proofs.StructuredDataLemmas.Closing.{dead_bytes}
use Rattle.syslog_elements.proofs.structured_data.recognised.ElementList.elements.Goals as goal

pub invariant_of-result : goal.invariant_of-result
invariant_of-result c =
    let list = c.args.self.now in
    record {
      utf8 = list.utf8;
      pairs_utf8 = search rules;
      is_dead = dead_bytes list.text.now list.utf8;
      meaning = list.meaning;
      paired = subst (OneMeaning (optional pairs)) (sym c.pairs.ensures) list.paired;
    }

pub returns : goal.returns
returns c =
    let list = c.args.self.now in
    left_same c.pairs.ensures _ list.paired _ list.meaning
