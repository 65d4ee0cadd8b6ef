use Rattle.syslog_c.{proofs.TextLemmas.text_after, proofs.TextLemmas.text_none}
use Rattle.syslog_pieces.proofs.Names.{rules, refl, [], ◌++◌, chars}
use Rattle.syslog_elements.proofs.StructuredDataLemmas.Units.{means_here, means_more}
use Rattle.syslog_c.proofs.unescape.push_unescaped.Goals as goal

pub texts-init : goal.texts-init
texts-init c = (search rules, ([], text_none c.args.buffer.now, means_here _ _ refl))

pub texts-preserved : goal.texts-preserved
texts-preserved c =
    let (put, takes, means) = c.texts.invariant.1 in
    let text = c.in-Some.text.now in (
      search rules,
      (
        put ++ chars text,
        text_after _ _ _ _ _ takes (text, search rules, refl, c.push.ensures),
        means_more means c.in-Some.ensures.0 refl,
      ),
    )
