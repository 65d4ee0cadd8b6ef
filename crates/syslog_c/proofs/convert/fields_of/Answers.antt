use Rattle.syslog_c.proofs.Words.{◌≡◌, ◌∙◌, ap, sym, subst, rules, w32, to_z, of_z, Option, Text, list_elements}
use Rattle.syslog_pieces.specs.declared.procid.ProcId.{ProcId}
use Rattle.syslog_c.specs.Fields.{IsOptionalText, IsProcess, facility_code, protocol_number, severity_code}
use Rattle.syslog_c.specs.Fields.{version_number}
use Rattle.syslog_c.proofs.ArrayLemmas.{all_params_length}
use Rattle.syslog_c.proofs.convert.fields_of.Goals as goal

pub returns : goal.returns
returns c =
    let line = c.args.line.now in
    let facility : to_z w32 (of_z w32 c.facility_of.result) ≡ c.facility_of.result = search rules in
    let severity : to_z w32 (of_z w32 c.severity_of.result) ≡ c.severity_of.result = search rules in
    record {
      unparsed = c.unparsed.ensures.0;
      left = c.unparsed.ensures.1;
      has = subst (IsOptionalText c.optional_text-4.result) c.unparsed.ensures.2 c.optional_text-4.ensures;
      are = record {
        protocol = c.protocol_of-protocol.ensures.0 ∙ ap protocol_number c.protocol.ensures;
        version = c.protocol_of-protocol.ensures.1 ∙ ap version_number c.protocol.ensures;
        facility = facility ∙ c.facility_of.ensures ∙ ap facility_code c.facility.ensures;
        severity = severity ∙ c.severity_of.ensures ∙ ap severity_code c.severity.ensures;
        timestamp = c.stamp_of.ensures;
        host = c.optional_text.ensures;
        app = c.optional_text-2.ensures;
        process = subst (λ (p : Option (ProcId Text)). IsProcess c.process_of.result p) c.process.ensures
            c.process_of.ensures;
        msgid = c.optional_text-3.ensures;
        msg = c.text_of.ensures;
        elements = c.len.ensures;
        params = c.params_len.ensures ∙ sym (all_params_length (list_elements line.list));
        dialect = c.dialect_code.ensures;
      };
    }
