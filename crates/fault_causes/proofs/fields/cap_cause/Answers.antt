use Rattle.slot_text.specs.Fields.{fields_of}
use Rattle.fault_causes.proofs.FieldLemmas.{cap_fields}
use Rattle.fault_causes.proofs.fields.cap_cause.Goals as goal

pub returns : goal.returns
returns c =
    cap_fields c.want.result c.number.result c.want-2.result c.want-3.result c.want-4.result c.number-2.result (fields_of c.args.fields.now) c.first_bad.result
    c.want.ensures c.number.ensures c.want-2.ensures c.want-3.ensures c.want-4.ensures c.number-2.ensures c.first_bad.ensures
