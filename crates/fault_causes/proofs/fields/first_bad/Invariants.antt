use Rattle.std.proofs.Common.{◌≡◌, ◌+◌, drop}
use Rattle.slot_text.specs.Fields.{fields_of}
use Rattle.fault_causes.proofs.FieldLemmas.{Leads}
use Rattle.fault_causes.proofs.fields.first_bad.Given as goal

abbrev pub invariant-loop-wanted : goal.invariant-loop-wanted
invariant-loop-wanted l =
    record {
      counted : l.place ≡ l.wanted-index + 2;
      leads : Leads (drop l.wanted-index l.wants) l.before l.place (fields_of l.rest) l.wants (fields_of l.fields);
    }
