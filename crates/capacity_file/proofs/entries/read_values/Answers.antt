use Rattle.slot_text.specs.Fields.{fields_of}
use Rattle.capacity_file.proofs.EntryLemmas.{no_cap}
use Rattle.capacity_file.proofs.entries.read_values.Goals as goal

pub returns-in_err-read_rule-in-Cap : goal.returns-in_err-read_rule-in-Cap
returns-in_err-read_rule-in-Cap c = no_cap c.args.word (fields_of c.args.rest.now) c.from_residual-in_err-read_rule-in-Cap.result c.in-Cap.is c.from_residual-in_err-read_rule-in-Cap.ensures c.in_err-read_rule-in-Cap.ensures
