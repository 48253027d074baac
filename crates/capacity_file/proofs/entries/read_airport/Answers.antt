use Rattle.slot_text.specs.Fields.{fields_of}
use Rattle.capacity_file.proofs.EntryLemmas.{airport_value}
use Rattle.capacity_file.proofs.entries.read_airport.Goals as goal

pub returns : goal.returns
returns c = airport_value c.in_ok-last_field.field-0.now (fields_of c.args.rest.now) c.read.result c.in_ok-last_field.ensures c.read.ensures.found c.read.ensures.only
