use Rattle.std.proofs.Common.{refl}
use Rattle.scr_reader.specs.Private.Texts.{texts_in}
use Rattle.scr_reader.proofs.HeaderLemmas.{after_address}
use Rattle.scr_reader.proofs.header.read_names_after.Goals as goal

pub returns-clause-fault : goal.returns-clause-fault
returns-clause-fault c = after_address c.args.first (texts_in c.args.run.now) c.read_names.result _ c.line_at.ensures c.in_ok-check_address.ensures.found (c.read_names.ensures.fault c.args.first refl)
