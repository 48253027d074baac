use Rattle.scr_reader.proofs.NamedLemmas.{fault_named}
use Rattle.scr_reader.proofs.laws.faults_name_lines.Goals as goal

pub returns : goal.returns
returns c = fault_named
