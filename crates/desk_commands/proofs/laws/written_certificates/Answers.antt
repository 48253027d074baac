use Rattle.desk_commands.proofs.CheckLemmas.{written-short, check-passes}
use Rattle.desk_commands.proofs.laws.written_certificates.Goals as goal

pub returns-clause-short : goal.returns-clause-short
returns-clause-short c = λ names nodes capacity requests certificate replies status text a. written-short names nodes capacity.bytes requests.bytes certificate replies status text a

pub returns-clause-checked : goal.returns-clause-checked
returns-clause-checked c = check-passes
