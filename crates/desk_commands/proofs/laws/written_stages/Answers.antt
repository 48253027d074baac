use Rattle.desk_commands.proofs.RecheckLemmas.{written-short, in-form, is-valid, recheck-passes}
use Rattle.desk_commands.proofs.laws.written_stages.Goals as goal

pub returns-clause-form : goal.returns-clause-form
returns-clause-form c = λ names nodes capacity requests certificate asks extra replies status text a. in-form names nodes capacity requests certificate asks extra replies status text a

pub returns-clause-valid : goal.returns-clause-valid
returns-clause-valid c = λ names nodes capacity requests certificate asks extra replies status text a. is-valid names nodes capacity requests certificate asks extra replies status text a

pub returns-clause-short : goal.returns-clause-short
returns-clause-short c = λ names nodes capacity requests certificate asks extra replies status text a. written-short names nodes capacity requests certificate asks extra replies status text a

pub returns-clause-checked : goal.returns-clause-checked
returns-clause-checked c = λ names asked nodes capacity requests certificate asks extra replies status text files told passed a held.
    recheck-passes names nodes capacity requests certificate asks extra replies status text a asked files told held passed
