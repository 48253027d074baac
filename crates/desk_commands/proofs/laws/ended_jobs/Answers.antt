use Rattle.std.proofs.Common.{refl}
use Rattle.desk_commands.proofs.LeadLemmas.{memory_read}
use Rattle.desk_commands.proofs.EndLemmas.{stop_job_by, read_done, unopened_stops, works_finishing}
use Rattle.desk_commands.proofs.laws.ended_jobs.Goals as goal

pub returns-clause-memory : goal.returns-clause-memory
returns-clause-memory c = λ w v all steps before lead. memory_read w v v all before steps lead refl

pub returns-clause-stopped : goal.returns-clause-stopped
returns-clause-stopped c = λ names job w v change stop still lead. stop_job_by names job w change v stop still lead

pub returns-clause-read : goal.returns-clause-read
returns-clause-read c = λ job w v inputs change status text lead work. read_done job w v inputs lead change status text work

pub returns-clause-unopened : goal.returns-clause-unopened
returns-clause-unopened c = λ job w v inputs change why lead refused. unopened_stops job w v inputs lead change why refused

pub returns-clause-finishing : goal.returns-clause-finishing
returns-clause-finishing c = works_finishing
