use Rattle.std.proofs.Common.{◌≡◌, sym, subst}
use Rattle.season_days.specs.declared.declaration.Declaration.{Declaration}
use Rattle.usage_watch.specs.Reports.{SaysOperated, HasOperatedFault}
use Rattle.usage_watch.specs.declared.fault.OperatedFault.{OperatedFault}
use Rattle.usage_watch.specs.declared.fault.OperatedFault.TheVariants.{BadLine}
use Rattle.desk_commands.specs.Jobs.{name_at}
use Rattle.desk_commands.proofs.ReportsLemmas.{no_fault, no_reading, one_line, bad_is, accepts_reports, refuses_reports}
use Rattle.desk_commands.proofs.usage.judge_reports.Goals as goal

-- the clauses of the reader speak of the season that was handed to it, which is the submission's
pub returns-in-Ok-clause-found : goal.returns-in-Ok-clause-found
returns-in-Ok-clause-found c = subst (λ (d : Declaration). SaysOperated d.season c.args.bytes.now c.in-Ok.operated) c.declaration.ensures.value c.in-Ok.ensures.found

pub returns-in-Ok-clause-alone : goal.returns-in-Ok-clause-alone
returns-in-Ok-clause-alone c = λ name capacity requests certificate rest season.
    accepts_reports c.one_answer.ensures.one name capacity requests c.args.submission.now season certificate c.args.bytes.now rest c.in-Ok.operated (returns-in-Ok-clause-found c)
    (λ e has. no_fault c.in-Ok.operated e (c.in-Ok.ensures.exact e (subst (λ (d : Declaration). HasOperatedFault d.season c.args.bytes.now e) (sym c.declaration.ensures.value) has)))

pub returns-in-Err-BadLine-clause-stop : goal.returns-in-Err-BadLine-clause-stop
returns-in-Err-BadLine-clause-stop c = λ names capacity requests certificate rest season.
    let d : Declaration = c.args.submission.now.declaration in
    let bytes = c.args.bytes.now in
    let e : OperatedFault = c.in-Err-BadLine.field-0 in
    let line = c.in-Err-BadLine.line in
    let is : e ≡ BadLine line = c.in-Err-BadLine.field-0-is in
    let found = bad_is e line is (λ (f : OperatedFault). HasOperatedFault c.declaration.result.now.season bytes f) c.in-Err-BadLine.ensures.fault in
    let has = subst (λ (x : Declaration). HasOperatedFault x.season bytes (BadLine line)) c.declaration.ensures.value found in
    refuses_reports c.one_answer.ensures.one (name_at names c.args.place) capacity requests c.args.submission.now season certificate bytes rest line has
    (λ other two. one_line e line is other (c.in-Err-BadLine.ensures.exact (BadLine other) (subst (λ (x : Declaration). HasOperatedFault x.season bytes (BadLine other)) (sym c.declaration.ensures.value) two)))
    (λ reports says. no_reading e line is reports (c.in-Err-BadLine.ensures.only reports (subst (λ (x : Declaration). SaysOperated x.season bytes reports) (sym c.declaration.ensures.value) says)))
