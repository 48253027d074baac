use Rattle.std.proofs.Common.{ℕ, List, Option, sym, subst, arith}
use Rattle.fault_causes.specs.Requests.{HasDateForm}
use Rattle.fault_causes.specs.Standings.{AreDatesReading}
use Rattle.fault_causes.specs.declared.shape.Dated.{Dated}
use Rattle.fault_causes.proofs.DateLemmas.{of_many}
use Rattle.fault_causes.proofs.shape.read_dates.Goals as goal

pub returns-in_err-last : goal.returns-in_err-last
returns-in_err-last c =
    subst (λ (r : Option (Dated × Dated)). AreDatesReading c.args.season.now c.args.text.now r) (sym c.from_residual-in_err-last.ensures)
    (λ first last form.
    let half = of_many c.args.text.now first last (omega arith) form in
    c.in_err-last.ensures last (subst (λ (t : List ℕ). HasDateForm t last) (sym c.split_at.ensures.back) half.back))
