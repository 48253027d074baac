use Rattle.std.proofs.Common.{ℕ, List, ℤ, sym, subst}
use Rattle.std.specs.Prelude.{slice_index}
use Rattle.wasg_stages.specs.Steps.{AreLimitsOf}
use Rattle.wasg_stages.proofs.LoadLemmas.{given-limits}
use Rattle.wasg_stages.proofs.limits.given_limits.Goals as goal

pub returns-clause-each : goal.returns-clause-each
returns-clause-each c =
    let numbers = c.args.numbers.now in
    subst (λ (limits : List ℤ). AreLimitsOf limits (λ (r : ℕ). slice_index numbers r)) (sym c.in_ok-limits.ensures) (given-limits numbers c.requires.low)
