use Rattle.std.proofs.Common.{◌↔◌}
use Rattle.std.specs.Prelude.{IsTrue}
use Rattle.choice_problem.specs.Strips.{part_uses}
use Rattle.window_counts.specs.Placed.{FitsBeside}
use Rattle.window_counts.proofs.PlaceLemmas.{fits_alone}
use Rattle.window_counts.proofs.placing.place_part.Goals as goal

pub returns-in-Some-clause-fits : goal.returns-in-Some-clause-fits
returns-in-Some-clause-fits c =
    let both = fits_alone c.args.problem.now c.args.counts.now c.part.result.now c.part.ensures.there in
    let ensured = rw c.limits.ensures.value at c.add_if_fits.ensures.exact in
    let fits : IsTrue c.add_if_fits.result ↔ FitsBeside c.args.problem.now c.args.counts.now (λ r. part_uses c.part.result.now r) =
    (λ t. both.0 (ensured.0 t), λ h. ensured.1 (both.1 h)) in
    rw c.in-Some.is (rw c.part.ensures.value at fits)
