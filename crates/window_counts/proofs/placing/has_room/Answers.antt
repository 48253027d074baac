use Rattle.std.proofs.Common.{◌↔◌}
use Rattle.std.specs.Prelude.{IsTrue}
use Rattle.choice_problem.specs.Strips.{part_uses}
use Rattle.window_counts.specs.Placed.{FitsOnce}
use Rattle.window_counts.proofs.PlaceLemmas.{kept_at}
use Rattle.window_counts.proofs.placing.has_room.Goals as goal

pub returns-in-Some : goal.returns-in-Some
returns-in-Some c =
    let both = kept_at c.args.problem.now c.args.counts.now c.part.result.now (λ _. 1) c.part.ensures.there in
    let ensured = rw c.limits.ensures.value at c.has_room.ensures in
    let room : IsTrue c.has_room.result ↔ FitsOnce c.args.problem.now c.args.counts.now (λ r. part_uses c.part.result.now r) =
    (λ t. both.0 (ensured.0 t), λ h. ensured.1 (both.1 h)) in
    rw c.in-Some.is (rw c.part.ensures.value at room)
