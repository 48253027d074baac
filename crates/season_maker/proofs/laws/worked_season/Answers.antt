use Rattle.std.proofs.Common.{refl}
use Rattle.season_maker.specs.Draws.{state_after}
use Rattle.season_maker.proofs.WordLemmas.{worked_capacity, worked_requests}
use Rattle.season_maker.proofs.laws.worked_season.Goals as goal

pub returns-clause-states : goal.returns-clause-states
unfolding state_after
returns-clause-states c = (refl, refl, refl, refl)

pub returns-clause-limits : goal.returns-clause-limits
returns-clause-limits c = (refl, refl, refl, refl)

pub returns-clause-capacity : goal.returns-clause-capacity
returns-clause-capacity c = worked_capacity

pub returns-clause-requests : goal.returns-clause-requests
returns-clause-requests c = worked_requests
