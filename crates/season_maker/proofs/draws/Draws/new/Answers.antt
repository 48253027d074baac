use Rattle.std.proofs.Common.{refl}
use Rattle.season_maker.specs.Draws.{state_after}
use Rattle.season_maker.proofs.draws.Draws.new.Goals as goal

pub returns : goal.returns
unfolding state_after
returns c = refl
