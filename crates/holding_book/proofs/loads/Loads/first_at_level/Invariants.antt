use Rattle.std.proofs.Common.{◌≡◌, drop}
use Rattle.series_model.specs.Displacement.{cost_at}
use Rattle.holding_book.specs.Private.Levels.{first_at_level}
use Rattle.holding_book.specs.Private.Loads.{fits_left}
use Rattle.holding_book.specs.Private.Trials.{AreTrials}
use Rattle.holding_book.proofs.loads.Loads.first_at_level.Given as goal

abbrev pub invariant-loop-n : goal.invariant-loop-n
invariant-loop-n l = record {
  trials : AreTrials l.self l.line l.trials;
  rest : first_at_level (cost_at l.self.declaration l.line) (fits_left l.self l.line) l.level l.shifts ≡ first_at_level (cost_at l.self.declaration l.line) (fits_left l.self l.line) l.level (drop l.n l.shifts);
}
