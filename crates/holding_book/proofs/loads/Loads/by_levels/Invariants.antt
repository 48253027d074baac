use Rattle.std.specs.Option.{ForSome}
use Rattle.std.specs.Prelude.{Contains}
use Rattle.series_model.specs.Displacement.{cost_at}
use Rattle.holding_book.specs.Private.Levels.{IsFloor, levels_left}
use Rattle.holding_book.specs.Private.Loads.{fits_left}
use Rattle.holding_book.specs.Private.Trials.{AreTrials}
use Rattle.holding_book.proofs.loads.Loads.by_levels.Given as goal

abbrev pub invariant-loop-level : goal.invariant-loop-level
invariant-loop-level l = record {
  trials : AreTrials l.self l.line l.trials;
  floor : IsFloor (cost_at l.self.declaration l.line) (fits_left l.self l.line) l.shifts l.level;
  there : ForSome l.level (Contains l.costs);
}

abbrev pub decreases-loop-level : goal.decreases-loop-level
decreases-loop-level l = levels_left l.costs l.level
