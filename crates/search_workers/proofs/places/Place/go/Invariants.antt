use Rattle.std.proofs.Common.{◌≡◌, take, length}
use Rattle.search_workers.specs.Settings.{IsPlaceIn}
use Rattle.search_workers.proofs.places.Place.go.Given as goal

abbrev pub invariant-loop-unit : goal.invariant-loop-unit
invariant-loop-unit l = record {
  place : IsPlaceIn l.task l.self;
  front : take l.unit l.self.walk.ranges ≡ take l.unit l.ranges;
  count : length l.self.walk.ranges ≡ length l.ranges;
}
