use Rattle.std.proofs.Common.{◌≡◌, ◌∙◌, refl, sym, length}
use Rattle.choice_problem.specs.Problems.{unit_count}
use Rattle.search_workers.proofs.places.Place.go.Goals as goal

pub loop-unit-init : goal.loop-unit-init
loop-unit-init c =
    let e = c.ranges-here.ensures in
    let count : length c.args.self.now.walk.ranges ≡ unit_count c.args.task.now.problem = rw (e.value, c.requires.place.problem) at e.valid.length in
    record {
      place = c.requires.place;
      front = refl;
      count = count ∙ sym c.requires.ranges.length;
    }
