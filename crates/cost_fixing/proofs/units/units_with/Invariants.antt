use Rattle.std.proofs.Common.{◌≡◌, map}
use Rattle.std.specs.Prelude.{All}
use Rattle.std.specs.List.{range_with_len}
use Rattle.choice_problem.specs.Problems.{ArePartsInRange, resource_count, chooser_at}
use Rattle.cost_fixing.specs.Fixings.{unit_with}
use Rattle.cost_fixing.specs.Loops.{alts_in}
use Rattle.cost_fixing.proofs.units.units_with.Given as goal

abbrev pub invariant-loop-unit : goal.invariant-loop-unit
invariant-loop-unit l = record {
  value : l.units.items ≡ map (λ u. unit_with (chooser_at l.problem u) (alts_in l.numbers u)) (range_with_len 0 l.unit);
  there : All (ArePartsInRange (resource_count l.problem)) l.units.items;
}
