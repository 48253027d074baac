use Rattle.std.proofs.Common.{◌≡◌, ◌++◌, take}
use Rattle.std.specs.List.{flat_map}
use Rattle.season_report.specs.Tallies.{airline_line}
use Rattle.season_report.proofs.airlines.put_airlines.Given as goal

abbrev pub invariant-loop-airline : goal.invariant-loop-airline
invariant-loop-airline l = l.out.items ≡ l.initial.out.items ++ flat_map (airline_line l.declaration l.units) (take l.airline-index l.airline-items)
