use Rattle.std.proofs.Common.{◌≡◌, take, true}
use Rattle.std.specs.Prelude.{All}
use Rattle.season_report.specs.Tallies.{comes_before}
use Rattle.season_report.proofs.airlines.place_of.Given as goal

abbrev pub invariant-loop-i : goal.invariant-loop-i
invariant-loop-i l = All (λ other. comes_before other l.airline ≡ true) (take l.i l.airlines)
