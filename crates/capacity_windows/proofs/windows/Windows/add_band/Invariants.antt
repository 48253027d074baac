use Rattle.std.proofs.Common.{◌≡◌, ◌+◌, ◌≤◌, ℕ, length}
use Rattle.std.specs.Prelude.{All}
use Rattle.choice_problem.specs.Strips.{part_uses}
use Rattle.capacity_windows.specs.Bands.{weekday_uses, IsWide}
use Rattle.capacity_windows.proofs.windows.Windows.add_band.Given as goal

abbrev pub invariant-loop-weekday : goal.invariant-loop-weekday
invariant-loop-weekday l = record {
  uses : (r : ℕ) → part_uses l.strips.items r ≡ part_uses l.initial.strips.items r + weekday_uses l.self.season l.stop.period l.stop.later l.band l.weekday r;
  wide : All IsWide l.strips.items;
  few : length l.strips.items ≤ length l.initial.strips.items + l.weekday;
}
