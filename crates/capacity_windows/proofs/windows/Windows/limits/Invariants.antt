use Rattle.std.proofs.Common.{◌≡◌, length, take}
use Rattle.std.specs.Prelude.{sum_by}
use Rattle.capacity_windows.specs.Windows.{windows_of}
use Rattle.capacity_windows.specs.Kept.{AreLimits}
use Rattle.capacity_windows.proofs.windows.Windows.limits.Given as goal

abbrev pub invariant-loop-rule : goal.invariant-loop-rule
invariant-loop-rule l = record {
  limits : AreLimits l.self l.limits.items;
  count : length l.limits.items ≡ sum_by (windows_of l.self) (take l.rule-index l.rule-items);
}
