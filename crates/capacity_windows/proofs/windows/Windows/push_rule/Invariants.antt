use Rattle.std.proofs.Common.{◌≡◌, ◌+◌, ◌*◌, length}
use Rattle.capacity_windows.specs.Kept.{AreLimits}
use Rattle.capacity_windows.proofs.windows.Windows.push_rule.Given as goal

abbrev pub invariant-loop-day : goal.invariant-loop-day
invariant-loop-day l = record {
  limits : AreLimits l.self l.limits.items;
  count : length l.limits.items ≡ length l.initial.limits.items + l.day * l.starts;
}
