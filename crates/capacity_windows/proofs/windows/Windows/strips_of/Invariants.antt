use Rattle.std.proofs.Common.{◌≡◌, ◌+◌, ◌≤◌, ℕ, take, drop, length}
use Rattle.std.specs.Prelude.{sum_by, All}
use Rattle.choice_problem.specs.Strips.{part_uses}
use Rattle.capacity_windows.specs.Windows.{windows_of, window_load, rule_strips}
use Rattle.capacity_windows.specs.Bands.{rest_load, dated_movements, IsWide}
use Rattle.capacity_windows.proofs.windows.Windows.strips_of.Given as goal

abbrev pub invariant-loop-rule : goal.invariant-loop-rule
invariant-loop-rule l = record {
  number : l.first ≡ sum_by (windows_of l.self) (take l.rule-index l.rule-items);
  uses : (r : ℕ) → part_uses l.strips.items r + rest_load l.self (drop l.rule-index l.rule-items) l.first (dated_movements l.self l.stop) r ≡ window_load l.self (dated_movements l.self l.stop) r;
  wide : All IsWide l.strips.items;
  few : length l.strips.items ≤ sum_by (rule_strips l.stop.kind l.stop.period) (take l.rule-index l.rule-items);
}
