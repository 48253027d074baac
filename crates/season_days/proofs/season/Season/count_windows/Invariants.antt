use Rattle.std.proofs.Common.{◌≡◌, ◌*◌, ◌≤◌, take}
use Rattle.std.specs.Prelude.{sum_by}
use Rattle.season_days.specs.Seasons.{date_count}
use Rattle.season_days.specs.Capacity.{starts_of}
use Rattle.season_days.specs.declared.declaration.Rule.{Rule}
use Rattle.season_days.proofs.season.Season.count_windows.Given as goal

abbrev pub invariant-loop-rule : goal.invariant-loop-rule
invariant-loop-rule l =
    record {
      counted : l.count ≡ sum_by (λ (r : Rule). date_count l.self * starts_of l.step r) (take l.rule-index l.rules);
      bound : l.count ≤ 312480 * l.rule-index;
    }
