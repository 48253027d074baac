use Rattle.std.proofs.Common.{◌≡◌, ℕ, ◌+◌, ◌*◌, ◌<◌, slice_index}
use Rattle.std.specs.Prelude.{filter}
use Rattle.std.specs.List.{range_with_len}
use Rattle.season_days.specs.Seasons.{is_on}
use Rattle.report_lines.specs.Private.{IsPeak}
use Rattle.report_lines.proofs.profile.peak_of.Given as goal

abbrev pub invariant-loop-day : goal.invariant-loop-day
invariant-loop-day l =
    (load : ℕ → ℕ) → ((day : ℕ) → day < l.days → slice_index l.loads (l.first + day * l.starts) ≡ load day) →
    IsPeak load (filter (is_on l.season l.weekdays) (range_with_len 0 l.day)) l.found
