use Rattle.std.proofs.Common.{◌≡◌, ℕ, refl, subst, rules}
use Rattle.std.specs.Prelude.{filter}
use Rattle.std.specs.List.{range_with_len}
use Rattle.season_days.specs.Seasons.{is_on}
use Rattle.report_lines.specs.Private.{IsPeak}
use Rattle.report_lines.proofs.PeakLemmas.{peak_step}
use Rattle.report_lines.proofs.profile.peak_of.Goals as goal

pub loop-day-init : goal.loop-day-init
loop-day-init c = λ load same. refl

pub loop-day-preserved : goal.loop-day-preserved
loop-day-preserved c = λ load same.
    peak_step load (is_on c.args.season.now c.args.weekdays) c.loop-day.day _ c.loop-day.found c.with_day-found.result c.is_on.result (same c.loop-day.day c.loop-day-test.true) c.is_on.ensures c.with_day-found.ensures (c.loop-day.invariant load same)

pub returns : goal.returns
returns c = λ load same.
    let end : c.loop-day.day ≡ c.args.days = search rules in
    subst (λ (n : ℕ). IsPeak load (filter (is_on c.args.season.now c.args.weekdays) (range_with_len 0 n)) c.loop-day.found) end (c.loop-day.invariant load same)
