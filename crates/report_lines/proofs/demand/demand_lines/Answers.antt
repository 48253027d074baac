use Rattle.std.proofs.Common.{ℕ, ◌<◌, List, ◌++◌, length, slice_index, Some, sym, ◌∙◌, ap, subst, refl}
use Rattle.std.specs.Prelude.{slice_get}
use Rattle.season_days.specs.Capacity.{Capacity, declared_resources}
use Rattle.capacity_windows.specs.Windows.{window_limit}
use Rattle.series_model.specs.declared.unit.Unit.{Unit as SlotUnit}
use Rattle.report_lines.specs.Peaks.{excess_lines, demand_excess}
use Rattle.report_lines.specs.Private.{lines_load}
use Rattle.report_lines.proofs.DemandLemmas.{lines_are, demand_is}
use Rattle.report_lines.proofs.demand.demand_lines.Goals as goal

pub returns : goal.returns
returns c =
    let d = c.args.submission.now.declaration in
    let units = c.args.submission.now.units in
    let k = c.windows-windows.result.now in
    let same = c.windows-windows.ensures.value in
    let e = demand_excess d units in
    let wrote = c.in_ok-put_lines.ensures e (demand_is d units _ (ap length c.deref.ensures.value ∙ c.in_ok-limits.ensures.count ∙ ap declared_resources same)
    (λ r lt. ap (λ (l : List ℕ). slice_get l r) c.deref.ensures.value ∙ c.in_ok-limits.ensures.each r (subst (λ (q : Capacity). r < declared_resources q) (sym same) lt) ∙ ap (λ (q : Capacity). Some (window_limit q r)) same)
    (λ r lt. ap (λ (l : List ℕ). slice_index l r) c.deref-2.ensures.value ∙ c.in_ok-loads.ensures.each r (subst (λ (q : Capacity). r < declared_resources q) (sym same) lt) ∙ ap (λ (us : List SlotUnit). lines_load k us r) c.units.ensures.value ∙ ap (λ (q : Capacity). lines_load q units r) same ∙ lines_are d units r) refl) in
    wrote ∙ ap (λ (l : List ℕ). l ++ excess_lines k e) c.new-out.ensures.items ∙ ap (λ (q : Capacity). excess_lines q e) same
