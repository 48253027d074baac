use Rattle.std.proofs.Common.{◌≡◌, ◌<◌, ◌+◌, ◌∙◌, sym, subst, arith, List, [], Some}
use Rattle.std.specs.Prelude.{slice_index_or}
use Rattle.std.proofs.lemmas.List.{get_or-map}
use Rattle.choice_problem.specs.declared.vectors.Price.{Price}
use Rattle.choice_problem.specs.Bounds.{Closes}
use Rattle.choice_problem.specs.Trees.{vector_at}
use Rattle.price_table.specs.Tables.{TableView, vectors_of}
use Rattle.dual_bound.specs.Stated.{IsFloorBy, floor_by, scale_at}
use Rattle.dual_bound.specs.KeptFloors.{FloorsView}
use Rattle.dual_bound.proofs.FloorLemmas.{IsFloorBy-zero, floor_by-next, IsFloorBy-new, IsFloorBy-old, closes-next}
use Rattle.dual_bound.proofs.HoldLemmas.{totals-kept}
use Rattle.dual_bound.proofs.kept_floors.KeptFloors.floor.Goals as goal
use Rattle.dual_bound.proofs.kept_floors.KeptFloors.floor.Goals.{then-floor-cost, else-floor-cost}

pub sum_costs-requires-clause-costs : goal.sum_costs-requires-clause-costs
sum_costs-requires-clause-costs c = rw c.deref.ensures.value c.self.invariant.costs_are

pub kept_floor-cost-requires-clause-totals : goal.kept_floor-cost-requires-clause-totals
kept_floor-cost-requires-clause-totals c =
    (totals-kept c.self.inside.problem.now c.self.inside.tables.now c.self.inside.ranges c.self.inside.totals.items c.loop-place.place c.index-self-place.result c.index.result.now
    c.self.invariant.kept c.loop-place-test.true c.index.ensures).totals

pub kept_floor-cost-requires-clause-ranges : goal.kept_floor-cost-requires-clause-ranges
kept_floor-cost-requires-clause-ranges c =
    (totals-kept c.self.inside.problem.now c.self.inside.tables.now c.self.inside.ranges c.self.inside.totals.items c.loop-place.place c.index-self-place.result c.index.result.now
    c.self.invariant.kept c.loop-place-test.true c.index.ensures).at_ranges

pub kept_floor-cost-requires-clause-scale : goal.kept_floor-cost-requires-clause-scale
kept_floor-cost-requires-clause-scale c =
    (totals-kept c.self.inside.problem.now c.self.inside.tables.now c.self.inside.ranges c.self.inside.totals.items c.loop-place.place c.index-self-place.result c.index.result.now
    c.self.invariant.kept c.loop-place-test.true c.index.ensures).at_scale

pub loop-place-init : goal.loop-place-init
loop-place-init c = record {
  floor =
      subst (λ (v : FloorsView). IsFloorBy v.problem v.ranges v.vectors 0 c.sum_costs.result 0) c.self.view_is
      (IsFloorBy-zero c.self.inside.problem.now c.self.inside.ranges (vectors_of c.self.inside.tables.now) c.sum_costs.result c.sum_costs.ensures.value);
  closes = subst (λ (v : FloorsView). Closes v.problem v.ranges [] 1 (Some c.sum_costs.result)) c.self.view_is c.sum_costs.ensures.closes;
}

pub loop-place-preserved : goal.loop-place-preserved
loop-place-preserved c =
    let self : FloorsView = c.args.self.now in
    let p = c.self.inside.problem.now in
    let ranges = c.self.inside.ranges in
    let tables = c.self.inside.tables.now in
    let n = c.loop-place.place in
    let old = c.loop-place.floor in
    let next = c.kept_floor-cost.result in
    let table = c.index-self-place.result in
    let mapped = get_or-map {Y = List Price} (λ (t : TableView). t.prices) tables n table [] (omega arith) in
    let at : slice_index_or (vectors_of tables) n [] ≡ table.prices = rw (← c.index-self-place.is) at mapped in
    let same = rw (← c.index-self-place.is) at c.kept_floor-cost.ensures.value in
    let closes = rw (← c.index-self-place.is) at c.kept_floor-cost.ensures.closes in
    let given : next ≡ floor_by p ranges (vectors_of tables) (n + 1) =
    same ∙ sym (floor_by-next p ranges (vectors_of tables) n table.prices at) in
    let value : next ≡ floor_by self.problem self.ranges self.vectors (n + 1) =
    subst (λ (v : FloorsView). next ≡ floor_by v.problem v.ranges v.vectors (n + 1)) c.self.view_is given in
    let closed : 0 < next → Closes self.problem self.ranges (vector_at self.vectors (n + 1)) (scale_at (n + 1)) (Some next) = λ some.
    subst (λ (v : FloorsView). Closes v.problem v.ranges (vector_at v.vectors (n + 1)) (scale_at (n + 1)) (Some next)) c.self.view_is
    (closes-next p ranges (vectors_of tables) n table.prices (Some next) at (closes some)) in
    elim c.if-floor-cost.branch [
      | then-floor-cost w ↦ rw w.floor-is (record {
        floor = IsFloorBy-new self.problem self.ranges self.vectors n old.cost old.vector next value c.loop-place.invariant.floor (omega (arith, w.if-floor-cost));
        closes = closed (omega (arith, w.if-floor-cost));
      })
      | else-floor-cost w ↦ rw w.floor-is (record {
        floor = IsFloorBy-old self.problem self.ranges self.vectors n old.cost old.vector next value c.loop-place.invariant.floor (omega (arith, w.if-floor-cost));
        closes = c.loop-place.invariant.closes;
      })
    ]
