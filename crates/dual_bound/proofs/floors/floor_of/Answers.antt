use Rattle.std.proofs.Common.{◌≡◌, ◌+◌, ◌∙◌, sym, arith, List, []}
use Rattle.std.specs.Prelude.{slice_index_or, Some}
use Rattle.std.proofs.lemmas.List.{get_or-map}
use Rattle.choice_problem.specs.declared.vectors.Price.{Price}
use Rattle.price_table.specs.Tables.{TableView, vectors_of}
use Rattle.dual_bound.specs.Stated.{floor_by}
use Rattle.dual_bound.proofs.FloorLemmas.{floor_by-next, IsFloorBy-new, IsFloorBy-old, closes-next}
use Rattle.dual_bound.proofs.floors.floor_of.Goals as goal
use Rattle.dual_bound.proofs.floors.floor_of.Goals.{then-floor-cost, else-floor-cost}

pub loop-place-preserved : goal.loop-place-preserved
loop-place-preserved c =
    let p = c.args.problem.now in
    let ranges = c.args.ranges.now in
    let tables = c.args.tables.now in
    let n = c.loop-place.place in
    let old = c.loop-place.floor in
    let next = c.priced_floor-cost.result in
    let table = c.index-tables-place.result in
    let mapped = get_or-map {Y = List Price} (λ (t : TableView). t.prices) tables n table [] (omega arith) in
    let at : slice_index_or (vectors_of tables) n [] ≡ table.prices = rw (← c.index-tables-place.is) at mapped in
    let value : next ≡ floor_by p ranges (vectors_of tables) (n + 1) =
    c.priced_floor-cost.ensures.value ∙ sym (floor_by-next p ranges (vectors_of tables) n table.prices at) in
    elim c.if-floor-cost.branch [
      | then-floor-cost w ↦ rw w.floor-is (record {
        floor = IsFloorBy-new p ranges (vectors_of tables) n old.cost old.vector next value c.loop-place.invariant.floor (omega (arith, w.if-floor-cost));
        closes = closes-next p ranges (vectors_of tables) n table.prices (Some next) at (c.priced_floor-cost.ensures.closes (omega (arith, w.if-floor-cost)));
      })
      | else-floor-cost w ↦ rw w.floor-is (record {
        floor = IsFloorBy-old p ranges (vectors_of tables) n old.cost old.vector next value c.loop-place.invariant.floor (omega (arith, w.if-floor-cost));
        closes = c.loop-place.invariant.closes;
      })
    ]
