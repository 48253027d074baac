use Rattle.std.proofs.Common.{◌≡◌, ◌∙◌, ℕ, ◌<◌, ap, arith, inl, inr, List, [], length, set}
use Rattle.std.specs.Prelude.{slice_index_or, slice_set}
use Rattle.std.proofs.lemmas.Bool.{cases_lt, cases_eq}
use Rattle.std.proofs.lemmas.List.{get_or-map, get_or_default, get_or-set_same, get_or-set_other, length-set, length-map}
use Rattle.choice_problem.specs.declared.vectors.Price.{Price}
use Rattle.price_table.specs.Tables.{TableView, vectors_of}
use Rattle.price_table.specs.Totals.{TotalsView, totals_at}
use Rattle.price_table.proofs.totals.set_kept.Goals as goal

pub loop-place-preserved : goal.loop-place-preserved
loop-place-preserved c =
    let totals = c.loop-place.totals in
    let place = c.loop-place.place in
    let inv = c.loop-place.invariant in
    let vectors : List (List Price) = vectors_of c.args.tables.now in
    let t : TotalsView = c.index-totals-place.result in
    let new : TotalsView = c.set.new.self in
    let none : TotalsView = record { ranges = []; scale = 0; least = []; limits = 0 } in
    let table = c.index-tables-place.result in
    let within : place < length totals = omega (arith, c.loop-place-test.true, c.loop-place.auto, inv.count, c.requires.kept.count) in
    let there : place < length vectors = omega (arith, within, inv.count) in
    let at : slice_index_or totals place t ≡ totals_at totals place = get_or_default totals place t none within in
    let mapped = get_or-map {Y = List Price} (λ (v : TableView). v.prices) c.args.tables.now place table [] (omega (arith, there, length-map {B = List Price} c.args.tables.now (λ (v : TableView). v.prices))) in
    let vector : slice_index_or vectors place [] ≡ table.prices = rw (← c.index-tables-place.is) at mapped in
    let same : totals_at (set totals place new) place ≡ new = get_or-set_same totals place new none within in
    let other : (k : ℕ) → (k ≡ place → ⊥) → totals_at (set totals place new) k ≡ totals_at totals k = λ k o. get_or-set_other totals place k new none o in
    record {
      count = length-set totals place new ∙ inv.count;
      each = λ k l. elim (cases_eq k place) [
        | inl e ↦ rw (e, same, vector) c.set.ensures.valid
        | inr o ↦ rw (other k o) (inv.each k l)
      ];
      set = λ k l. elim (cases_lt k place) [
        | inl below ↦ rw (other k (λ e. omega (arith, e, below))) (inv.set k below)
        | inr last ↦
            let e : k ≡ place = omega (arith, l, last) in
            rw (e, same) (c.set.ensures.ranges ∙ ap (λ (s : TotalsView). slice_set s.ranges c.args.unit (c.args.low, c.args.high)) at
            ∙ ap (λ r. slice_set r c.args.unit (c.args.low, c.args.high)) (inv.rest place there (omega arith)))
      ];
      rest = λ k l m. rw (other k (λ e. omega (arith, e, m))) (inv.rest k l (omega (arith, m)));
      at_scale = λ k l. elim (cases_eq k place) [
        | inl e ↦ rw (e, same) (c.set.ensures.scale ∙ ap (λ (s : TotalsView). s.scale) at ∙ inv.at_scale place there)
        | inr o ↦ rw (other k o) (inv.at_scale k l)
      ];
    }
