use Rattle.std.proofs.Common.{◌≡◌, ◌++◌, ◌∷◌, [], ◌∙◌, inl, inr, arith, length}
use Rattle.std.proofs.lemmas.Bool.{cases_lt}
use Rattle.std.proofs.lemmas.List.{length-append, get_or_append_left, get_or_push}
use Rattle.dual_bound.proofs.kept_floors.costs_of.Goals as goal

pub loop-unit-preserved : goal.loop-unit-preserved
loop-unit-preserved c =
    let items = c.loop-unit.costs.items in
    let unit = c.loop-unit.unit in
    let cost = c.least_cost.result in
    let push : c.push.new.self.items ≡ items ++ cost ∷ [] = c.in_ok-push.ensures.items in
    let value = rw (c.low.ensures, c.high.ensures) at c.least_cost.ensures.value in
    let count : length items ≡ unit = c.loop-unit.invariant.count in
    record {
      count = rw push (omega (arith, length-append items (cost ∷ []), count));
      each = λ u l. rw push (elim (cases_lt u unit) [
        | inl below ↦ get_or_append_left items (cost ∷ []) 0 u (omega (arith, count)) ∙ c.loop-unit.invariant.each u below
        | inr last ↦ let e : unit ≡ u = omega arith in
            rw (← e) (get_or_push items cost 0 unit count ∙ value)
      ]);
      small = λ u l. rw push (elim (cases_lt u unit) [
        | inl below ↦ rw (get_or_append_left items (cost ∷ []) 0 u (omega (arith, count))) (c.loop-unit.invariant.small u below)
        | inr last ↦ let e : unit ≡ u = omega arith in
            rw (← e, get_or_push items cost 0 unit count) c.least_cost.ensures.small
      ]);
    }
