use Rattle.std.proofs.Common.{◌≡◌, ◌++◌, ◌∷◌, [], inl, inr, arith, refl}
use Rattle.std.proofs.lemmas.Bool.{cases_lt}
use Rattle.std.proofs.lemmas.List.{length-append, get_or_append_left, get_or_push}
use Rattle.dual_bound.proofs.same.same_parts.Goals as goal

pub loop-unit-init : goal.loop-unit-init
loop-unit-init c = rw c.new-units.ensures.items (record { count = refl; each = λ u l. absurd (omega (arith, l)) })

pub loop-unit-preserved : goal.loop-unit-preserved
loop-unit-preserved c =
    let items = c.loop-unit.units.items in
    let unit = c.loop-unit.unit in
    let parts = c.in_ok-same_in_unit.field-0 in
    let push : c.push.new.self.items ≡ items ++ parts ∷ [] = c.in_ok-push.ensures.items in
    rw push (record {
      count = omega (arith, length-append items (parts ∷ []), c.loop-unit.invariant.count);
      each = λ u l. elim (cases_lt u unit) [
        | inl below ↦ rw (get_or_append_left items (parts ∷ []) [] u (omega (arith, c.loop-unit.invariant.count))) (c.loop-unit.invariant.each u below)
        | inr last ↦ let e : unit ≡ u = omega arith in rw (← e, get_or_push items parts [] unit c.loop-unit.invariant.count) c.in_ok-same_in_unit.ensures.same
      ];
    })
