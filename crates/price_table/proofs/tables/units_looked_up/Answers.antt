use Rattle.std.proofs.Common.{◌≡◌, ◌++◌, ◌∷◌, [], inl, inr, arith, length}
use Rattle.std.proofs.lemmas.Bool.{cases_lt}
use Rattle.std.proofs.lemmas.List.{length-append, get_or_append_left, get_or_push}
use Rattle.price_table.proofs.FewLemmas.{AreFewPrices-of}
use Rattle.price_table.proofs.tables.units_looked_up.Goals as goal

pub looked_up-requires-clause-few : goal.looked_up-requires-clause-few
looked_up-requires-clause-few c = rw c.items-prices.ensures (AreFewPrices-of c.args.problem.now c.args.vector.now c.requires.vector c.requires.few)

pub loop-unit-preserved : goal.loop-unit-preserved
loop-unit-preserved c =
    let units = c.loop-unit.units.items in
    let unit = c.loop-unit.unit in
    let parts = c.in_ok-looked_up.field-0 in
    let push : c.push.new.self.items ≡ units ++ parts ∷ [] = c.in_ok-push.ensures.items in
    let count : length units ≡ unit = c.loop-unit.invariant.count in
    record {
      count = rw push (omega (arith, length-append units (parts ∷ []), count));
      each = λ u l. rw push (elim (cases_lt u unit) [
        | inl below ↦ rw (get_or_append_left units (parts ∷ []) [] u (omega (arith, count))) (c.loop-unit.invariant.each u below)
        | inr last ↦ let e : unit ≡ u = omega arith in
            rw (← e, get_or_push units parts [] unit count) (rw c.items-prices.ensures at c.in_ok-looked_up.ensures)
      ]);
    }
