use Rattle.std.proofs.Common.{◌≡◌, ℕ, not}
use Rattle.price_table.specs.Totals.{AreTotalsFor}
use Rattle.cost_fixing.specs.Fixings.{is_out, uses_last}
use Rattle.cost_fixing.specs.Loops.{AreWholeBut}
use Rattle.cost_fixing.proofs.ListLemmas.{passing, before, behind}
use Rattle.cost_fixing.proofs.numbers.unit_numbers.Given as goal

abbrev pub invariant-loop-alt : goal.invariant-loop-alt
invariant-loop-alt l = record {
  totals : AreTotalsFor l.problem l.table.prices l.totals;
  whole : AreWholeBut l.problem l.unit l.totals.ranges;
  scale : l.totals.scale ≡ l.fn.totals.scale;
  numbers : l.numbers.items
      ≡ passing (before (λ (a : ℕ). not (is_out l.problem l.table.prices l.fn.totals.scale l.cost l.unit a)) (λ (a : ℕ). uses_last l.problem l.unit a)) l.alt;
  last : l.last.items
      ≡ passing (behind (λ (a : ℕ). not (is_out l.problem l.table.prices l.fn.totals.scale l.cost l.unit a)) (λ (a : ℕ). uses_last l.problem l.unit a)) l.alt;
}
