use Rattle.std.proofs.Common.{◌≡◌, ◌<◌, ◌≤◌, ◌-◌, ◌^◌, ℕ, ◌+◌, min, length, arith}
use Rattle.std.specs.Prelude.{slice_index}
use Rattle.finite_sums.specs.Sums.{sum_below}
use Rattle.finite_sums.proofs.SumLemmas.{sum_below-more}
use Rattle.choice_problem.specs.Problems.{unit_count, alt_count, alt_uses}
use Rattle.dual_bound.proofs.counts.count_units.Goals as goal

pub loop-unit-preserved : goal.loop-unit-preserved
loop-unit-preserved c =
    let p = c.args.problem.now in
    let unit = c.loop-unit.unit in
    let there : unit < unit_count p = omega (arith, c.loop-unit-test.true, c.units-unit-end.ensures.count) in
    let each : (x : ℕ → ℕ) → ((u : ℕ) → u < unit_count p → x u < alt_count p u) → (r : ℕ) → r < length c.count_unit.new.counts →
    min (sum_below (unit + 1) (λ u. alt_uses p u (x u) r)) (2 ^ 32 - 1) ≤ slice_index c.count_unit.new.counts r =
    λ x h r l.
    let within : r < length c.loop-unit.counts = omega (arith, l, c.count_unit.auto.counts) in
    let grown = c.in_ok-count_unit.ensures.counted (x unit) (h unit there) r l in
    omega (arith, sum_below-more unit (λ u. alt_uses p u (x u) r), c.loop-unit.invariant.counted x h r within, grown) in
    record {
      counted = each;
    }

pub returns : goal.returns
returns c = λ x h.
    let all : c.loop-unit.unit ≡ unit_count c.args.problem.now = omega (arith, c.loop-unit-test.false, c.units-unit-end.ensures.count, c.loop-unit.auto.unit-end) in
    rw all at (c.loop-unit.invariant.counted x h)
