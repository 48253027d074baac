use Rattle.std.proofs.Common.{ℕ, ◌<◌, length, arith}
use Rattle.std.specs.Prelude.{slice_index}
use Rattle.finite_sums.proofs.SumLemmas.{least_within-one}
use Rattle.branch_tree.specs.Rows.{two_uses}
use Rattle.branch_tree.proofs.rows.twos_of.Goals as goal

pub lower-requires-clause-other_within : goal.lower-requires-clause-other_within
lower-requires-clause-other_within c = λ i h. absurd (omega (arith, h))

pub lower-requires-clause-few : goal.lower-requires-clause-few
lower-requires-clause-few c = rw c.deref.ensures.value (λ i l.
    let there : i < length c.args.listed.now = omega arith in
    omega (arith, c.in_ok-runs.ensures.uses i there, c.in_ok-runs.ensures.few (slice_index c.args.listed.now i)))

pub returns-clause-twos : goal.returns-clause-twos
returns-clause-twos c =
    let lowered = rw (c.deref.ensures.value, c.in_ok-twos.ensures.items) at c.lower.ensures.lowered in
    let one = λ (i : ℕ). least_within-one c.args.alt (λ a. two_uses c.args.problem.now c.args.unit a (slice_index c.args.listed.now i)) in
    record {
      most = λ i l. omega (arith, lowered i (omega arith), c.in_ok-runs.ensures.uses i l, one i);
      enough = λ i l. omega (arith, lowered i (omega arith), c.in_ok-runs.ensures.uses i l, one i);
    }

pub lower-requires-clause-within : goal.lower-requires-clause-within
lower-requires-clause-within c = rw c.in_ok-twos.ensures.items (λ i h. omega (arith, c.requires.list i h, c.requires.count))

pub returns-clause-within : goal.returns-clause-within
returns-clause-within c = λ i h. omega (arith, c.lower.ensures.within i h, c.requires.count)
