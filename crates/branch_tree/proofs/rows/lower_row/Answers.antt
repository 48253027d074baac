use Rattle.std.proofs.Common.{◌<◌, length, arith}
use Rattle.std.specs.Prelude.{slice_index}
use Rattle.finite_sums.proofs.SumLemmas.{least_within-le}
use Rattle.choice_problem.specs.Problems.{alt_uses}
use Rattle.branch_tree.proofs.RowLemmas.{row-least}
use Rattle.branch_tree.proofs.rows.lower_row.Goals as goal

pub lower-requires-clause-few : goal.lower-requires-clause-few
lower-requires-clause-few c =
    let p = c.args.problem.now in
    let u = c.args.unit in
    let row = c.args.row in
    rw c.deref.ensures.value (λ i l.
    let there : i < length c.args.listed.now = omega arith in
    let r = slice_index c.args.listed.now i in
    omega (
      arith,
      c.in_ok-ones.ensures.uses i there,
      c.requires.twos.most i there,
      row-least p u row.first row.last r c.requires.ordered c.requires.row,
      least_within-le row.first row.last row.last (λ a. alt_uses p u a r) c.requires.ordered (omega arith),
      c.in_ok-ones.ensures.few r,
    ))

pub returns-clause-lowered : goal.returns-clause-lowered
returns-clause-lowered c =
    let lowered = rw c.deref.ensures.value at c.lower.ensures.lowered in
    λ i l. omega (
      arith,
      lowered i (omega arith),
      c.in_ok-ones.ensures.uses i l,
      c.requires.twos.most i l,
      c.requires.twos.enough i l,
      row-least c.args.problem.now c.args.unit c.args.row.first c.args.row.last (slice_index c.args.listed.now i) c.requires.ordered c.requires.row,
    )

pub lower-requires-clause-within : goal.lower-requires-clause-within
lower-requires-clause-within c = λ i h. omega (arith, c.requires.list i h, c.requires.count)

pub lower-requires-clause-other_within : goal.lower-requires-clause-other_within
lower-requires-clause-other_within c = λ i h. omega (arith, c.requires.within i h, c.requires.count)

pub returns-clause-within : goal.returns-clause-within
returns-clause-within c = λ i h. omega (arith, c.lower.ensures.within i h, c.requires.count)
