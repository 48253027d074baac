use Rattle.std.proofs.Common.{arith}
use Rattle.std.specs.Prelude.{slice_index}
use Rattle.branch_tree.proofs.placed.choice_loads.Goals as goal

pub returns-clause-loads : goal.returns-clause-loads
returns-clause-loads c = λ i l. omega (
  arith,
  c.in_ok-loads.ensures.each i l,
  c.add_choice-cost.ensures.loads (slice_index c.args.listed.now i) (c.requires.there i l),
)
