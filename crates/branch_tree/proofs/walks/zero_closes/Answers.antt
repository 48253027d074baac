use Rattle.std.proofs.Common.{ℕ, ◌≤◌, arith}
use Rattle.std.specs.Prelude.{IsTrue, nat_le}
use Rattle.std.proofs.lemmas.Grind.{common_steps}
use Rattle.branch_tree.proofs.WalkLemmas.{zero-closes, closes-zero}
use Rattle.branch_tree.proofs.walks.zero_closes.Goals as goal

at_most : (a b : ℕ) → IsTrue (nat_le a b) → a ≤ b
at_most a b t = grind (arith, common_steps)

test_passes : (a b : ℕ) → a ≤ b → IsTrue (nat_le a b)
test_passes a b l = grind (arith, common_steps)

pub returns-in-Some : goal.returns-in-Some
returns-in-Some c =
    let p = c.args.problem.now in
    let ranges = c.args.ranges.now in
    let x = c.args.alts.now in
    let seen = c.in-Some.seen in
    rw c.in-Some.is (
      λ t. zero-closes p ranges x seen c.requires.ranges c.requires.alts (omega (arith, at_most seen c.args.cost t, c.requires.cost)),
      λ h. test_passes seen c.args.cost (omega (arith, closes-zero p ranges x seen c.requires.ranges c.requires.alts h, c.requires.cost)),
    )
