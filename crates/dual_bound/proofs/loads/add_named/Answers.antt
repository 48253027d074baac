use Rattle.std.proofs.Common.{◌≡◌, ℕ, ◌+◌, refl, arith}
use Rattle.choice_problem.specs.Strips.{part_uses}
use Rattle.choice_problem.specs.Problems.{chooser_at, named_uses}
use Rattle.dual_bound.proofs.EndLemmas.{AreEnds-same}
use Rattle.dual_bound.proofs.loads.add_named.Goals as goal

pub returns-in-Some : goal.returns-in-Some
returns-in-Some c = λ n uses h room.
    let m = chooser_at c.args.problem.now c.args.unit in
    let same : (r : ℕ) → named_uses m c.args.named r ≡ part_uses c.part.result.now r = λ r. rw (c.in-Some.is, c.part.ensures.value) refl in
    AreEnds-same n (λ r. uses r + part_uses c.part.result.now r) (λ r. uses r + named_uses m c.args.named r) c.add_part.new.begins c.add_part.new.ends
    (λ r. omega (arith, same r)) (c.add_part.ensures n uses h (λ r l. omega (arith, same r, room r l)))
