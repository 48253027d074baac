use Rattle.std.proofs.Common.{◌≡◌, ◌<◌, length, rules, arith, refl}
use Rattle.choice_problem.specs.Bounds.{IsVector}
use Rattle.choice_problem.proofs.VectorLemmas.{IsVector-follows, IsVector-from_each}
use Rattle.choice_problem.proofs.vectors.Vector.is_for.Goals as goal

pub returns-then-not-follows : goal.returns-then-not-follows
returns-then-not-follows c =
    rw (← c.self.view_is) (
      λ t. absurd (cc t),
      λ v. let prices = c.deref-entry-items.result.now in
          let within : c.loop-entry.entry-index < length prices = search rules in
          let vector : IsVector c.args.problem.now prices = rw c.deref-entry-items.ensures.value v in
          c.if-not-follows.ensures.exact.1
          (IsVector-follows c.args.problem.now prices c.loop-entry.entry-index c.loop-entry.next within c.loop-entry.invariant.least vector),
    )

pub returns : goal.returns
returns c =
    let prices = c.deref-entry-items.result.now in
    let all : length prices ≡ c.loop-entry.entry-index = omega (arith, c.loop-entry.auto.entry-index-end, c.loop-entry-test.false) in
    let vector : IsVector c.args.problem.now prices = IsVector-from_each c.args.problem.now prices
    (λ i j b l. c.loop-entry.invariant.rising i j b (omega (arith, all, l)))
    (λ i l. c.loop-entry.invariant.each i (omega (arith, all, l))) in
    rw (← c.self.view_is) ((λ _. rw c.deref-entry-items.ensures.value at vector), (λ _. refl))
