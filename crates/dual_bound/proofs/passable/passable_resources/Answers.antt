use Rattle.std.proofs.Common.{◌≡◌, ℕ, ◌<◌, length, arith}
use Rattle.std.specs.Prelude.{slice_index}
use Rattle.std.proofs.lemmas.Result.{IfOk-weaker}
use Rattle.choice_problem.specs.Problems.{resource_count}
use Rattle.dual_bound.specs.Kept.{AreAbove, IsNeverPassed}
use Rattle.dual_bound.proofs.PassableLemmas.{ListPassable-all, ListPassable-ones}
use Rattle.dual_bound.proofs.passable.passable_resources.Goals as goal

pub returns-then-len-resources : goal.returns-then-len-resources
returns-then-len-resources c =
    let p = c.args.problem.now in
    let counts = c.in_ok-counts.counts.items in
    let list = c.in_ok-above.above.items in
    let above : AreAbove p counts (resource_count p) list = rw c.deref.ensures.value at c.in_ok-above.ensures in
    ListPassable-all p list above.rising above.there
    (λ r l o x h. omega (arith, c.in_ok-counts.ensures.most x h r (omega (arith, l, c.in_ok-counts.ensures.count)), above.rest r l o, above.small r l))

pub returns : goal.returns
returns c =
    let p = c.args.problem.now in
    let counts = c.in_ok-counts.counts.items in
    let list = c.in_ok-above.above.items in
    let firsts = c.in_ok-firsts.firsts.items in
    let above : AreAbove p counts (resource_count p) list = rw c.deref.ensures.value at c.in_ok-above.ensures in
    let rest : (r : ℕ) → r < resource_count p → ((i : ℕ) → i < length list → slice_index list i ≡ r → ⊥) → IsNeverPassed p r =
    λ r l o x h. omega (arith, c.in_ok-counts.ensures.most x h r (omega (arith, l, c.in_ok-counts.ensures.count)), above.rest r l o, above.small r l) in
    IfOk-weaker c.first_ones.result _ _
    (λ ones a. ListPassable-ones p list above.rising above.there rest firsts ones.items c.in_ok-firsts.ensures (rw (c.deref-3.ensures.value, c.deref-4.ensures.value) at a))
    c.first_ones.ensures
