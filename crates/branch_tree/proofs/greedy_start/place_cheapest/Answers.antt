use Rattle.std.proofs.Common.{◌≡◌, ℕ, ◌<◌, ◌∙◌, refl, Some}
use Rattle.std.specs.Prelude.{slice_index}
use Rattle.choice_problem.specs.Problems.{alt_count}
use Rattle.choice_problem.specs.Greedy.{FitsOn}
use Rattle.branch_tree.specs.Loops.{AreFrom}
use Rattle.branch_tree.proofs.OrderLemmas.{first_fitting, fewer_to_try, from_next, next_there}
use Rattle.branch_tree.proofs.greedy_start.place_cheapest.Goals as goal

pub returns-then-place_alt-clause-some : goal.returns-then-place_alt-clause-some
returns-then-place_alt-clause-some c =
    let p = c.args.problem.now in
    let u = c.args.unit in
    let a = c.in-Some.alt in
    let counts = c.args.counts.now in
    let there : a < alt_count p u = c.loop-next.invariant.there a c.in-Some.is in
    let fits : FitsOn p (λ r. slice_index counts r) u a = rw c.loop-next.invariant.same at (c.if-place_alt.ensures.fits.0 refl) in
    let tried : (b : ℕ) → b < alt_count p u → FitsOn p (λ r. slice_index counts r) u b → AreFrom p u (Some a) b = rw c.in-Some.is at c.loop-next.invariant.tried in
    first_fitting p u (λ r. slice_index counts r) a there fits tried

pub loop-next-smaller : goal.loop-next-smaller
loop-next-smaller c =
    let less = fewer_to_try c.args.problem.now c.args.unit c.in-Some.alt c.next_cheapest-next-in-Some.result c.next_cheapest-next-in-Some.ensures in
    rw c.in-Some.is less

pub loop-next-preserved : goal.loop-next-preserved
loop-next-preserved c =
    let p = c.args.problem.now in
    let u = c.args.unit in
    let a = c.in-Some.alt in
    let counts = c.args.counts.now in
    let next = c.next_cheapest-next-in-Some.result in
    let same : c.place_alt.new.counts ≡ counts = c.if-place_alt.ensures.left refl ∙ c.loop-next.invariant.same in
    let unfit : FitsOn p (λ r. slice_index counts r) u a → ⊥ =
    (λ f. let g = rw (← c.loop-next.invariant.same) at f in let t = c.if-place_alt.ensures.fits.1 g in absurd (cc t)) in
    let tried : (b : ℕ) → b < alt_count p u → FitsOn p (λ r. slice_index counts r) u b → AreFrom p u (Some a) b = rw c.in-Some.is at c.loop-next.invariant.tried in
    record {
      same = same;
      there = next_there p u (Some a) next (alt_count p u) c.next_cheapest-next-in-Some.ensures;
      tried = λ b l f. from_next p u a next c.next_cheapest-next-in-Some.ensures b l (λ e. unfit (rw e at f)) (tried b l f);
    }

pub returns-clause-none : goal.returns-clause-none
returns-clause-none c = λ a l f. rw c.in_default.is at (c.loop-next.invariant.tried a l f)
