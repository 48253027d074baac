use Rattle.std.proofs.Common.{◌≡◌, ℕ, ◌∙◌, arith, inl, inr, Bool, true, length}
use Rattle.std.specs.Prelude.{vec_len, slice_index, ◌==◌}
use Rattle.std.proofs.lemmas.Grind.{common_steps}
use Rattle.std.proofs.lemmas.Bool.{cases_lt}
use Rattle.finite_sums.specs.Sums.{least_within}
use Rattle.choice_problem.specs.Problems.{alt_uses}
use Rattle.finite_sums.proofs.SumLemmas.{least_within-le, least_within-ge}
use Rattle.branch_tree.specs.Lists.{times_in}
use Rattle.branch_tree.proofs.ListLemmas.{times-empty}
use Rattle.branch_tree.proofs.RowLemmas.{least_within-part}
use Rattle.branch_tree.proofs.least_uses.lower_rows.Goals as goal

pub twos_of-requires-clause-list : goal.twos_of-requires-clause-list
twos_of-requires-clause-list c = rw c.deref.ensures.value c.requires.within

pub move_twos-requires-clause-list : goal.move_twos-requires-clause-list
move_twos-requires-clause-list c = rw c.deref-in-loop-done.ensures.value c.loop-done.invariant.within

pub loop-done-init : goal.loop-done-init
loop-done-init c =
    let p = c.args.problem.now in
    let u = c.args.unit in
    record {
      from = omega arith;
      to = omega arith;
      ordered = omega arith;
      there = c.requires.there;
      twos_are = rw c.deref.ensures.value at c.in_ok-twos.ensures.twos;
      twos_within = c.in_ok-twos.ensures.within;
      above = λ i n. omega (
        arith,
        least_within-le c.args.low c.args.high c.args.low (λ a. alt_uses p u a (slice_index c.args.listed.now i)) (omega arith) c.requires.ordered,
        c.requires.first i n,
      );
      first = λ i n. omega (arith, c.requires.first i n);
      tried = λ a i n l m. absurd (omega arith);
      within = c.requires.within;
      same = c.in_ok-twos.ensures.same;
    }

zero_is : (n : ℕ) (b : Bool) → b ≡ (n == 0) → b ≡ true → n ≡ 0
zero_is n b e t = grind (arith, common_steps)

pub returns-then-is_empty-clause-least : goal.returns-then-is_empty-clause-least
returns-then-is_empty-clause-least c = λ i n.
    let list = c.loop-done.list in
    let none : vec_len list ≡ 0 = zero_is (vec_len list) c.is_empty.result c.is_empty.ensures c.if-is_empty.true in
    let nothing : length list.items ≡ 0 = omega arith in
    omega (arith, times-empty list.items i nothing, c.loop-done.invariant.above i n)

pub lower_row-requires-clause-twos : goal.lower_row-requires-clause-twos
lower_row-requires-clause-twos c = rw c.deref-in-loop-done-2.ensures.value (rw c.deref-in-loop-done.ensures.value at c.in_ok-move_twos.ensures.twos)

pub lower_row-requires-clause-within : goal.lower_row-requires-clause-within
lower_row-requires-clause-within c = rw c.deref-in-loop-done-2.ensures.value c.in_ok-move_twos.ensures.within

pub loop-done-preserved : goal.loop-done-preserved
loop-done-preserved c =
    let p = c.args.problem.now in
    let u = c.args.unit in
    let i = c.loop-done.invariant in
    let next = c.row_before-next.result in
    let lowered = c.in_ok-lower_row.ensures.lowered in
    let twos = rw c.deref-in-loop-done.ensures.value at c.in_ok-move_twos.ensures.twos in
    record {
      from = c.row_before-next.ensures.from;
      to = omega (arith, i.to, c.row_before-next.ensures.some);
      ordered = omega (arith, c.row_before-next.ensures.some, c.row_before-next.ensures.last);
      there = omega (arith, c.row_before-next.ensures.last, i.to, c.requires.there, c.loop-done-test.true);
      twos_are = record { most = twos.most; enough = λ k n. omega (arith, twos.enough k n, lowered k n) };
      twos_within = c.in_ok-move_twos.ensures.within;
      above = λ k n. omega (
        arith,
        i.above k n,
        lowered k n,
        least_within-part c.args.low c.args.high next.first next.last (λ a. alt_uses p u a (slice_index c.args.listed.now k)) (omega arith) (omega arith) (omega arith),
      );
      first = λ k n. omega (arith, i.first k n, lowered k n);
      tried = λ a k n l m. elim (cases_lt a c.loop-done.done) [
        | inl inside ↦ omega (
          arith,
          lowered k n,
          least_within-le next.first next.last a (λ b. alt_uses p u b (slice_index c.args.listed.now k)) l (omega (arith, inside, c.row_before-next.ensures.last)),
        )
        | inr after ↦ omega (arith, lowered k n, i.tried a k n after m)
      ];
      within = c.in_ok-lower_row.ensures.within;
      same = c.in_ok-lower_row.ensures.same ∙ (c.in_ok-move_twos.ensures.same ∙ i.same);
    }

pub returns-clause-least : goal.returns-clause-least
returns-clause-least c = λ k n.
    let p = c.args.problem.now in
    let u = c.args.unit in
    let i = c.loop-done.invariant in
    let list = c.loop-done.list.items in
    let below = least_within-ge c.args.low c.args.high (times_in list k) (λ a. alt_uses p u a (slice_index c.args.listed.now k)) c.requires.ordered
    (λ a l m. i.tried a k n (omega (arith, l, c.loop-done-test.false)) m) in
    omega (arith, below, i.above k n)
