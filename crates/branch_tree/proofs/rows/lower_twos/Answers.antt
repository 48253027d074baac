use Rattle.std.proofs.Common.{◌≡◌, ℕ, ◌<◌, ◌∙◌, refl, arith, inl, inr, Bool, true, length}
use Rattle.std.specs.Prelude.{vec_len, slice_index, ◌==◌}
use Rattle.std.proofs.lemmas.Bool.{cases_lt}
use Rattle.std.proofs.lemmas.Grind.{common_steps}
use Rattle.finite_sums.proofs.SumLemmas.{least_within-le, least_within-ge}
use Rattle.branch_tree.specs.Lists.{times_in}
use Rattle.branch_tree.specs.Rows.{two_uses}
use Rattle.branch_tree.proofs.ListLemmas.{times-empty}
use Rattle.branch_tree.proofs.RowLemmas.{least_within-part}
use Rattle.branch_tree.proofs.rows.lower_twos.Goals as goal

pub loop-alt-init : goal.loop-alt-init
loop-alt-init c =
    let p = c.args.problem.now in
    let u = c.args.unit in
    record {
      above = λ i m. omega (
        arith,
        c.requires.twos.enough i m,
        least_within-part c.args.row.first c.args.row.last c.args.from c.args.row.last (λ a. two_uses p u a (slice_index c.args.listed.now i)) c.requires.row c.requires.from (omega arith),
      );
      known = λ i m. omega (arith, c.requires.twos.most i m);
      tried = λ a i n l m. absurd (omega arith);
      within = c.requires.within;
      same = refl;
    }

zero_is : (n : ℕ) (b : Bool) → b ≡ (n == 0) → b ≡ true → n ≡ 0
zero_is n b e t = grind (arith, common_steps)

pub returns-then-is_empty-clause-twos : goal.returns-then-is_empty-clause-twos
returns-then-is_empty-clause-twos c =
    let list = c.loop-alt.twos in
    let none : vec_len list ≡ 0 = zero_is (vec_len list) c.is_empty.result c.is_empty.ensures c.if-is_empty.true in
    let nothing : length list.items ≡ 0 = omega arith in
    record {
      most = λ i m. omega (arith, times-empty list.items i nothing);
      enough = c.loop-alt.invariant.above;
    }

pub returns-then-is_empty-clause-within : goal.returns-then-is_empty-clause-within
returns-then-is_empty-clause-within c = c.loop-alt.invariant.within

pub returns-then-is_empty-clause-same : goal.returns-then-is_empty-clause-same
returns-then-is_empty-clause-same c = c.loop-alt.invariant.same

pub returns-in_err-other-clause-same : goal.returns-in_err-other-clause-same
returns-in_err-other-clause-same c = c.loop-alt.invariant.same

pub lower-requires-clause-within : goal.lower-requires-clause-within
lower-requires-clause-within c = λ r h. omega (arith, c.loop-alt.invariant.within r h)

pub lower-requires-clause-other_within : goal.lower-requires-clause-other_within
lower-requires-clause-other_within c = λ r h. absurd (omega (arith, h))

pub lower-requires-clause-few : goal.lower-requires-clause-few
lower-requires-clause-few c = rw c.deref.ensures.value (λ i l.
    let m : i < length c.args.listed.now = omega arith in
    omega (arith, c.in_ok-other.ensures.uses i m, c.in_ok-other.ensures.few (slice_index c.args.listed.now i)))

pub lower-requires-clause-zeros : goal.lower-requires-clause-zeros
lower-requires-clause-zeros c = rw c.loop-alt.invariant.same c.requires.zeros

pub loop-alt-preserved : goal.loop-alt-preserved
loop-alt-preserved c =
    let p = c.args.problem.now in
    let u = c.args.unit in
    let i = c.loop-alt.invariant in
    let alt = c.loop-alt.alt in
    let lowered = rw c.deref.ensures.value at c.lower.ensures.lowered in
    record {
      above = λ k n. omega (
        arith,
        lowered k (omega arith),
        i.above k n,
        c.in_ok-other.ensures.uses k n,
        least_within-le c.args.row.first c.args.row.last alt (λ a. two_uses p u a (slice_index c.args.listed.now k)) (omega arith) (omega arith),
      );
      known = λ k n. omega (arith, lowered k (omega arith), i.known k n);
      tried = λ a k n l m. elim (cases_lt a alt) [
        | inl before ↦ omega (arith, lowered k (omega arith), i.tried a k n l before)
        | inr same ↦ let e : a ≡ alt = omega (arith, same, m) in rw e (omega (arith, lowered k (omega arith), c.in_ok-other.ensures.uses k n))
      ];
      within = λ r h. omega (arith, c.lower.ensures.within r h);
      same = c.lower.ensures.same ∙ i.same;
    }

pub returns-clause-twos : goal.returns-clause-twos
returns-clause-twos c =
    let p = c.args.problem.now in
    let u = c.args.unit in
    let i = c.loop-alt.invariant in
    let twos = c.loop-alt.twos.items in
    record {
      most = λ k n. least_within-ge c.args.row.first c.args.row.last (times_in twos k) (λ a. two_uses p u a (slice_index c.args.listed.now k)) (omega arith)
          (λ a l m. elim (cases_lt a c.args.from) [
            | inl before ↦ i.tried a k n l (omega (arith, before, c.loop-alt-test.false))
            | inr after ↦ omega (arith, i.known k n, least_within-le c.args.from c.args.row.last a (λ b. two_uses p u b (slice_index c.args.listed.now k)) after m)
          ]);
      enough = i.above;
    }

pub returns-clause-within : goal.returns-clause-within
returns-clause-within c = c.loop-alt.invariant.within

pub returns-clause-same : goal.returns-clause-same
returns-clause-same c = c.loop-alt.invariant.same
