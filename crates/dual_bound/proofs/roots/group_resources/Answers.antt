use Rattle.std.proofs.Common.{◌≡◌, ℕ, ◌<◌, ◌∙◌, arith, length}
use Rattle.std.specs.Prelude.{slice_index}
use Rattle.choice_problem.specs.Problems.{resource_count}
use Rattle.dual_bound.specs.Kept.{IsKept, IsOnKept}
use Rattle.dual_bound.specs.Classes.{AreFirsts}
use Rattle.dual_bound.proofs.GroupLemmas.{AreGrouped-is, class-there}
use Rattle.dual_bound.proofs.roots.group_resources.Goals as goal

pub sizes_of-requires-clause-there : goal.sizes_of-requires-clause-there
sizes_of-requires-clause-there c =
    let p = c.args.problem.now in
    let k = c.in_ok-grouped.grouped in
    let firsts = c.in_ok-firsts.firsts.items in
    let ranks = c.in_ok-ranks.ranks.items in
    let classes = c.in_ok-classes.classes.items in
    let f : AreFirsts p firsts = c.in_ok-firsts.ensures in
    let kept : (r : ℕ) → r < resource_count p → slice_index firsts r ≡ r → IsKept ranks r = rw c.deref.ensures.value at c.in_ok-ranks.ensures.kept in
    let o : IsOnKept p ranks k = rw c.deref-4.ensures.value at c.in_ok-grouped.ensures in
    let each : (r : ℕ) → r < length firsts → slice_index classes r ≡ slice_index ranks (slice_index firsts r) =
    rw (c.deref-2.ensures.value, c.deref-3.ensures.value) at c.in_ok-classes.ensures.each in
    let count : length classes ≡ length firsts = rw c.deref-2.ensures.value at c.in_ok-classes.ensures.count in
    λ r l.
    let there : r < resource_count p = omega (arith, rw c.deref-5.ensures.value at l, count, f.count) in
    rw (c.deref-5.ensures.value, c.resources.ensures.count)
    (class-there p k firsts ranks classes f c.in_ok-ranks.ensures.ranks kept o (λ s m. each s (omega (arith, m, f.count))) r there)

pub returns : goal.returns
returns c =
    let p = c.args.problem.now in
    let k = c.in_ok-grouped.grouped in
    let firsts = c.in_ok-firsts.firsts.items in
    let ranks = c.in_ok-ranks.ranks.items in
    let classes = c.in_ok-classes.classes.items in
    let f : AreFirsts p firsts = c.in_ok-firsts.ensures in
    let kept : (r : ℕ) → r < resource_count p → slice_index firsts r ≡ r → IsKept ranks r = rw c.deref.ensures.value at c.in_ok-ranks.ensures.kept in
    let o : IsOnKept p ranks k = rw c.deref-4.ensures.value at c.in_ok-grouped.ensures in
    let each : (r : ℕ) → r < length firsts → slice_index classes r ≡ slice_index ranks (slice_index firsts r) =
    rw (c.deref-2.ensures.value, c.deref-3.ensures.value) at c.in_ok-classes.ensures.each in
    let count : length classes ≡ length firsts = rw c.deref-2.ensures.value at c.in_ok-classes.ensures.count in
    let sizes : length c.in_ok-sizes.sizes.items ≡ c.resources.result = c.in_ok-sizes.ensures.count in
    AreGrouped-is p k firsts ranks classes f c.in_ok-ranks.ensures.ranks kept o (λ s m. each s (omega (arith, m, f.count)))
    c.in_ok-sizes.sizes.items (count ∙ f.count) (sizes ∙ c.resources.ensures.count)
    (λ d l. rw c.deref-5.ensures.value at (c.in_ok-sizes.ensures.each d (omega (arith, l, c.resources.ensures.count))))
