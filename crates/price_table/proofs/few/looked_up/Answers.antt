use Rattle.std.proofs.Common.{◌≡◌, ℕ, ◌<◌, [], true, arith, ap, subst, List, length}
use Rattle.std.specs.Prelude.{slice_index, slice_index_or}
use Rattle.choice_problem.specs.declared.problems.Alt.{Alt}
use Rattle.choice_problem.specs.declared.strips.Strip.{Strip}
use Rattle.choice_problem.specs.Problems.{chooser_at, part_at, part_count}
use Rattle.price_table.specs.Private.Few.{capped_priced}
use Rattle.price_table.specs.Private.Named.{NamedAreMarked, is_named}
use Rattle.price_table.proofs.FewLemmas.{capped_priced-PricesUnit}
use Rattle.price_table.proofs.few.looked_up.Goals as goal

pub returns : goal.returns
returns c =
    let p = c.args.problem.now in
    let u = c.args.unit in
    let prices = c.args.prices.now in
    let parts : List (List Strip) = c.unit_parts-items.result.now in
    let named = c.in_ok-named.named.items in
    let costs = c.loop-place.parts.items in
    let all : length parts ≡ part_count p u = ap length c.unit_parts-items.ensures.value in
    let count : length costs ≡ part_count p u = omega (arith, all, c.loop-place.invariant.count, c.loop-place-test.false, c.loop-place.auto.place-end) in
    let of_unit : NamedAreMarked (chooser_at p u).alts (part_count p u) named =
    subst (λ (alts : List Alt). NamedAreMarked alts (part_count p u) named) c.unit_alts.ensures.value (subst (λ k. NamedAreMarked c.unit_alts.result.now k named) all c.in_ok-named.ensures) in
    let each : (k : ℕ) → k < part_count p u → is_named named k ≡ true → slice_index costs k ≡ capped_priced prices (part_at (chooser_at p u) k) =
    subst (λ (items : List (List Strip)). (k : ℕ) → k < part_count p u → is_named named k ≡ true → slice_index costs k ≡ capped_priced prices (slice_index_or items k []))
    c.unit_parts-items.ensures.value (λ k l t. c.loop-place.invariant.each k (omega (arith, l, count, c.loop-place.invariant.count)) t) in
    capped_priced-PricesUnit p prices u costs named c.requires.vector c.requires.resources c.unit_parts-items.ensures.valid of_unit count each
