use Rattle.std.proofs.Common.{◌≡◌, ◌<◌, ◌≤◌, ℕ, length, get_or, set, refl, ◌∙◌, ap, arith}
use Rattle.std.proofs.lemmas.List.{get_or_read}
use Rattle.finite_sums.specs.Sums.{least_within}
use Rattle.choice_problem.specs.Problems.{alt_uses}
use Rattle.choice_problem.specs.Bounds.{low_of}
use Rattle.cert_checker.proofs.KeptLoadLemmas.{part-within, load-small, unit-moved}
use Rattle.cert_checker.proofs.kept_loads.follow_unit.Goals as goal

pub overflow_sub-kept : goal.overflow_sub-kept
overflow_sub-kept c =
    let uses = c.args.kept.now.uses.items in
    let within : c.args.unit < length uses = omega (arith, c.requires.unit, c.requires.kept.count) in
    let read : c.index.result.now ≡ get_or uses c.args.unit 0 = get_or_read uses c.args.unit c.index.result.now within c.index.ensures 0 in
    let part : get_or uses c.args.unit 0 ≤ c.args.kept.now.load = part-within c.args.problem.now c.args.kept.now c.args.unit c.requires.kept c.requires.unit in
    omega (arith, c.from.ensures, read, part)

pub overflow_add-kept : goal.overflow_add-kept
overflow_add-kept c =
    let small = load-small c.args.problem.now c.args.kept.now c.requires.kept in
    omega (arith, small, c.from-2.ensures, c.least_uses-uses.ensures.few)

pub returns-clause-kept : goal.returns-clause-kept
returns-clause-kept c =
    let p = c.args.problem.now in
    let old = c.args.kept.now in
    let ranges = c.args.ranges.now in
    let unit = c.args.unit in
    let uses = old.uses.items in
    let within : unit < length uses = omega (arith, c.requires.unit, c.requires.kept.count) in
    let read : c.index.result.now ≡ get_or uses unit 0 = get_or_read uses unit c.index.result.now within c.index.ensures 0 in
    let part : get_or uses unit 0 ≤ old.load = part-within p old unit c.requires.kept c.requires.unit in
    let of : ℕ → ℕ = λ (a : ℕ). alt_uses p unit a old.resource in
    unit-moved p old _ ranges unit c.least_uses-uses.result c.requires.kept c.requires.unit
    (c.least_uses-uses.ensures.value ∙ ap (λ (l : ℕ). least_within l c.high-high.result of) c.low-low.ensures ∙ ap (λ (h : ℕ). least_within (low_of ranges unit) h of) c.high-high.ensures)
    c.least_uses-uses.ensures.few refl
    (c.set.ensures.value ∙ ap (λ (l : ℕ). set old.ranges unit (l, c.high-high.result)) c.low-low.ensures ∙ ap (λ (h : ℕ). set old.ranges unit (low_of ranges unit, h)) c.high-high.ensures)
    refl (omega (arith, c.from.ensures, c.from-2.ensures, read, part))
    (c.set.ensures.valid p c.requires.kept.valid (omega (arith, c.low-low.ensures, c.high-high.ensures, c.requires.ranges.ordered unit c.requires.unit)) (omega (arith, c.high-high.ensures, c.requires.ranges.there unit c.requires.unit)))
