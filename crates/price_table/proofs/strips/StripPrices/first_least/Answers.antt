use Rattle.std.proofs.Common.{◌≡◌, ℕ, ◌<◌, ◌∙◌, [], List, length, map, sym, subst}
use Rattle.std.specs.Prelude.{slice_index}
use Rattle.std.proofs.lemmas.List.{ext_get_or, get_or-map}
use Rattle.std.proofs.Math.ListN.{length-map}
use Rattle.choice_problem.specs.declared.vectors.Price.{Price}
use Rattle.choice_problem.specs.Problems.{ProblemView, IsChooser, ArePartsInRange, resource_count, part_count, chooser_at, part_at}
use Rattle.choice_problem.specs.Bounds.{low_of, high_of}
use Rattle.price_table.specs.Tables.{PricesUnit}
use Rattle.price_table.specs.Strips.{AreSumsOf, capped_cost}
use Rattle.price_table.proofs.TableLemmas.{capped_cost-PricesUnit}
use Rattle.price_table.proofs.BoundLemmas.{least_within-priced, first_least-priced, PricesUnit-priceable}
use Rattle.price_table.proofs.strips.StripPrices.first_least.Goals as goal

-- costs of each part of a unit price its alternatives
costs-PricesUnit : (p : ProblemView) (prices : List Price) (u : ℕ) (sums costs : List ℕ) → AreSumsOf (resource_count p) prices sums →
    IsChooser (chooser_at p u) → ArePartsInRange (resource_count p) (chooser_at p u) → length costs ≡ part_count p u →
    ((n : ℕ) → n < part_count p u → slice_index costs n ≡ capped_cost sums (part_at (chooser_at p u) n)) → PricesUnit p prices u costs
costs-PricesUnit p prices u sums costs h m there count each =
    subst (λ parts. PricesUnit p prices u parts) (sym all) (capped_cost-PricesUnit p prices u sums h m there)
  where
    cost : ℕ → ℕ
    cost n = capped_cost sums (part_at (chooser_at p u) n)

    same_length : length costs ≡ length (map (λ strips. capped_cost sums strips) (chooser_at p u).parts)
    same_length = simp (length-map, count)

    all : costs ≡ map (λ strips. capped_cost sums strips) (chooser_at p u).parts
    all = ext_get_or 0 costs (map (λ strips. capped_cost sums strips) (chooser_at p u).parts) same_length
        (λ n l. each n (rw count at l) ∙ sym (get_or-map (λ strips. capped_cost sums strips) (chooser_at p u).parts n [] 0 (rw count at l)))

pub first_least-requires-clause-priceable : goal.first_least-requires-clause-priceable
first_least-requires-clause-priceable c =
    let p = c.args.problem.now in
    let u = c.args.unit in
    let h = c.requires.priced.1 in
    let there : ArePartsInRange (resource_count p) (chooser_at p u) = rw c.unit_parts-parts.ensures.value at c.unit_parts-parts.ensures.there in
    rw c.unit_alts.ensures.value
    (PricesUnit-priceable p c.requires.priced.0 u _ h.vector h.sums_are.few c.unit_alts.ensures.valid
    (costs-PricesUnit p c.requires.priced.0 u c.args.self.now c.args.parts.now h.sums_are c.unit_alts.ensures.valid there c.requires.count c.requires.each))

pub returns-clause-alt : goal.returns-clause-alt
returns-clause-alt c = λ prices h.
    let p = c.args.problem.now in
    let u = c.args.unit in
    let ranges = c.args.ranges.now in
    let there : ArePartsInRange (resource_count p) (chooser_at p u) = rw c.unit_parts-parts.ensures.value at c.unit_parts-parts.ensures.there in
    let priced : PricesUnit p prices u c.args.parts.now =
    costs-PricesUnit p prices u c.args.self.now c.args.parts.now h.sums_are c.unit_alts.ensures.valid there c.requires.count c.requires.each in
    rw (c.low-low.ensures, c.high-high.ensures, c.unit_alts.ensures.value) at c.first_least.ensures.alt
    ∙ first_least-priced p prices u c.args.scale (low_of ranges u) (high_of ranges u) c.args.parts.now
    priced (c.requires.ranges.ordered u c.requires.unit) (c.requires.ranges.there u c.requires.unit)

pub returns-clause-cost : goal.returns-clause-cost
returns-clause-cost c = λ prices h.
    let p = c.args.problem.now in
    let u = c.args.unit in
    let ranges = c.args.ranges.now in
    let there : ArePartsInRange (resource_count p) (chooser_at p u) = rw c.unit_parts-parts.ensures.value at c.unit_parts-parts.ensures.there in
    let priced : PricesUnit p prices u c.args.parts.now =
    costs-PricesUnit p prices u c.args.self.now c.args.parts.now h.sums_are c.unit_alts.ensures.valid there c.requires.count c.requires.each in
    rw (c.low-low.ensures, c.high-high.ensures, c.unit_alts.ensures.value) at c.first_least.ensures.cost
    ∙ least_within-priced p prices u c.args.scale (low_of ranges u) (high_of ranges u) c.args.parts.now
    priced (c.requires.ranges.ordered u c.requires.unit) (c.requires.ranges.there u c.requires.unit)
