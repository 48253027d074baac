use Rattle.std.proofs.Common.{◌≡◌, map, arith}
use Rattle.std.proofs.lemmas.Grind.{common_steps}
use Rattle.choice_problem.specs.Problems.{chooser_at, ArePartsInRange, resource_count}
use Rattle.price_table.specs.Strips.{capped_cost}
use Rattle.price_table.proofs.TableLemmas.{capped_cost-PricesUnit}
use Rattle.price_table.proofs.strips.StripPrices.unit.Goals as goal

pub returns-clause-priced : goal.returns-clause-priced
returns-clause-priced c = λ prices h.
    let problem = c.args.problem.now in
    let unit = chooser_at problem c.args.unit in
    let all : c.loop-part.parts.items ≡ map (λ strips. capped_cost c.args.self.now strips) unit.parts = grind (arith, common_steps) in
    let there : ArePartsInRange (resource_count problem) unit = rw c.unit_parts-part-items.ensures.value at c.unit_parts-part-items.ensures.there in
    rw all (capped_cost-PricesUnit problem prices c.args.unit c.args.self.now h c.unit_parts-part-items.ensures.valid there)
