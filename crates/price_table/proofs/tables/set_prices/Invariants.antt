use Rattle.choice_problem.specs.Problems.{resource_count}
use Rattle.price_table.proofs.TableLemmas.{SpreadsFirst}
use Rattle.price_table.proofs.tables.set_prices.Given as goal

abbrev pub invariant-loop-entry : goal.invariant-loop-entry
invariant-loop-entry l = SpreadsFirst (resource_count l.problem) l.entry-index l.entry-items l.prices
