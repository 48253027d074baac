use Rattle.std.proofs.Common.{arith}
use Rattle.price_table.proofs.TotalLemmas.{summed-le, summed-small, summed-set}
use Rattle.price_table.proofs.totals.replace.Goals as goal

pub overflow_sub-rest : goal.overflow_sub-rest
overflow_sub-rest c = summed-le c.args.numbers.now c.args.total c.args.place c.requires.summed c.requires.place

pub overflow_add-result : goal.overflow_add-result
overflow_add-result c = omega (arith, summed-small c.args.numbers.now c.args.total c.requires.summed, c.requires.small)

pub returns-clause-summed : goal.returns-clause-summed
returns-clause-summed c =
    summed-set c.args.numbers.now c.args.total c.args.place c.args.number c.requires.summed c.requires.place c.requires.small
