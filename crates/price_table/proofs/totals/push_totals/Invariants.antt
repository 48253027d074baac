use Rattle.std.proofs.Common.{List, ◌++◌, take}
use Rattle.choice_problem.specs.declared.vectors.Price.{Price}
use Rattle.price_table.specs.Tables.{vectors_of}
use Rattle.price_table.specs.Totals.{AreKeptFor}
use Rattle.price_table.proofs.totals.push_totals.Given as goal

abbrev pub invariant-loop-table : goal.invariant-loop-table
invariant-loop-table l = (vectors : List (List Price)) →
    AreKeptFor l.problem vectors l.ranges l.initial.totals.items →
    AreKeptFor l.problem (vectors ++ vectors_of (take l.table-index l.tables)) l.ranges l.totals.items
