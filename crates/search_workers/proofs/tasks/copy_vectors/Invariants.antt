use Rattle.std.proofs.Common.{◌≡◌, take}
use Rattle.price_table.specs.Tables.{vectors_of}
use Rattle.search_workers.proofs.tasks.copy_vectors.Given as goal

abbrev pub invariant-loop-table : goal.invariant-loop-table
invariant-loop-table l = l.vectors.items ≡ vectors_of (take l.table-index l.tables)
