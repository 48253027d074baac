use Rattle.std.proofs.Common.{◌≡◌, ◌++◌, take}
use Rattle.std.specs.Prelude.{All}
use Rattle.price_table.specs.Tables.{IsTableFor, vectors_of}
use Rattle.price_table.proofs.tables.push_tables.Given as goal

abbrev pub invariant-loop-vector : goal.invariant-loop-vector
invariant-loop-vector l = record {
  valid : All (IsTableFor l.problem) l.tables.items;
  vectors : vectors_of l.tables.items ≡ vectors_of l.initial.tables.items ++ take l.vector-index l.vectors;
}
