use Rattle.std.proofs.Common.{◌≡◌, ◌∷◌, None, Some, map}
use Rattle.price_table.specs.Tables.{TableView}
use Rattle.kept_bounds.proofs.bounds.listed_tables.Given as goal

abbrev pub invariant-loop-table : goal.invariant-loop-table
invariant-loop-table l = l.places.items ≡ None ∷ map (λ (t : TableView). Some t) l.yielded
