use Rattle.std.proofs.Common.{rules, ◌≡◌, ◌∙◌, ◌++◌, ◌∷◌, [], ap}
use Rattle.std.proofs.lemmas.List.Elements.{All-cons, All-nil}
use Rattle.price_table.specs.Tables.{TableView, IsTableFor, vectors_of}
use Rattle.search_workers.proofs.tasks.first_tables.Goals as goal

pub push_tables-requires-clause-tables : goal.push_tables-requires-clause-tables
push_tables-requires-clause-tables c =
    let p = c.args.problem.now in
    let t : TableView = c.in_ok-root_table.field-0 in
    let first : c.push.new.self.items ≡ t ∷ [] = search rules in
    rw first (All-cons (IsTableFor p) t [] c.in_ok-root_table.ensures.valid (All-nil (IsTableFor p)))

pub returns-clause-root : goal.returns-clause-root
returns-clause-root c =
    let t : TableView = c.in_ok-root_table.field-0 in
    let given = c.args.further.now in
    let first : c.push.new.self.items ≡ t ∷ [] = search rules in
    let is : vectors_of c.push_tables.new.tables.items ≡ t.prices ∷ given = c.in_ok-push_tables.ensures.vectors ∙ ap (λ l. vectors_of l ++ given) first in
    (t.prices, c.in_ok-root_table.ensures.root, c.in_ok-root_table.ensures.valid.vector, is)
