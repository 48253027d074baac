use Rattle.std.proofs.Common.{rules, ◌≡◌, ◌∙◌, ◌++◌, ◌∷◌, ◌+◌, [], ap, sym, take}
use Rattle.std.proofs.lemmas.List.{take_more}
use Rattle.price_table.specs.Tables.{TableView, vectors_of}
use Rattle.search_workers.proofs.TaskLemmas.{vectors-push}
use Rattle.search_workers.proofs.tasks.copy_vectors.Goals as goal

pub loop-table-preserved : goal.loop-table-preserved
loop-table-preserved c =
    let tables = c.args.tables.now in
    let i = c.loop-table.table-index in
    let t : TableView = c.table-item.result in
    let more : take (i + 1) tables ≡ take i tables ++ t ∷ [] =
    take_more tables i t c.loop-table-test.true ∙ ap (λ (x : TableView). take i tables ++ x ∷ []) (sym c.table-item.is) in
    let pushed : c.push.new.self.items ≡ c.loop-table.vectors.items ++ t.prices ∷ [] = search rules in
    pushed ∙ (ap (λ l. l ++ t.prices ∷ []) c.loop-table.invariant ∙ sym (ap vectors_of more ∙ vectors-push (take i tables) t))
