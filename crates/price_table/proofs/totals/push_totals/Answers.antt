use Rattle.std.proofs.Common.{rules, ◌≡◌, ◌∙◌, ◌++◌, ◌∷◌, ◌+◌, [], List, ap, sym, take, append_assoc}
use Rattle.std.proofs.lemmas.List.{take_more, map_push}
use Rattle.choice_problem.specs.declared.vectors.Price.{Price}
use Rattle.price_table.specs.Tables.{TableView, vectors_of}
use Rattle.price_table.specs.Totals.{TotalsView}
use Rattle.price_table.proofs.TotalLemmas.{kept_push}
use Rattle.price_table.proofs.totals.push_totals.Goals as goal

pub loop-table-preserved : goal.loop-table-preserved
loop-table-preserved c = λ others kept.
    let tables = c.args.tables.now in
    let i = c.loop-table.table-index in
    let table = c.table-item.result in
    let t : TotalsView = c.in_ok-of.field-0 in
    let more : take (i + 1) tables ≡ take i tables ++ table ∷ [] =
    take_more tables i table c.loop-table-test.true ∙ ap (λ (x : TableView). take i tables ++ x ∷ []) (sym c.table-item.is) in
    let vectors : vectors_of (take (i + 1) tables) ≡ vectors_of (take i tables) ++ table.prices ∷ [] =
    ap vectors_of more ∙ map_push {Y = List Price} (λ (u : TableView). u.prices) (take i tables) table in
    let pushed : c.push.new.self.items ≡ c.loop-table.totals.items ++ t ∷ [] = search rules in
    let all : others ++ vectors_of (take (i + 1) tables) ≡ (others ++ vectors_of (take i tables)) ++ table.prices ∷ [] =
    ap (λ (l : List (List Price)). others ++ l) vectors ∙ sym (append_assoc others (vectors_of (take i tables)) (table.prices ∷ [])) in
    let e = c.in_ok-of.ensures in
    rw (all, pushed) (kept_push c.args.problem.now (others ++ vectors_of (take i tables)) c.args.ranges.now c.loop-table.totals.items table.prices t
    (c.loop-table.invariant others kept) e.valid e.ranges e.scale)
