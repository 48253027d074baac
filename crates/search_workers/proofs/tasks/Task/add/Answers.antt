use Rattle.std.proofs.Common.{rules, ◌≡◌, ◌∙◌, ◌++◌, ◌∷◌, ◌+◌, ◌<◌, ◌≤◌, [], List, ap, sym, arith, length, inl}
use Rattle.price_table.specs.Tables.{TableView, vectors_of}
use Rattle.search_workers.specs.Settings.{IsWider}
use Rattle.search_workers.specs.Outcomes.{IsJoinedBy}
use Rattle.choice_problem.specs.declared.vectors.Price.{Price}
use Rattle.search_workers.proofs.TaskLemmas.{tables_more, setting_wider, vectors-push, count_is}
use Rattle.search_workers.proofs.tasks.Task.add.Goals as goal

pub invariant_of-self-2 : goal.invariant_of-self-2
invariant_of-self-2 c =
    let s = c.self.inside in
    let t : TableView = c.in_ok-table.table in
    let pushed : c.push.new.self.items ≡ s.tables.items ++ t ∷ [] = search rules in
    let room : length s.tables.items < 64 = search (rules, arith) in
    let count : length c.items.result.now ≡ length t.prices = ap length (c.items.ensures ∙ sym c.in_ok-table.ensures.vector) in
    let few : s.prices + length t.prices ≤ 1000000 = omega (arith, count, c.if-prices-gt-MOST_PRICES.false) in
    rw (pushed, count) (tables_more s.walk.problem s.greedy s.tables.items s.given s.prices c.self.invariant t (rw c.problem.ensures at c.in_ok-table.ensures.valid) room few)

pub returns-clause-wider : goal.returns-clause-wider
returns-clause-wider c =
    let s = c.self.inside in
    let t : TableView = c.in_ok-table.table in
    let pushed : c.push.new.self.items ≡ s.tables.items ++ t ∷ [] = search rules in
    let room : length s.tables.items < 64 = search (rules, arith) in
    let count : length c.items.result.now ≡ length t.prices = ap length (c.items.ensures ∙ sym c.in_ok-table.ensures.vector) in
    let few : s.prices + length t.prices ≤ 1000000 = omega (arith, count, c.if-prices-gt-MOST_PRICES.false) in
    let w : IsWider (record { problem = s.walk.problem; greedy = s.greedy; vectors = vectors_of s.tables.items })
    (record { problem = s.walk.problem; greedy = s.greedy; vectors = vectors_of c.push.new.self.items }) =
    rw pushed (setting_wider s.walk.problem s.greedy s.tables.items s.given s.prices c.self.invariant t (rw c.problem.ensures at c.in_ok-table.ensures.valid) room few) in
    rw (← c.self.view_is) w

pub returns-clause-joined : goal.returns-clause-joined
returns-clause-joined c =
    let s = c.self.inside in
    let t : TableView = c.in_ok-table.table in
    let vectors : List (List Price) = vectors_of s.tables.items in
    let vector : List Price = c.args.vector.now in
    let pushed : c.push.new.self.items ≡ s.tables.items ++ t ∷ [] = search rules in
    let room : length s.tables.items < 64 = search (rules, arith) in
    let count : length c.items.result.now ≡ length vector = ap length c.items.ensures in
    let some : 0 < length vector = search (rules, arith) in
    let few : s.prices + length vector ≤ 1000000 = omega (arith, count, c.if-prices-gt-MOST_PRICES.false) in
    let joined : IsJoinedBy vectors vector (vectors_of c.push.new.self.items) = inl (
      record {
        some = some;
        few = omega (arith, count_is s.tables.items, room);
        few_prices = omega (arith, few, c.self.invariant.prices_are);
      },
      rw (pushed, ← c.in_ok-table.ensures.vector) (vectors-push s.tables.items t),
    ) in
    rw (← c.self.view_is) joined
