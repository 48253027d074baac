use Rattle.std.proofs.Common.{rules, ℕ, ◌+◌, ◌<◌, List, [], ◌∷◌, ◌++◌, length, get_or, take, sym, subst, Option}
use Rattle.std.proofs.lemmas.List.{take_more}
use Rattle.holding_book.specs.Private.Levels.{lesser, IsNextLevel}
use Rattle.holding_book.proofs.LevelLemmas.{next_more}
use Rattle.holding_book.proofs.levels.next_level.Goals as goal

pub loop-cost-preserved : goal.loop-cost-preserved
loop-cost-preserved c =
    let costs = c.args.costs.now in
    let last = c.args.last in
    let i = c.loop-cost.cost-index in
    let least = c.loop-cost.least in
    let there : i < length costs = search rules in
    let more : IsNextLevel last (take i costs ++ get_or costs i 0 ∷ []) (lesser least last (get_or costs i 0)) = next_more last (take i costs) (get_or costs i 0) least c.loop-cost.invariant.least in
    let taken : IsNextLevel last (take (i + 1) costs) (lesser least last (get_or costs i 0)) = subst (λ (xs : List ℕ). IsNextLevel last xs (lesser least last (get_or costs i 0))) (sym (take_more costs i 0 there)) more in
    record {
      least = subst (λ (next : Option ℕ). IsNextLevel last (take (i + 1) costs) next) (sym c.lesser-least.ensures) taken;
    }
