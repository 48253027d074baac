use Rattle.cost_fixing.proofs.AlikeLemmas.{tree-alike, holds-alike}
use Rattle.cost_fixing.proofs.laws.alike_fixings.Goals as goal

pub returns-clause-tree : goal.returns-clause-tree
returns-clause-tree c =
    let law = c.alike_problems.ensures in
    tree-alike (λ p q alike. law.whole p q alike) (λ p q ranges prices scale alike. law.bound p q ranges prices scale alike)

pub returns-clause-holds : goal.returns-clause-holds
returns-clause-holds c =
    let law = c.alike_problems.ensures in
    holds-alike (λ p q alike. law.whole p q alike) (λ p q ranges prices scale alike. law.bound p q ranges prices scale alike)
