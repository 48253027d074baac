use Rattle.std.proofs.Common.{ℕ, Some, sym, subst}
use Rattle.std.specs.Prelude.{IfSome}
use Rattle.choice_problem.specs.Choices.{choice_cost}
use Rattle.choice_problem.specs.Bounds.{whole_of}
use Rattle.choice_problem.specs.Trees.{IsSound}
use Rattle.cost_fixing.specs.Fixings.{FixingHolds, tree_problem}
use Rattle.tested_trees.specs.declared.closed.Closed.TheVariants.{Optimal}
use Rattle.tested_trees.proofs.FoundLemmas.{within-start}
use Rattle.tested_trees.proofs.found.optimal.Goals as goal

pub returns-clause-closed : goal.returns-clause-closed
returns-clause-closed c =
    let p = c.args.problem.now in
    let x = c.args.choice in
    let r = c.requires in
    let q = tree_problem p c.args.vectors c.args.fixing in
    let sound : IsSound q c.args.vectors (Some (choice_cost p x)) (whole_of q) c.args.tree =
    subst (λ (n : ℕ). IsSound q c.args.vectors (Some n) (whole_of q) c.args.tree) (sym r.cost) r.closes.sound in
    let holds : IfSome c.args.fixing (FixingHolds p c.args.vectors (Some (choice_cost p x))) =
    subst (λ (n : ℕ). IfSome c.args.fixing (FixingHolds p c.args.vectors (Some n))) (sym r.cost) r.closes.fixed in
    (r.closes, r.feasible, r.cost, c.fixed_best.ensures.tree p c.args.vectors c.args.fixing c.args.tree x r.closes.each r.feasible holds sound r.closes.whole)

pub returns-clause-start : goal.returns-clause-start
returns-clause-start c =
    within-start c.args.problem.now c.args.start.now c.args.cost (Optimal c.args.choice c.args.cost c.args.fixing c.args.tree c.args.vectors) (λ most within. within) c.requires.within
