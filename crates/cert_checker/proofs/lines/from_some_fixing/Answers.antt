use Rattle.std.proofs.Common.{rules, ◌≡◌, Some, sym, ◌∙◌, ap, subst}
use Rattle.std.specs.Prelude.{Option, All}
use Rattle.choice_problem.specs.Problems.{ProblemView}
use Rattle.choice_problem.specs.Bounds.{IsVector}
use Rattle.cost_fixing.specs.declared.fixings.Fixing.{Fixing}
use Rattle.cost_fixing.specs.Fixings.{FixingHolds, tree_problem}
use Rattle.cert_format.specs.declared.cert.Mark.TheVariants.{Optimal}
use Rattle.cert_format.specs.Proofs.{problem_of_tree}
use Rattle.cert_checker.proofs.FixedLemmas.{vectors-left, tree-by, fixing-passed}
use Rattle.cert_checker.proofs.lines.from_some_fixing.Goals as goal

pub check_tree-requires-clause-vectors : goal.check_tree-requires-clause-vectors
check_tree-requires-clause-vectors c =
    let p = c.args.problem.now in
    let cert = c.args.cert.now in
    let f = c.args.fixing.now in
    let is : c.in-Some.left ≡ tree_problem p cert.vectors (Some f) = search rules in
    subst (λ (q : ProblemView). All (IsVector q) cert.vectors) (sym is) (vectors-left p cert.vectors f cert.vectors c.requires.vectors)

pub returns-in_ok-last-in-Some : goal.returns-in_ok-last-in-Some
returns-in_ok-last-in-Some c =
    let p = c.args.problem.now in
    let cert = c.args.cert.now in
    let f = c.args.fixing.now in
    let last = c.in_ok-last-in-Some.last in
    let is : c.in-Some.left ≡ tree_problem p cert.vectors (Some f) = search rules in
    let holds : FixingHolds p cert.vectors cert.cost f = search rules in
    let mark : cert.mark ≡ Optimal = search rules in
    let tree : c.in-Some.left ≡ problem_of_tree p cert = is ∙ ap (λ (o : Option Fixing). tree_problem p cert.vectors o) (sym c.requires.fixing) in
    fixing-passed p cert c.args.line f last.verdict last.next c.requires.fixing (record { optimal = mark; holds = holds })
    (tree-by p c.in-Some.left cert _ last.verdict last.next tree c.in_ok-last-in-Some.ensures)
