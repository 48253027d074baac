-- The lines of a stage, part by part. Contracts of private functions alone cite this.
use Rattle.std.specs.Prelude.{◌≡◌, ℕ, ◌+◌, List, [], ◌∷◌, ◌++◌, length, flat_map, Option, Some, None}
use Rattle.std.specs.List.{AllByRecursion}
use Rattle.choice_problem.specs.declared.nodes.Node.{Node}
use Rattle.cert_format.specs.declared.cert.Floor.{Floor}
use Rattle.cert_checker.specs.declared.verdict.Reason.{Reason}
use Rattle.choice_problem.specs.Problems.{ProblemView}
use Rattle.choice_problem.specs.Bounds.{whole_of}
use Rattle.cert_format.specs.declared.cert.StageCert.{StageCert}
use Rattle.cert_format.specs.Proofs.{problem_of_tree}
use Rattle.cert_checker.specs.declared.verdict.Verdict.{Verdict}
use Rattle.cert_checker.specs.declared.verdict.Verdict.TheVariants.{Yes, No}
use Rattle.cert_checker.specs.Tests.{Test, tree_shaped, tree_open, Passes, cost_tests, bound_tests, vector_tests, fixing_tests, node_tests, floors_after}
use Rattle.cert_checker.specs.Verdicts.{FailsFirst, IsVerdict}

-- the verdict on lines, and where it is Yes the number of the line after them
pub record IsPart (p : ProblemView) (c : StageCert) (number : ℕ) (lines : List (List Test))
    (verdict : Verdict) (next : ℕ) : Type 0 where
  pub verdict_is : IsVerdict (Passes p c) number lines verdict
  pub counted : verdict ≡ Yes → next ≡ number + length lines

-- the lines from the cost on, from the bound on, and so forth
abbrev pub tree_part : ProblemView → StageCert → List (List Test)
tree_part p c =
    (tree_shaped ∷ tree_open ∷ [])
    ∷ node_tests (whole_of (problem_of_tree p c) ∷ []) c.tree c.floors

abbrev pub fixing_part : ProblemView → StageCert → List (List Test)
fixing_part p c = fixing_tests c.fixing ++ tree_part p c

abbrev pub vectors_part : ProblemView → StageCert → List (List Test)
vectors_part p c = [] ∷ (flat_map vector_tests c.vectors ++ fixing_part p c)

abbrev pub bound_part : ProblemView → StageCert → List (List Test)
bound_part p c = bound_tests c.bound ++ vectors_part p c

abbrev pub cost_part : ProblemView → StageCert → List (List Test)
cost_part p c = cost_tests c.cost ++ bound_part p c

-- a stage without its fixing: the tests of its tree on the problem that the fixing leaves are those
-- of this one
abbrev pub unfixed : StageCert → StageCert
unfixed c = record c { fixing = None }

-- what is still to come decides the whole: a verdict on the lines that are left is one on all lines
abbrev pub Completes : ProblemView → StageCert → ℕ → List (List Test) → ℕ → List (List Test) →
    Type 0
Completes p c at left number lines =
    (verdict : Verdict) (next : ℕ) → IsPart p c at left verdict next →
    IsPart p c number lines verdict next

-- why the first of a line's tests fails, or none where each passes
abbrev pub IsLineFault : (Test → Type 0) → List Test → Option Reason → Type 0
IsLineFault Holds tests None = AllByRecursion Holds tests
IsLineFault Holds tests (Some reason) = FailsFirst Holds tests reason

-- a node first in line passes, and what follows it is pending as the walk says; or the line is
-- refused
abbrev pub GoesOnBy : ProblemView → StageCert → List (List (ℕ × ℕ)) → Node → List Floor →
    List (List (ℕ × ℕ)) → Option Reason → Type 0
GoesOnBy p c old node floors new None =
    (nodes : List Node) (at number : ℕ) (lines : List (List Test)) →
    Completes p c at (node_tests old (node ∷ nodes) floors) number lines →
    Completes p c (at + 1) (node_tests new nodes (floors_after node floors)) number lines
GoesOnBy p c old node floors new (Some reason) =
    (nodes : List Node) (at number next : ℕ) (lines : List (List Test)) →
    Completes p c at (node_tests old (node ∷ nodes) floors) number lines →
    IsPart p c number lines (No at reason) next
