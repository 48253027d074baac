-- Classes of a problem's resources, each with the resource that stands for it.
use Rattle.std.specs.Prelude.{◌≡◌, ◌<◌, List, All, AllPairs, pos}
use Rattle.choice_problem.specs.Problems.{ProblemView, resource_count, limit_of}
use Rattle.resource_classes.specs.declared.classes.Class.{Class}

-- the class names a resource of the problem, and has its limit
pub record IsClassOf (p : ProblemView) (c : Class) : Type 0 where
  pub there : c.resource < resource_count p
  pub limit : c.limit ≡ pos (limit_of p c.resource)

-- the classes name resources of the problem, by rising number
pub record ArePicked (p : ProblemView) (classes : List Class) : Type 0 where
  pub rising : AllPairs (λ (c d : Class). c.resource < d.resource) classes
  pub each : All (IsClassOf p) classes
