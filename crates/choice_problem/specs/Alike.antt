-- Problems with the same numbers.
use Rattle.std.specs.Prelude.{◌≡◌, ℕ, ◌<◌}
use Rattle.choice_problem.specs.Problems.{ProblemView, unit_count, alt_count, resource_count, alt_cost, alt_uses, limit_of}

-- as many units, alternatives and resources, and the same costs, uses and limits; parts and strips may differ
pub record AreAlike (p q : ProblemView) : Type 0 where
  pub units : unit_count p ≡ unit_count q
  pub alts : (u : ℕ) → u < unit_count p → alt_count p u ≡ alt_count q u
  pub costs : (u a : ℕ) → u < unit_count p → a < alt_count p u → alt_cost p u a ≡ alt_cost q u a
  pub uses : (u a r : ℕ) → u < unit_count p → a < alt_count p u → alt_uses p u a r
      ≡ alt_uses q u a r
  pub resources : resource_count p ≡ resource_count q
  pub limits : (r : ℕ) → r < resource_count p → limit_of p r ≡ limit_of q r
