-- Reduced-cost fixing: alternatives that no choice below a cost takes, and the problem that is left without them.
use Rattle.std.specs.Prelude.{ℕ, ◌<◌, ◌≤◌, ◌-◌, Bool, not, nat_lt, ◌&&◌, List, [], ◌++◌, length, map, slice_index, slice_index_or, slice_set, Option, Some, None, IsSomeAnd, pos, ◌-ℤ◌, ◌*ℤ◌, int_lt}
use Rattle.std.specs.List.{filter, range_with_len}
use Rattle.choice_problem.specs.declared.vectors.Price.{Price}
use Rattle.choice_problem.specs.declared.closing.TheConstants.{SCALE_BOUND}
use Rattle.choice_problem.specs.Problems.{ProblemView, ChooserView, unit_count, alt_count, resource_count, chooser_at, alt_at, alt_uses}
use Rattle.choice_problem.specs.Bounds.{whole_of, bound_of}
use Rattle.choice_problem.specs.Trees.{vector_at}
use Rattle.cost_fixing.specs.declared.fixings.Fixing.{Fixing}

-- all alternatives of each unit, but of unit u alternative a alone
abbrev pub fixed_at : ProblemView → ℕ → ℕ → List (ℕ × ℕ)
fixed_at p u a = slice_set (whole_of p) u (a, a)

-- whether the bound with this alternative reaches the cost: then no feasible choice with it costs less
abbrev pub is_out : ProblemView → List Price → ℕ → ℕ → ℕ → ℕ → Bool
is_out p prices scale cost u a =
    int_lt (pos scale *ℤ (pos cost -ℤ pos 1)) (bound_of p (fixed_at p u a) prices scale)

-- whether the alternative uses the last resource
abbrev pub uses_last : ProblemView → ℕ → ℕ → Bool
uses_last p u a = nat_lt 0 (alt_uses p u a (resource_count p - 1))

-- of the numbers below a bound that pass a test, those that do not pass another one, and behind them those that do, each
-- by rising number
abbrev pub parted : (ℕ → Bool) → (ℕ → Bool) → ℕ → List ℕ
parted kept last n = filter (λ a. kept a && not (last a)) (range_with_len 0 n)
    ++ filter (λ a. kept a && last a) (range_with_len 0 n)

-- the unit's other alternatives: those that do not use the last resource come first
abbrev pub left_alts : ProblemView → List Price → ℕ → ℕ → ℕ → List ℕ
left_alts p prices scale cost u =
    parted (λ a. not (is_out p prices scale cost u a)) (λ a. uses_last p u a) (alt_count p u)

-- these alternatives of a unit alone, in this order; its parts are all kept
abbrev pub unit_with : ChooserView → List ℕ → ChooserView
unit_with m alts = record { parts = m.parts; alts = map (λ a. alt_at m a) alts }

-- the problem with these alternatives of each unit alone, under the same limits
abbrev pub problem_with : ProblemView → (ℕ → List ℕ) → ProblemView
problem_with p alts = record {
  units = map (λ u. unit_with (chooser_at p u) (alts u)) (range_with_len 0 (unit_count p));
  limits = p.limits;
}

-- the problem that is left
abbrev pub left_problem : ProblemView → List Price → ℕ → ℕ → ProblemView
left_problem p prices scale cost = problem_with p (λ u. left_alts p prices scale cost u)

-- each unit has an alternative left
abbrev pub LeavesSome : ProblemView → List Price → ℕ → ℕ → Type 0
LeavesSome p prices scale cost = (u : ℕ) → u < unit_count p →
    0 < length (left_alts p prices scale cost u)

-- a problem, and for each of its units the numbers that its alternatives have in a whole problem
pub record LeftView : Type 0 where
  pub problem : ProblemView
  pub alts : List (List ℕ)

abbrev pub left_view : ProblemView → List Price → ℕ → ℕ → LeftView
left_view p prices scale cost = record {
  problem = left_problem p prices scale cost;
  alts = map (λ u. left_alts p prices scale cost u) (range_with_len 0 (unit_count p));
}

-- the number in the whole problem of what a choice takes of a unit
abbrev pub whole_alt : List (List ℕ) → List ℕ → ℕ → ℕ
whole_alt alts x u = slice_index (slice_index_or alts u []) (slice_index x u)

-- the choice of the whole problem that a choice of what is left is
abbrev pub whole_choice : List (List ℕ) → List ℕ → List ℕ
whole_choice alts x = map (λ u. whole_alt alts x u) (range_with_len 0 (length alts))

-- a fixing of a stage names a vector that is there and a scale in its limit; the stage has a cost, of at most the
-- fixing's; and each unit has an alternative left
pub record FixingHolds (p : ProblemView) (vectors : List (List Price)) (cost : Option ℕ)
    (f : Fixing) : Type 0 where
  pub there : f.vector ≤ length vectors
  pub small : f.scale < SCALE_BOUND
  pub within : IsSomeAnd cost (λ n. n ≤ f.cost)
  pub left : LeavesSome p (vector_at vectors f.vector) f.scale f.cost

-- the problem that the tree of a stage is on
abbrev pub tree_problem : ProblemView → List (List Price) → Option Fixing → ProblemView
tree_problem p vectors None = p
tree_problem p vectors (Some f) =
    left_problem p (vector_at vectors f.vector) f.scale f.cost
