-- Which searches the problem of a stage gets, and what each hands on to the next one: the best
-- choice that is known, and a vector.
use Rattle.std.specs.Prelude.{◌≡◌, ◌⊎◌, ℕ, ◌<◌, ◌≤◌, List, [], ◌∷◌, Option, Some, None, IfSome}
use Rattle.choice_problem.specs.declared.vectors.Price.{Price}
use Rattle.choice_problem.specs.Problems.{ProblemView, unit_count}
use Rattle.choice_problem.specs.Choices.{choice_cost}
use Rattle.closing_search.specs.Endings.{IsEnding, EndsAtMost}
use Rattle.tested_trees.specs.declared.closed.Closed.{Closed}
use Rattle.tested_trees.specs.declared.closed.Closed.TheVariants as closed
use Rattle.closing_search.specs.declared.endings.Ending.{Ending}
use Rattle.closing_search.specs.declared.endings.Ending.TheVariants as free
use Rattle.search_workers.specs.Outcomes.{IsOutcome, IsSettled, OutcomeCostsAtMost}
use Rattle.search_workers.specs.declared.outcomes.Outcome.{Outcome}
use Rattle.search_workers.specs.declared.outcomes.Outcome.TheVariants as ends
use Rattle.season_run.specs.declared.trials.StageEnd.{StageEnd}

-- the choice that a search ended with, if it found one
abbrev pub found_choice : Outcome → Option (List ℕ)
found_choice (ends.Optimal choice cost tree vectors) = Some choice
found_choice (ends.Infeasible tree vectors) = None
found_choice (ends.Spent best tree vectors) = best

-- all vectors that the end of a search lists
abbrev pub listed_vectors : Outcome → List (List Price)
listed_vectors (ends.Optimal choice cost tree vectors) = vectors
listed_vectors (ends.Infeasible tree vectors) = vectors
listed_vectors (ends.Spent best tree vectors) = vectors

-- the end of a search by visits, whose tree is one of the whole problem
abbrev pub visited_end : Outcome → StageEnd
visited_end outcome = record { outcome = outcome; fixing = None }

-- the end of a search by free splits that closed the problem
abbrev pub closed_end : Closed → StageEnd
closed_end (closed.Optimal choice cost fixing tree vectors) = record {
  outcome = ends.Optimal choice cost tree vectors;
  fixing = fixing;
}
closed_end (closed.Infeasible tree vectors) = visited_end (ends.Infeasible tree vectors)

-- the end of a search costs at most what a known choice does, if one is known
abbrev pub KeepsKnown : ProblemView → Option (List ℕ) → Outcome → Type 0
KeepsKnown p known outcome =
    IfSome known (λ x. OutcomeCostsAtMost p (choice_cost p x) outcome)

-- what a search by visits with these further vectors answers
pub record IsVisitedEnd (p : ProblemView) (given : List (List Price)) (budget : ℕ)
    (end : StageEnd) : Type 0 where
  pub outcome : IsOutcome p given budget end.outcome
  pub whole : end.fixing ≡ None

-- What follows a search by free splits. Where it closed the problem, that is the end; else the
-- search by visits has the whole budget, from the best choice that is known by then and with a
-- vector of the relaxation
abbrev pub FollowsFree : ProblemView → ℕ → Ending → StageEnd → Type 0
FollowsFree p budget (free.Closed answer) end = end ≡ closed_end answer
FollowsFree p budget (free.Open best vector) end = IsVisitedEnd p (vector ∷ []) budget end
    × KeepsKnown p best end.outcome

-- a search by free splits from a choice that is known, if one is, and what follows it
pub record IsFreeSearch (p : ProblemView) (budget : ℕ) (known : Option (List ℕ))
    (end : StageEnd) : Type 0 where
  pub ending : Ending
  pub ends : IsEnding p budget ending
  pub keeps : IfSome known (λ x. EndsAtMost p (choice_cost p x) ending)
  pub follows : FollowsFree p budget ending end

-- first a search by 64 visits; where it leaves nodes undone, a search by free splits from the
-- choice that it found, if any
pub record IsSmallFirst (p : ProblemView) (budget : ℕ) (end : StageEnd) : Type 0 where
  pub first : Outcome
  pub visits : IsOutcome p [] 64 first
  pub follows : (IsSettled first × (end ≡ visited_end first))
      ⊎ ((IsSettled first → ⊥) × IsFreeSearch p budget (found_choice first) end)

-- The end of the searches of a problem. With a budget of at most 64 there is one, by visits and
-- with no vectors of other searches. With a greater one, a problem of at most 64 units is first
-- given to 64 visits, and a larger one at once to free splits
pub record IsEndOfSearches (p : ProblemView) (budget : ℕ) (end : StageEnd) : Type 0 where
  pub small : budget ≤ 64 → IsVisitedEnd p [] budget end
  pub few_units : 64 < budget → unit_count p ≤ 64 → IsSmallFirst p budget end
  pub many_units : 64 < budget → 64 < unit_count p → IsFreeSearch p budget None end
