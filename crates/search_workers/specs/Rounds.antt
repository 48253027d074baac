-- What the workers of one board have, and what a round of a search comes to.
use Rattle.std.specs.Prelude.{◌≡◌, ℕ, ◌+◌, ◌<◌, ◌≤◌, ◌==◌, true, List, [], ◌∷◌, ◌++◌, count_by, Option, ◌⊎◌}
use Rattle.choice_problem.specs.declared.vectors.Price.{Price}
use Rattle.choice_problem.specs.declared.nodes.Node.{Node}
use Rattle.choice_problem.specs.Problems.{ProblemView}
use Rattle.choice_problem.specs.Trees.{IsWhole, node_count}
use Rattle.incumbent_word.specs.Core.{AtMost}
use Rattle.incumbent_word.specs.Seats.{BoardView, IsSeatOf}
use Rattle.search_workers.specs.declared.searchers.Searcher.{Searcher}
use Rattle.search_workers.specs.declared.outcomes.Outcome.{Outcome}
use Rattle.search_workers.specs.declared.outcomes.Outcome.TheVariants.{Optimal, Infeasible, Spent}
use Rattle.search_workers.specs.Outcomes.{IsRoundVector, IsJoinedBy, AreJoined}
use Rattle.search_workers.specs.Searchers.{pieces_of, IsSearcher}
use Rattle.search_workers.specs.Settings.{Setting}
use Rattle.search_workers.specs.Work.{IsSoFar}

-- a worker that may claim, and has made a tree in each piece that it claimed
pub record IsReady (s : Setting) (pieces : List (List (ℕ × ℕ))) (board : BoardView)
    (w : Searcher) : Type 0 where
  pub own : IsSeatOf board w.seat
  pub searcher : IsSearcher s pieces w.seat.view w.cost w.best w.done.items
  pub claims : w.seat.view.worker.pieces ≡ pieces_of w.done.items

-- a worker that found all pieces claimed, or wanted memory
pub record HasStopped (s : Setting) (pieces : List (List (ℕ × ℕ))) (board : BoardView)
    (w : Searcher) : Type 0 where
  pub own : IsSeatOf board w.seat
  pub ended : (w.failed ≡ true) ⊎ (IsReady s pieces board w × (w.seat.view.no_piece_left ≡ true))

-- the shares of their seats
abbrev pub shares : List Searcher → ℕ
shares [] = 0
shares (w ∷ ws) = w.seat.view.share + shares ws

-- no piece stands twice in the list
abbrev pub AreApart : List ℕ → Type 0
AreApart pieces = (x : ℕ) → count_by (λ y. y == x) pieces ≤ 1

-- the tree before some visits became the tree after them, as many as numbers were taken, and the
-- least cost did not rise
pub record AreVisitsMade (s : Setting) (taken : ℕ) (was cost : Option ℕ) (best : Option (List ℕ))
    (before tree : List Node) : Type 0 where
  pub so_far : IsSoFar s cost best tree
  pub count : node_count tree ≡ node_count before + taken
  pub fell : AtMost cost was

-- the visits of a round: at most so many, and all of them or at least one
pub record IsRound (s : Setting) (rest taken : ℕ) (was cost : Option ℕ) (best : Option (List ℕ))
    (before tree : List Node) : Type 0 where
  pub visits : AreVisitsMade s taken was cost best before tree
  pub within : taken ≤ rest
  pub progress : (taken ≡ rest) ⊎ (1 ≤ taken)

-- a round that ended with this tree: its vector joined the list, or no visit is left or no node
-- undone
abbrev pub IsRoundJoined : ProblemView → ℕ → List Node → List (List Price) → List (List Price) →
    Type 0
IsRoundJoined p budget tree vectors after =
    ((vector : List Price) × IsRoundVector p budget tree vector × IsJoinedBy vectors vector after)
    ⊎ ((node_count tree < budget → IsWhole tree) × (after ≡ vectors))

-- some rounds were joined by their vectors, and any that follow make these and them
pub record AreSoFarJoined (p : ProblemView) (budget nodes : ℕ) (vectors now : List (List Price)) :
    Type 0 where
  pub rounds : List (List Node)
  pub last : ℕ
  pub within : last ≤ nodes
  pub goes_on : (more : List (List Node)) (after : List (List Price)) →
      AreJoined p budget last now more after → AreJoined p budget 0 vectors (rounds ++ more) after

-- where nodes are undone, all vectors are listed
abbrev pub ListsAll : List (List Price) → Outcome → Type 0
ListsAll all (Optimal choice cost tree vectors) = Unit {0}
ListsAll all (Infeasible tree vectors) = Unit {0}
ListsAll all (Spent best tree vectors) = vectors ≡ all
