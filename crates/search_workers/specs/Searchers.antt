-- What a worker of a search has, before, within and after its pieces.
use Rattle.std.specs.Prelude.{◌≡◌, ℕ, ◌<◌, ◌≤◌, true, List, [], ◌∷◌, ◌++◌, map, length, slice_index_or, All, Option, ◌⊎◌}
use Rattle.choice_problem.specs.declared.nodes.Node.{Node}
use Rattle.choice_problem.specs.Bounds.{AreRanges}
use Rattle.choice_problem.specs.Trees.{node_count}
use Rattle.incumbent_word.specs.declared.view.View.{View}
use Rattle.search_workers.specs.declared.searchers.Done.{Done}
use Rattle.search_workers.specs.Settings.{Setting, AreGrown}
use Rattle.search_workers.specs.Work.{IsWork}

-- the nodes of these trees, one tree after the other
abbrev pub made : List Done → List Node
made [] = []
made (d ∷ ds) = d.tree.items ++ made ds

-- the nodes so far begin a driven tree on the ranges, which trees on the pending ranges complete
pub record IsBegun (s : Setting) (ranges : List (ℕ × ℕ)) (nodes : List Node)
    (pending : List (List (ℕ × ℕ))) : Type 0 where
  pub valid : All (AreRanges s.problem) pending
  pub trees : (rest : List Node) → AreGrown s pending rest →
      AreGrown s (ranges ∷ []) (nodes ++ rest)

-- no number is left, or a node was entered
abbrev pub HasProgress : View → List Node → Type 0
HasProgress view nodes = (view.no_number_left ≡ true) ⊎ (1 ≤ node_count nodes)

abbrev pub pieces_of : List Done → List ℕ
pieces_of done = map (λ d. d.piece) done

-- What a worker has: its nodes are those of the trees that it made, each on the ranges of its
-- piece. A tree has a node that counts, unless no number was left.
pub record IsSearcher (s : Setting) (pieces : List (List (ℕ × ℕ))) (view : View) (cost : Option ℕ)
    (best : Option (List ℕ)) (done : List Done) : Type 0 where
  pub work : IsWork s view.worker best (made done)
  pub cost_is : cost ≡ view.worker.best
  pub there : All (λ d. d.piece < length pieces) done
  pub trees : All (λ d. AreGrown s (slice_index_or pieces d.piece [] ∷ []) d.tree.items) done
  pub progress : (view.no_number_left ≡ true) ⊎ All (λ d. 1 ≤ node_count d.tree.items) done
