-- The open ranges of a tree.
use Rattle.std.proofs.Common.{ℕ, List, [], ◌∷◌, ◌++◌}
use Rattle.std.specs.Prelude.{All}
use Rattle.std.proofs.lemmas.List.Elements.{All-head, All-tail, All-append, All-cons, All-nil}
use Rattle.choice_problem.specs.declared.nodes.Node.{Node}
use Rattle.choice_problem.specs.declared.nodes.Node.TheVariants.{Split, Leaf, Over, Undone}
use Rattle.choice_problem.specs.Bounds.{AreRanges}
use Rattle.choice_problem.specs.Trees.{AreTrees, CanSplit, parts_of, low_part, high_part}
use Rattle.choice_problem.specs.Grafts.{open_ranges}
use Rattle.choice_problem.specs.Walks.{CanStand, AreWalkable}
use Rattle.search_workers.specs.Settings.{Setting, AreGrown, Drives}
use Rattle.search_workers.proofs.EnterLemmas.{parts_valid}

-- what each node promises of its ranges, weakened
pub trees_weaker : (Holds Weak : List (ℕ × ℕ) → Node → Type 0) → ((ranges : List (ℕ × ℕ)) (node : Node) → Holds ranges node → Weak ranges node) →
    (pending : List (List (ℕ × ℕ))) (nodes : List Node) → AreTrees Holds pending nodes → AreTrees Weak pending nodes
trees_weaker Holds Weak f [] [] h = h
trees_weaker Holds Weak f [] (node ∷ nodes) h = absurd h
trees_weaker Holds Weak f (ranges ∷ pending) [] h = absurd h
trees_weaker Holds Weak f (ranges ∷ pending) (node ∷ nodes) h =
    (f ranges node h.0, trees_weaker Holds Weak f (parts_of ranges node ++ pending) nodes h.1)

driven_stands : (s : Setting) (ranges : List (ℕ × ℕ)) (node : Node) → Drives s ranges node → CanStand ranges node
driven_stands s ranges (Split unit cut seen) d = d.1
driven_stands s ranges (Leaf vector scale seen) d = tt
driven_stands s ranges (Over resource) d = tt
driven_stands s ranges Undone d = tt

pub grown_walks : (s : Setting) (pending : List (List (ℕ × ℕ))) (nodes : List Node) → AreGrown s pending nodes → AreWalkable pending nodes
grown_walks s pending nodes h = trees_weaker (λ ranges node. Drives s ranges node) (λ ranges node. CanStand ranges node) (driven_stands s) pending nodes h

module _ (s : Setting) (low : (ranges : List (ℕ × ℕ)) (unit cut : ℕ) → AreRanges s.problem ranges → CanSplit ranges unit cut → AreRanges s.problem (low_part ranges unit cut))
    (high : (ranges : List (ℕ × ℕ)) (unit cut : ℕ) → AreRanges s.problem ranges → CanSplit ranges unit cut → AreRanges s.problem (high_part ranges unit cut)) where
  pub open_valid : (pending : List (List (ℕ × ℕ))) (nodes : List Node) → AreGrown s pending nodes → All (AreRanges s.problem) pending →
      All (AreRanges s.problem) (open_ranges pending nodes)
  open_valid pending [] h v = All-nil (AreRanges s.problem)
  open_valid [] (node ∷ nodes) h v = All-nil (AreRanges s.problem)
  open_valid (ranges ∷ pending) (Undone ∷ nodes) h v =
      All-cons (AreRanges s.problem) ranges (open_ranges pending nodes) (All-head (AreRanges s.problem) ranges pending v)
      (open_valid pending nodes h.1 (All-tail (AreRanges s.problem) ranges pending v))
  open_valid (ranges ∷ pending) (Split unit cut seen ∷ nodes) h v =
      let r = All-head (AreRanges s.problem) ranges pending v in
      open_valid (parts_of ranges (Split unit cut seen) ++ pending) nodes h.1
      (All-append (AreRanges s.problem) (parts_of ranges (Split unit cut seen)) pending
      (parts_valid s ranges (Split unit cut seen) (λ u c k. low ranges u c r k) (λ u c k. high ranges u c r k) h.0)
      (All-tail (AreRanges s.problem) ranges pending v))
  open_valid (ranges ∷ pending) (Leaf vector scale seen ∷ nodes) h v = open_valid pending nodes h.1 (All-tail (AreRanges s.problem) ranges pending v)
  open_valid (ranges ∷ pending) (Over resource ∷ nodes) h v = open_valid pending nodes h.1 (All-tail (AreRanges s.problem) ranges pending v)
