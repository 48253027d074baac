-- Driven trees are sound, and stay driven where vectors are added.
use Rattle.std.proofs.Common.{◌≡◌, ℕ, zero, suc, ◌≤◌, refl, arith, List, [], ◌∷◌, ◌++◌, length, Option, Some, None, length-append}
use Rattle.std.specs.Prelude.{All}
use Rattle.std.proofs.lemmas.List.{get_or_append_left}
use Rattle.std.proofs.lemmas.List.Elements.{All-head, All-tail}
use Rattle.choice_problem.specs.declared.vectors.Price.{Price}
use Rattle.choice_problem.specs.declared.nodes.Node.{Node}
use Rattle.choice_problem.specs.declared.nodes.Node.TheVariants.{Split, Leaf, Over, Undone}
use Rattle.choice_problem.specs.Problems.{ProblemView}
use Rattle.choice_problem.specs.Bounds.{whole_of}
use Rattle.choice_problem.specs.Trees.{AreSound, IsSound, NodeHolds, LeafHolds, vector_at, parts_of}
use Rattle.choice_problem.proofs.BoundLemmas.{Closes-None-Some, Closes-smaller}
use Rattle.choice_problem.specs.Driven.{IsDriven, IsDrivenFrom, AreDriven, IsDrivenNode, IsSeenBetween, RecordsBetween}

module _ (p : ProblemView) (vectors : List (List Price)) (root : List Price) (greedy : Option ℕ) where
  -- a leaf that closes for what was seen closes for the result
  leaf_sound : (result seen : Option ℕ) (ranges : List (ℕ × ℕ)) (vector scale : ℕ) → IsSeenBetween result greedy seen →
      LeafHolds p vectors seen ranges vector scale → LeafHolds p vectors result ranges vector scale
  leaf_sound None None ranges vector scale b h = h
  leaf_sound (Some u) None ranges vector scale b h =
      record { there = h.there; small = h.small; closes = Closes-None-Some p ranges (vector_at vectors vector) scale u h.closes }
  leaf_sound None (Some s) ranges vector scale b h = absurd b
  leaf_sound (Some u) (Some s) ranges vector scale b h =
      record { there = h.there; small = h.small; closes = Closes-smaller p ranges (vector_at vectors vector) scale s u (least greedy b) h.closes }
    where
      least : (g : Option ℕ) → IsSeenBetween (Some u) g (Some s) → u ≤ s
      least None k = k
      least (Some g) k = k.0

  node_sound : (result : Option ℕ) (ranges : List (ℕ × ℕ)) (node : Node) → RecordsBetween result greedy node →
      IsDrivenNode p vectors root ranges node → NodeHolds p vectors result ranges node
  node_sound result ranges (Split unit cut seen) b h = h.1
  node_sound result ranges (Leaf vector scale seen) b h = leaf_sound result seen ranges vector scale b h
  node_sound result ranges (Over resource) b h = h
  node_sound result ranges Undone b h = h

  pub AreDriven-sound : (result : Option ℕ) (pending : List (List (ℕ × ℕ))) (nodes : List Node) → All (RecordsBetween result greedy) nodes →
      AreDriven p vectors root pending nodes → AreSound p vectors result pending nodes
  AreDriven-sound result [] [] b h = h
  AreDriven-sound result [] (node ∷ nodes) b h = h
  AreDriven-sound result (ranges ∷ pending) [] b h = h
  AreDriven-sound result (ranges ∷ pending) (node ∷ nodes) b h = (
    node_sound result ranges node (All-head (RecordsBetween result greedy) node nodes b) h.0,
    AreDriven-sound result (parts_of ranges node ++ pending) nodes (All-tail (RecordsBetween result greedy) node nodes b) h.1,
  )

pub IsDrivenFrom-sound : (p : ProblemView) (vectors : List (List Price)) (root : List Price) (greedy result : Option ℕ) (nodes : List Node) →
    IsDrivenFrom p vectors root greedy result nodes → IsSound p vectors result (whole_of p) nodes
IsDrivenFrom-sound p vectors root greedy result nodes d = AreDriven-sound p vectors root greedy result (whole_of p ∷ []) nodes d.between d.trees

pub IsDriven-sound : (p : ProblemView) (vectors : List (List Price)) (result : Option ℕ) (nodes : List Node) →
    IsDriven p vectors result nodes → IsSound p vectors result (whole_of p) nodes
IsDriven-sound p vectors result nodes d = IsDrivenFrom-sound p vectors d.root d.greedy result nodes d.tree

-- a vector keeps its number where more follow
pub vector_at-append : (vectors more : List (List Price)) (k : ℕ) → k ≤ length vectors → vector_at (vectors ++ more) k ≡ vector_at vectors k
vector_at-append vectors more zero l = refl
vector_at-append vectors more (suc k) l = get_or_append_left vectors more [] k (omega arith)

pub LeafHolds-append : (p : ProblemView) (vectors more : List (List Price)) (cost : Option ℕ) (ranges : List (ℕ × ℕ)) (vector scale : ℕ) →
    LeafHolds p vectors cost ranges vector scale → LeafHolds p (vectors ++ more) cost ranges vector scale
LeafHolds-append p vectors more cost ranges vector scale h = record {
  there = omega (arith, h.there, length-append vectors more);
  small = h.small;
  closes = rw (vector_at-append vectors more vector h.there) h.closes;
}

module _ (p : ProblemView) (vectors more : List (List Price)) (root : List Price) where
  node_more : (ranges : List (ℕ × ℕ)) (node : Node) → IsDrivenNode p vectors root ranges node → IsDrivenNode p (vectors ++ more) root ranges node
  node_more ranges (Split unit cut seen) h = h
  node_more ranges (Leaf vector scale seen) h = LeafHolds-append p vectors more seen ranges vector scale h
  node_more ranges (Over resource) h = h
  node_more ranges Undone h = h

  pub AreDriven-more : (pending : List (List (ℕ × ℕ))) (nodes : List Node) → AreDriven p vectors root pending nodes →
      AreDriven p (vectors ++ more) root pending nodes
  AreDriven-more [] [] h = h
  AreDriven-more [] (node ∷ nodes) h = h
  AreDriven-more (ranges ∷ pending) [] h = h
  AreDriven-more (ranges ∷ pending) (node ∷ nodes) h = (node_more ranges node h.0, AreDriven-more (parts_of ranges node ++ pending) nodes h.1)

pub IsDriven-more : (p : ProblemView) (vectors more : List (List Price)) (result : Option ℕ) (nodes : List Node) →
    IsDriven p vectors result nodes → IsDriven p (vectors ++ more) result nodes
IsDriven-more p vectors more result nodes d = record {
  greedy = d.greedy;
  root = d.root;
  greedy_is = d.greedy_is;
  root_is = d.root_is;
  tree = record {
    trees = AreDriven-more p vectors more d.root (whole_of p ∷ []) nodes d.tree.trees;
    between = d.tree.between;
    reached = d.tree.reached;
  };
}
