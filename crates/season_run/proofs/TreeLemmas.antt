-- The shape of trees: their walks, their undone nodes, and how long they are.
use Rattle.std.proofs.Common.{◌≡◌, ℕ, suc, ◌+◌, ◌*◌, ◌<◌, ◌≤◌, refl, sym, ◌∙◌, ap, arith, List, [], ◌∷◌, ◌++◌, length, get_or, drop, None, append_assoc}
use Rattle.std.specs.Prelude.{All, Option}
use Rattle.std.proofs.lemmas.List.{drop_more}
use Rattle.std.proofs.lemmas.List.Elements.{All-cons, All-nil}
use Rattle.choice_problem.specs.declared.vectors.Price.{Price}
use Rattle.choice_problem.specs.declared.nodes.Node.{Node}
use Rattle.choice_problem.specs.declared.nodes.Node.TheVariants.{Split, Leaf, Over, Undone}
use Rattle.choice_problem.specs.Problems.{ProblemView}
use Rattle.choice_problem.specs.Trees.{AreSound, NodeHolds, IsWhole, node_count, parts_of}
use Rattle.choice_problem.specs.Grafts.{open_ranges}
use Rattle.choice_problem.specs.Named.{NamesUpTo}
use Rattle.choice_problem.specs.Walks.{CanStand, CanStep, AreWalkable, IsStep}
use Rattle.cert_format.specs.Spelling.{undone_count}
use Rattle.season_run.specs.Steps.{undone_at}

-- what a read past the end of a list of nodes gives
abbrev pub no_node : Node
no_node = Split 0 0 None

sound_stands : (p : ProblemView) (vectors : List (List Price)) (cost : Option ℕ) (ranges : List (ℕ × ℕ)) (node : Node) →
    NodeHolds p vectors cost ranges node → CanStand ranges node
sound_stands p vectors cost ranges (Split unit cut seen) h = h
sound_stands p vectors cost ranges (Leaf vector scale seen) h = tt
sound_stands p vectors cost ranges (Over resource) h = tt
sound_stands p vectors cost ranges Undone h = tt

-- a sound tree can be walked
pub sound_walks : (p : ProblemView) (vectors : List (List Price)) (cost : Option ℕ) (pending : List (List (ℕ × ℕ))) (nodes : List Node) →
    AreSound p vectors cost pending nodes → AreWalkable pending nodes
sound_walks p vectors cost [] [] h = h
sound_walks p vectors cost [] (node ∷ nodes) h = absurd h
sound_walks p vectors cost (ranges ∷ pending) [] h = absurd h
sound_walks p vectors cost (ranges ∷ pending) (node ∷ nodes) h =
    (sound_stands p vectors cost ranges node h.0, sound_walks p vectors cost (parts_of ranges node ++ pending) nodes h.1)

-- the node that follows a place of a list
module _ (nodes : List Node) (i : ℕ) (there : i < length nodes) where
  pub walkable_on : (old new : List (List (ℕ × ℕ))) → IsStep old (get_or nodes i no_node) new → AreWalkable old (drop i nodes) → AreWalkable new (drop (i + 1) nodes)
  walkable_on old new s h =
      let next : AreWalkable (s.ranges ∷ s.rest) (get_or nodes i no_node ∷ drop (i + 1) nodes) = rw (drop_more nodes i no_node there, s.before) at h in
      rw s.after next.1

  pub walkable_step : (old : List (List (ℕ × ℕ))) → AreWalkable old (drop i nodes) → CanStep old (get_or nodes i no_node)
  walkable_step [] h = (let k : AreWalkable [] (get_or nodes i no_node ∷ drop (i + 1) nodes) = rw (drop_more nodes i no_node there) at h in k)
  walkable_step (ranges ∷ rest) h =
      (let k : AreWalkable (ranges ∷ rest) (get_or nodes i no_node ∷ drop (i + 1) nodes) = rw (drop_more nodes i no_node there) at h in k.0)

  pub walkable_some : (old : List (List (ℕ × ℕ))) → AreWalkable old (drop i nodes) → 0 < length old
  walkable_some [] h = (let k : AreWalkable [] (get_or nodes i no_node ∷ drop (i + 1) nodes) = rw (drop_more nodes i no_node there) at h in absurd k)
  walkable_some (ranges ∷ rest) h = omega arith

open_step : (ranges : List (ℕ × ℕ)) (rest new : List (List (ℕ × ℕ))) (node : Node) (nodes : List Node) → new ≡ parts_of ranges node ++ rest →
    open_ranges (ranges ∷ rest) (node ∷ nodes) ≡ undone_at ranges node ++ open_ranges new nodes
open_step ranges rest new (Split unit cut seen) nodes e = rw e refl
open_step ranges rest new (Leaf vector scale seen) nodes e = rw e refl
open_step ranges rest new (Over resource) nodes e = rw e refl
open_step ranges rest new Undone nodes e = rw e refl

-- what the next node adds to the undone ranges
pub open_on : (nodes : List Node) (i : ℕ) (old new : List (List (ℕ × ℕ))) (ranges : List (ℕ × ℕ)) → i < length nodes → old ≡ ranges ∷ drop 1 old →
    IsStep old (get_or nodes i no_node) new →
    open_ranges old (drop i nodes) ≡ undone_at ranges (get_or nodes i no_node) ++ open_ranges new (drop (i + 1) nodes)
open_on nodes i old new ranges there first s =
    let same : s.ranges ≡ ranges = ap (λ (l : List (List (ℕ × ℕ))). get_or l 0 []) (sym s.before ∙ first) in
    let next : open_ranges old (drop i nodes) ≡ open_ranges (s.ranges ∷ s.rest) (get_or nodes i no_node ∷ drop (i + 1) nodes) =
    ap (λ (l : List Node). open_ranges old l) (drop_more nodes i no_node there)
    ∙ ap (λ (l : List (List (ℕ × ℕ))). open_ranges l (get_or nodes i no_node ∷ drop (i + 1) nodes)) s.before in
    next ∙ open_step s.ranges s.rest new (get_or nodes i no_node) (drop (i + 1) nodes) s.after
    ∙ ap (λ (r : List (ℕ × ℕ)). undone_at r (get_or nodes i no_node) ++ open_ranges new (drop (i + 1) nodes)) same

-- the undone ranges, in two pieces
pub pieces_on : (pieces now rest whole : List (List (ℕ × ℕ))) (old : List (List (ℕ × ℕ))) → pieces ++ old ≡ whole → old ≡ now ++ rest → (pieces ++ now) ++ rest ≡ whole
pieces_on pieces now rest whole old e k = append_assoc pieces now rest ∙ ap (λ (l : List (List (ℕ × ℕ))). pieces ++ l) (sym k) ∙ e

-- without undone ranges the tree is whole
pub open_none : (pending : List (List (ℕ × ℕ))) (nodes : List Node) → AreWalkable pending nodes → length (open_ranges pending nodes) ≡ 0 → IsWhole nodes
open_none pending [] h e = tt
open_none [] (node ∷ nodes) h e = absurd h
open_none (ranges ∷ pending) (Undone ∷ nodes) h e = let no : ⊥ = omega (arith, e) in absurd no
open_none (ranges ∷ pending) (Split unit cut seen ∷ nodes) h e = open_none (parts_of ranges (Split unit cut seen) ++ pending) nodes h.1 e
open_none (ranges ∷ pending) (Leaf vector scale seen ∷ nodes) h e = open_none pending nodes h.1 e
open_none (ranges ∷ pending) (Over resource ∷ nodes) h e = open_none pending nodes h.1 e

-- as many undone ranges as undone nodes
pub open_count : (pending : List (List (ℕ × ℕ))) (nodes : List Node) → AreWalkable pending nodes → length (open_ranges pending nodes) ≡ undone_count nodes
open_count [] [] h = refl
open_count (ranges ∷ pending) [] h = refl
open_count [] (node ∷ nodes) h = absurd h
open_count (ranges ∷ pending) (Undone ∷ nodes) h = ap suc (open_count pending nodes h.1)
open_count (ranges ∷ pending) (Split unit cut seen ∷ nodes) h = open_count (parts_of ranges (Split unit cut seen) ++ pending) nodes h.1
open_count (ranges ∷ pending) (Leaf vector scale seen ∷ nodes) h = open_count pending nodes h.1
open_count (ranges ∷ pending) (Over resource ∷ nodes) h = open_count pending nodes h.1

pub whole_count : (nodes : List Node) → IsWhole nodes → undone_count nodes ≡ 0
whole_count [] h = refl
whole_count (Split unit cut seen ∷ nodes) h = whole_count nodes h
whole_count (Leaf vector scale seen ∷ nodes) h = whole_count nodes h
whole_count (Over resource ∷ nodes) h = whole_count nodes h
whole_count (Undone ∷ nodes) h = absurd h

-- a tree has at most one node more than twice its splits and closed leaves
pub tree_length : (pending : List (List (ℕ × ℕ))) (nodes : List Node) → AreWalkable pending nodes → length nodes ≤ 2 * node_count nodes + length pending
tree_length pending [] h = omega arith
tree_length [] (node ∷ nodes) h = absurd h
tree_length (ranges ∷ pending) (Undone ∷ nodes) h = omega (arith, tree_length pending nodes h.1)
tree_length (ranges ∷ pending) (Split unit cut seen ∷ nodes) h = omega (arith, tree_length (parts_of ranges (Split unit cut seen) ++ pending) nodes h.1)
tree_length (ranges ∷ pending) (Leaf vector scale seen ∷ nodes) h = omega (arith, tree_length pending nodes h.1)
tree_length (ranges ∷ pending) (Over resource ∷ nodes) h = omega (arith, tree_length pending nodes h.1)

-- the leaves of a sound tree name vectors that are there
node_there : (p : ProblemView) (vectors : List (List Price)) (cost : Option ℕ) (ranges : List (ℕ × ℕ)) (node : Node) → NodeHolds p vectors cost ranges node → NamesUpTo (length vectors) node
node_there p vectors cost ranges (Split unit cut seen) h = tt
node_there p vectors cost ranges (Leaf vector scale seen) h = h.there
node_there p vectors cost ranges (Over resource) h = tt
node_there p vectors cost ranges Undone h = tt

pub sound_there : (p : ProblemView) (vectors : List (List Price)) (cost : Option ℕ) (pending : List (List (ℕ × ℕ))) (nodes : List Node) →
    AreSound p vectors cost pending nodes → All (NamesUpTo (length vectors)) nodes
sound_there p vectors cost pending [] h = All-nil (NamesUpTo (length vectors))
sound_there p vectors cost [] (node ∷ nodes) h = absurd h
sound_there p vectors cost (ranges ∷ pending) (node ∷ nodes) h =
    All-cons (NamesUpTo (length vectors)) node nodes (node_there p vectors cost ranges node h.0)
    (sound_there p vectors cost (parts_of ranges node ++ pending) nodes h.1)
