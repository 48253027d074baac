-- The shape of trees as lists: joined, cut in two, and that no tree begins another.
use Rattle.std.proofs.Common.{◌≡◌, ℕ, refl, ap, arith, List, [], ◌∷◌, ◌++◌, length, Option, append_assoc, length-append}
use Rattle.std.specs.List.{AllZip}
use Rattle.choice_problem.specs.declared.vectors.Price.{Price}
use Rattle.choice_problem.specs.declared.nodes.Node.{Node}
use Rattle.choice_problem.specs.declared.nodes.Node.TheVariants.{Split, Leaf, Over, Undone}
use Rattle.choice_problem.specs.Problems.{ProblemView}
use Rattle.choice_problem.specs.Trees.{AreTrees, IsSound, IsTree, NodeHolds, CanSplit, parts_of, low_part, high_part}

-- what follows from what each node promises, place by place
pub AreTrees-map : (Holds Keeps : List (ℕ × ℕ) → Node → Type 0) → ((ranges : List (ℕ × ℕ)) (node : Node) → Holds ranges node → Keeps ranges node) →
    (pending : List (List (ℕ × ℕ))) (nodes : List Node) → AreTrees Holds pending nodes → AreTrees Keeps pending nodes
AreTrees-map Holds Keeps into [] [] h = tt
AreTrees-map Holds Keeps into [] (node ∷ nodes) h = absurd h
AreTrees-map Holds Keeps into (ranges ∷ pending) [] h = absurd h
AreTrees-map Holds Keeps into (ranges ∷ pending) (node ∷ nodes) h =
    (into ranges node h.0, AreTrees-map Holds Keeps into (parts_of ranges node ++ pending) nodes h.1)

-- and for two lists, place by place
pub AllZip-into : {A B : Type 0} (R S : A → B → Type 0) → ((x : A) (y : B) → R x y → S x y) → (xs : List A) (ys : List B) → AllZip R xs ys → AllZip S xs ys
AllZip-into R S into [] [] h = tt
AllZip-into R S into [] (y ∷ ys) h = absurd h
AllZip-into R S into (x ∷ xs) [] h = absurd h
AllZip-into R S into (x ∷ xs) (y ∷ ys) h = (into x y h.0, AllZip-into R S into xs ys h.1)

-- trees on two lists of ranges, one after the other
pub AreTrees-append : (Holds : List (ℕ × ℕ) → Node → Type 0) (first second : List (List (ℕ × ℕ))) (nodes more : List Node) →
    AreTrees Holds first nodes → AreTrees Holds second more → AreTrees Holds (first ++ second) (nodes ++ more)
AreTrees-append Holds [] second [] more h k = k
AreTrees-append Holds [] second (node ∷ nodes) more h k = absurd h
AreTrees-append Holds (ranges ∷ first) second [] more h k = absurd h
AreTrees-append Holds (ranges ∷ first) second (node ∷ nodes) more h k =
    let rest = AreTrees-append Holds (parts_of ranges node ++ first) second nodes more h.1 k in
    (h.0, rw append_assoc at rest)

-- and cut where the second ones begin
pub AreTrees-cut : (Holds : List (ℕ × ℕ) → Node → Type 0) (first second : List (List (ℕ × ℕ))) (nodes : List Node) →
    AreTrees Holds (first ++ second) nodes →
    (low high : List Node) × (nodes ≡ low ++ high) × AreTrees Holds first low × AreTrees Holds second high
AreTrees-cut Holds [] second nodes h = ([], nodes, refl, tt, h)
AreTrees-cut Holds (ranges ∷ first) second [] h = absurd h
AreTrees-cut Holds (ranges ∷ first) second (node ∷ nodes) h =
    let onward : AreTrees Holds ((parts_of ranges node ++ first) ++ second) nodes = rw append_assoc h.1 in
    let rest = AreTrees-cut Holds (parts_of ranges node ++ first) second nodes onward in
    (node ∷ rest.0, rest.1, ap (λ ns. node ∷ ns) rest.2, (h.0, rest.3), rest.4)

-- a sound split is followed by exactly two sound trees
pub IsSound-split : (p : ProblemView) (vectors : List (List Price)) (cost : Option ℕ) (ranges : List (ℕ × ℕ)) (unit cut : ℕ) (seen : Option ℕ)
    (nodes : List Node) → IsSound p vectors cost ranges (Split unit cut seen ∷ nodes) →
    CanSplit ranges unit cut × ((low high : List Node) × (nodes ≡ low ++ high)
    × IsSound p vectors cost (low_part ranges unit cut) low × IsSound p vectors cost (high_part ranges unit cut) high)
IsSound-split p vectors cost ranges unit cut seen nodes h =
    (h.0, AreTrees-cut (λ r node. NodeHolds p vectors cost r node) (low_part ranges unit cut ∷ []) (high_part ranges unit cut ∷ []) nodes h.1)

pub IsSound-join : (p : ProblemView) (vectors : List (List Price)) (cost : Option ℕ) (ranges : List (ℕ × ℕ)) (unit cut : ℕ) (seen : Option ℕ)
    (low high : List Node) → CanSplit ranges unit cut → IsSound p vectors cost (low_part ranges unit cut) low →
    IsSound p vectors cost (high_part ranges unit cut) high → IsSound p vectors cost ranges (Split unit cut seen ∷ low ++ high)
IsSound-join p vectors cost ranges unit cut seen low high c l h =
    (c, AreTrees-append (λ r node. NodeHolds p vectors cost r node) (low_part ranges unit cut ∷ []) (high_part ranges unit cut ∷ []) low high l h)

-- as many trees follow a node, whatever its ranges
length-parts_of : (ranges others : List (ℕ × ℕ)) (node : Node) → length (parts_of ranges node) ≡ length (parts_of others node)
length-parts_of ranges others (Split unit cut seen) = refl
length-parts_of ranges others (Leaf vector scale seen) = refl
length-parts_of ranges others (Over resource) = refl
length-parts_of ranges others Undone = refl

length-pending : (ranges others : List (ℕ × ℕ)) (node : Node) (pending rest : List (List (ℕ × ℕ))) →
    length (ranges ∷ pending) ≡ length (others ∷ rest) → length (parts_of ranges node ++ pending) ≡ length (parts_of others node ++ rest)
length-pending ranges others node pending rest e =
    omega (arith, length-append (parts_of ranges node) pending, length-append (parts_of others node) rest, length-parts_of ranges others node)

-- the shape does not depend on the ranges, nor on what the nodes promise of them
pub AreTrees-shape : (Holds : List (ℕ × ℕ) → Node → Type 0) (nodes : List Node) (pending others : List (List (ℕ × ℕ))) →
    length pending ≡ length others → AreTrees Holds pending nodes → AreTrees (λ ranges node. Unit {0}) others nodes
AreTrees-shape Holds [] [] [] e h = tt
AreTrees-shape Holds [] [] (other ∷ others) e h = absurd (omega arith)
AreTrees-shape Holds [] (ranges ∷ pending) others e h = absurd h
AreTrees-shape Holds (node ∷ nodes) [] others e h = absurd h
AreTrees-shape Holds (node ∷ nodes) (ranges ∷ pending) [] e h = absurd (omega arith)
AreTrees-shape Holds (node ∷ nodes) (ranges ∷ pending) (other ∷ others) e h =
    (tt, AreTrees-shape Holds nodes (parts_of ranges node ++ pending) (parts_of other node ++ others) (length-pending ranges other node pending others e) h.1)

pub IsSound-IsTree : (p : ProblemView) (vectors : List (List Price)) (cost : Option ℕ) (ranges : List (ℕ × ℕ)) (nodes : List Node) →
    IsSound p vectors cost ranges nodes → IsTree nodes
IsSound-IsTree p vectors cost ranges nodes h = AreTrees-shape (λ r node. NodeHolds p vectors cost r node) nodes (ranges ∷ []) ([] ∷ []) refl h

no_more : (Holds : List (ℕ × ℕ) → Node → Type 0) (nodes : List Node) → AreTrees Holds [] nodes → nodes ≡ []
no_more Holds [] h = refl
no_more Holds (node ∷ nodes) h = absurd h

-- nothing follows a node that is not a split
pub IsTree-leaf : (node : Node) (nodes : List Node) → IsTree (node ∷ nodes) → parts_of [] node ≡ [] → nodes ≡ []
IsTree-leaf node nodes h e = no_more (λ ranges n. Unit {0}) nodes (rw e at h.1)

-- no list of trees is the beginning of another of as many
module _ (Holds : List (ℕ × ℕ) → Node → Type 0) where
  trees_only : (a b more other : List Node) (pending rest : List (List (ℕ × ℕ))) → length pending ≡ length rest →
      AreTrees Holds pending a → AreTrees Holds rest b → a ++ more ≡ b ++ other → a ≡ b
  trees_only [] [] more other pending rest e h k same = refl
  trees_only [] (m ∷ b) more other [] [] e h k same = absurd k
  trees_only [] (m ∷ b) more other [] (r ∷ rest) e h k same = absurd (omega arith)
  trees_only [] (m ∷ b) more other (r ∷ pending) rest e h k same = absurd h
  trees_only (n ∷ a) b more other [] rest e h k same = absurd h
  trees_only (n ∷ a) [] more other (r ∷ pending) [] e h k same = absurd (omega arith)
  trees_only (n ∷ a) [] more other (r ∷ pending) (s ∷ rest) e h k same = absurd k
  trees_only (n ∷ a) (m ∷ b) more other (r ∷ pending) [] e h k same = absurd k
  trees_only (n ∷ a) (m ∷ b) more other (r ∷ pending) (s ∷ rest) e h k same =
      let first : m ≡ n = cc same in
      let others : a ++ more ≡ b ++ other = cc same in
      let onward : AreTrees Holds (parts_of s n ++ rest) b = rw first at k.1 in
      let same_rest = trees_only a b more other (parts_of r n ++ pending) (parts_of s n ++ rest) (length-pending r s n pending rest e) h.1 onward others in
      rw (first, same_rest) refl

pub IsTree-only : (a b more other : List Node) → IsTree a → IsTree b → a ++ more ≡ b ++ other → a ≡ b
IsTree-only a b more other h k same = trees_only (λ ranges node. Unit {0}) a b more other ([] ∷ []) ([] ∷ []) refl h k same
