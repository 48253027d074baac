-- The shape of trees by a count.
use Rattle.std.proofs.Common.{◌≡◌, ℕ, zero, suc, ◌+◌, ◌-◌, ◌<◌, ◌≤◌, refl, sym, subst, arith, List, [], ◌∷◌, ◌++◌, length, get_or, drop, Option}
use Rattle.choice_problem.specs.declared.nodes.Node.{Node}
use Rattle.choice_problem.specs.declared.nodes.Node.TheVariants.{Split, Leaf, Over, Undone}
use Rattle.choice_problem.specs.Trees.{AreTrees, IsTree, parts_of}
use Rattle.std.proofs.lemmas.List.{drop_more}
use Rattle.cert_checker.specs.Shapes.{IsShaped, GoesOn, IsLeft}

abbrev Ranges : Type 0
Ranges = List (ℕ × ℕ)

abbrev AreAny : List Ranges → List Node → Type 0
AreAny pending nodes = AreTrees (λ ranges node. Unit {0}) pending nodes

-- by the pending ranges, and by their number
shaped-from : (pending : List Ranges) (nodes : List Node) → AreAny pending nodes → IsShaped (length pending) nodes
shaped-from [] [] h = tt
shaped-from [] (node ∷ nodes) h = h
shaped-from (ranges ∷ pending) [] h = h
shaped-from (ranges ∷ pending) (Split unit cut seen ∷ nodes) h = shaped-from (parts_of ranges (Split unit cut seen) ++ pending) nodes h.1
shaped-from (ranges ∷ pending) (Leaf vector scale seen ∷ nodes) h = shaped-from pending nodes h.1
shaped-from (ranges ∷ pending) (Over resource ∷ nodes) h = shaped-from pending nodes h.1
shaped-from (ranges ∷ pending) (Undone ∷ nodes) h = shaped-from pending nodes h.1

shaped-to : (pending : List Ranges) (nodes : List Node) → IsShaped (length pending) nodes → AreAny pending nodes
shaped-to [] [] h = tt
shaped-to [] (node ∷ nodes) h = h
shaped-to (ranges ∷ pending) [] h = h
shaped-to (ranges ∷ pending) (Split unit cut seen ∷ nodes) h = (tt, shaped-to (parts_of ranges (Split unit cut seen) ++ pending) nodes h)
shaped-to (ranges ∷ pending) (Leaf vector scale seen ∷ nodes) h = (tt, shaped-to pending nodes h)
shaped-to (ranges ∷ pending) (Over resource ∷ nodes) h = (tt, shaped-to pending nodes h)
shaped-to (ranges ∷ pending) (Undone ∷ nodes) h = (tt, shaped-to pending nodes h)

pub tree-from : (nodes : List Node) → IsShaped 1 nodes → IsTree nodes
tree-from nodes h = shaped-to ([] ∷ []) nodes h

pub tree-to : (nodes : List Node) → IsTree nodes → IsShaped 1 nodes
tree-to nodes h = shaped-from ([] ∷ []) nodes h

-- one node
pub goes-split : (pending unit cut : ℕ) (seen : Option ℕ) → 0 < pending → GoesOn pending (Split unit cut seen) (pending + 1)
goes-split zero unit cut seen some rest = absurd (omega arith)
goes-split (suc n) unit cut seen some rest =
    let same : suc (suc n) ≡ suc n + 1 = omega arith in
    ((λ h. subst (λ (k : ℕ). IsShaped k rest) same h), (λ h. subst (λ (k : ℕ). IsShaped k rest) (sym same) h))

one-less : (n : ℕ) (rest : List Node) → (IsShaped n rest → IsShaped (suc n - 1) rest) × (IsShaped (suc n - 1) rest → IsShaped n rest)
one-less n rest =
    let same : n ≡ suc n - 1 = omega arith in
    ((λ h. subst (λ (k : ℕ). IsShaped k rest) same h), (λ h. subst (λ (k : ℕ). IsShaped k rest) (sym same) h))

pub goes-leaf : (pending vector scale : ℕ) (seen : Option ℕ) → 0 < pending → GoesOn pending (Leaf vector scale seen) (pending - 1)
goes-leaf zero vector scale seen some rest = absurd (omega arith)
goes-leaf (suc n) vector scale seen some rest = one-less n rest

pub goes-over : (pending resource : ℕ) → 0 < pending → GoesOn pending (Over resource) (pending - 1)
goes-over zero resource some rest = absurd (omega arith)
goes-over (suc n) resource some rest = one-less n rest

pub goes-undone : (pending : ℕ) → 0 < pending → GoesOn pending Undone (pending - 1)
goes-undone zero some rest = absurd (omega arith)
goes-undone (suc n) some rest = one-less n rest

-- node after node
pub left-next : (nodes : List Node) (i pending next : ℕ) (e : Node) → i < length nodes → GoesOn pending (get_or nodes i e) next → IsLeft pending (drop i nodes) nodes → IsLeft next (drop (i + 1) nodes) nodes
left-next nodes i pending next e lt goes left =
    let head = drop_more nodes i e lt in (
      (λ h. left.0 (subst (IsShaped pending) (sym head) ((goes (drop (i + 1) nodes)).1 h))),
      (λ h. (goes (drop (i + 1) nodes)).0 (subst (IsShaped pending) head (left.1 h))),
    )

none-left : (nodes : List Node) (i : ℕ) (e : Node) → i < length nodes → IsShaped 0 (drop i nodes) → ⊥
none-left nodes i e lt h = subst (IsShaped 0) (drop_more nodes i e lt) h

pub left-refused : (nodes : List Node) (i pending : ℕ) (e : Node) → i < length nodes → pending ≡ 0 → IsLeft pending (drop i nodes) nodes → IsTree nodes → ⊥
left-refused nodes i pending e lt is left tree =
    none-left nodes i e lt (subst (λ (k : ℕ). IsShaped k (drop i nodes)) is (left.1 (tree-to nodes tree)))

past-end : (nodes : List Node) (i : ℕ) → length nodes ≤ i → drop i nodes ≡ []
past-end [] zero le = refl
past-end [] (suc i) le = refl
past-end (x ∷ xs) zero le = absurd (omega arith)
past-end (x ∷ xs) (suc i) le = past-end xs i (omega arith)

pub left-end : (nodes : List Node) (i pending : ℕ) → length nodes ≤ i → pending ≡ 0 → IsLeft pending (drop i nodes) nodes → IsTree nodes
left-end nodes i pending past is left =
    let empty : IsShaped 0 (drop i nodes) = subst (IsShaped 0) (sym (past-end nodes i past)) tt in
    tree-from nodes (left.0 (subst (λ (k : ℕ). IsShaped k (drop i nodes)) (sym is) empty))

some-left : (pending : ℕ) → 0 < pending → IsShaped pending [] → ⊥
some-left zero some h = absurd (omega arith)
some-left (suc n) some h = h

pub left-open : (nodes : List Node) (i pending : ℕ) → length nodes ≤ i → 0 < pending → IsLeft pending (drop i nodes) nodes → IsTree nodes → ⊥
left-open nodes i pending past some left tree =
    some-left pending some (subst (IsShaped pending) (past-end nodes i past) (left.1 (tree-to nodes tree)))
