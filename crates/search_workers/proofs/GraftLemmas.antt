-- Grafting keeps what each node promises of its ranges, and adds the counts.
use Rattle.std.proofs.Common.{◌≡◌, ℕ, ◌+◌, List, [], ◌∷◌, ◌++◌, refl, ◌∙◌, ap, arith}
use Rattle.choice_problem.specs.declared.nodes.Node.{Node}
use Rattle.choice_problem.specs.declared.nodes.Node.TheVariants.{Split, Leaf, Over, Undone}
use Rattle.choice_problem.specs.Trees.{AreTrees, parts_of, node_count}
use Rattle.search_workers.proofs.NodeLemmas.{AreTrees-append, node_count-append}
use Rattle.std.specs.Prelude.{Contains, ◌⊎◌, take}
use Rattle.std.proofs.Common.{zero, suc, append_assoc, length, ◌≤◌}
use Rattle.choice_problem.specs.Trees.{IsWhole}
use Rattle.std.proofs.lemmas.List.Elements.{All-contains, All-cons, All-nil}
use Rattle.search_workers.specs.Work.{IsMadeOf, all_nodes}
use Rattle.std.proofs.Common.{inl, inr}
use Rattle.std.proofs.lemmas.List.Elements.{Contains-append_left, Contains-append_right, Contains-append_cases}
use Rattle.choice_problem.specs.Grafts.{open_ranges, graft, AreOn}

abbrev count_all : List (List Node) → ℕ
count_all [] = 0
count_all (tree ∷ trees) = node_count tree + count_all trees

module _ (Holds : List (ℕ × ℕ) → Node → Type 0) where
  pub graft-trees : (pending : List (List (ℕ × ℕ))) (nodes : List Node) (trees : List (List Node)) → AreTrees Holds pending nodes →
      AreOn Holds (open_ranges pending nodes) trees → AreTrees Holds pending (graft nodes trees)
  graft-trees [] [] trees h on = h
  graft-trees [] (node ∷ nodes) trees h on = absurd h
  graft-trees (ranges ∷ pending) [] trees h on = absurd h
  graft-trees (ranges ∷ pending) (Undone ∷ nodes) [] h on = (h.0, graft-trees pending nodes [] h.1 tt)
  graft-trees (ranges ∷ pending) (Undone ∷ nodes) (tree ∷ trees) h on =
      AreTrees-append Holds (ranges ∷ []) pending tree (graft nodes trees) on.0 (graft-trees pending nodes trees h.1 on.1)
  graft-trees (ranges ∷ pending) (Split unit cut seen ∷ nodes) trees h on =
      (h.0, graft-trees (parts_of ranges (Split unit cut seen) ++ pending) nodes trees h.1 on)
  graft-trees (ranges ∷ pending) (Leaf vector scale seen ∷ nodes) trees h on = (h.0, graft-trees pending nodes trees h.1 on)
  graft-trees (ranges ∷ pending) (Over resource ∷ nodes) trees h on = (h.0, graft-trees pending nodes trees h.1 on)

  pub graft-count : (pending : List (List (ℕ × ℕ))) (nodes : List Node) (trees : List (List Node)) → AreTrees Holds pending nodes →
      AreOn Holds (open_ranges pending nodes) trees → node_count (graft nodes trees) ≡ node_count nodes + count_all trees
  graft-count [] [] [] h on = refl
  graft-count [] [] (tree ∷ trees) h on = absurd on
  graft-count [] (node ∷ nodes) trees h on = absurd h
  graft-count (ranges ∷ pending) [] trees h on = absurd h
  graft-count (ranges ∷ pending) (Undone ∷ nodes) [] h on = graft-count pending nodes [] h.1 tt
  graft-count (ranges ∷ pending) (Undone ∷ nodes) (tree ∷ trees) h on =
      let rest = graft-count pending nodes trees h.1 on.1 in let both = node_count-append tree (graft nodes trees) in omega arith
  graft-count (ranges ∷ pending) (Split unit cut seen ∷ nodes) trees h on =
      let rest = graft-count (parts_of ranges (Split unit cut seen) ++ pending) nodes trees h.1 on in omega arith
  graft-count (ranges ∷ pending) (Leaf vector scale seen ∷ nodes) trees h on =
      let rest = graft-count pending nodes trees h.1 on in omega arith
  graft-count (ranges ∷ pending) (Over resource ∷ nodes) trees h on =
      let rest = graft-count pending nodes trees h.1 on in omega arith

under : (head nodes : List Node) (trees : List (List Node)) (node : Node) → (node ≡ Undone) ⊎ Contains (nodes ++ all_nodes trees) node →
    (node ≡ Undone) ⊎ Contains ((head ++ nodes) ++ all_nodes trees) node
under head nodes trees node h = elim h [
  | inl e ↦ inl e
  | inr c ↦ elim (Contains-append_cases nodes (all_nodes trees) node c) [
    | inl l ↦ inr (Contains-append_left (head ++ nodes) (all_nodes trees) node (Contains-append_right head nodes node l))
    | inr r ↦ inr (Contains-append_right (head ++ nodes) (all_nodes trees) node r)
  ]
]

-- the nodes of trees, one tree after the other
pub graft-from : (nodes : List Node) (trees : List (List Node)) (node : Node) → Contains (graft nodes trees) node → (node ≡ Undone) ⊎ Contains (nodes ++ all_nodes trees) node
graft-from [] trees node h = absurd (none h)
  where
    none : Contains [] node → ⊥
    none k = omega (arith, k.1)
graft-from (Undone ∷ nodes) [] node h = elim (Contains-append_cases (Undone ∷ []) (graft nodes []) node h) [
  | inl c ↦ inr (Contains-append_left (Undone ∷ nodes) [] node (Contains-append_left (Undone ∷ []) nodes node c))
  | inr c ↦ under (Undone ∷ []) nodes [] node (graft-from nodes [] node c)
]
graft-from (Undone ∷ nodes) (tree ∷ trees) node h = elim (Contains-append_cases tree (graft nodes trees) node h) [
  | inl c ↦ inr (Contains-append_right (Undone ∷ nodes) (tree ++ all_nodes trees) node (Contains-append_left tree (all_nodes trees) node c))
  | inr c ↦ elim (graft-from nodes trees node c) [
    | inl e ↦ inl e
    | inr d ↦ elim (Contains-append_cases nodes (all_nodes trees) node d) [
      | inl l ↦ inr (Contains-append_left (Undone ∷ nodes) (tree ++ all_nodes trees) node (Contains-append_right (Undone ∷ []) nodes node l))
      | inr r ↦ inr (Contains-append_right (Undone ∷ nodes) (tree ++ all_nodes trees) node (Contains-append_right tree (all_nodes trees) node r))
    ]
  ]
]
graft-from (Split unit cut seen ∷ nodes) trees node h = elim (Contains-append_cases (Split unit cut seen ∷ []) (graft nodes trees) node h) [
  | inl c ↦ inr (Contains-append_left (Split unit cut seen ∷ nodes) (all_nodes trees) node (Contains-append_left (Split unit cut seen ∷ []) nodes node c))
  | inr c ↦ under (Split unit cut seen ∷ []) nodes trees node (graft-from nodes trees node c)
]
graft-from (Leaf vector scale seen ∷ nodes) trees node h = elim (Contains-append_cases (Leaf vector scale seen ∷ []) (graft nodes trees) node h) [
  | inl c ↦ inr (Contains-append_left (Leaf vector scale seen ∷ nodes) (all_nodes trees) node (Contains-append_left (Leaf vector scale seen ∷ []) nodes node c))
  | inr c ↦ under (Leaf vector scale seen ∷ []) nodes trees node (graft-from nodes trees node c)
]
graft-from (Over resource ∷ nodes) trees node h = elim (Contains-append_cases (Over resource ∷ []) (graft nodes trees) node h) [
  | inl c ↦ inr (Contains-append_left (Over resource ∷ nodes) (all_nodes trees) node (Contains-append_left (Over resource ∷ []) nodes node c))
  | inr c ↦ under (Over resource ∷ []) nodes trees node (graft-from nodes trees node c)
]

-- pieces are the first of the open ranges
pub AreOn-take : (Holds : List (ℕ × ℕ) → Node → Type 0) (m : ℕ) (pieces : List (List (ℕ × ℕ))) (trees : List (List Node)) →
    AreOn Holds (take m pieces) trees → AreOn Holds pieces trees
AreOn-take Holds m pieces [] h = tt
AreOn-take Holds zero pieces (tree ∷ trees) h = absurd h
AreOn-take Holds (suc m) [] (tree ∷ trees) h = absurd h
AreOn-take Holds (suc m) (ranges ∷ pieces) (tree ∷ trees) h = (h.0, AreOn-take Holds m pieces trees h.1)

over : (head : List Node) (nodes : List Node) (trees : List (List Node)) (tail : List Node) (node : Node) →
    (Contains (nodes ++ all_nodes trees) node → (node ≡ Undone) ⊎ Contains tail node) →
    Contains ((head ++ nodes) ++ all_nodes trees) node → (node ≡ Undone) ⊎ Contains (head ++ tail) node
over head nodes trees tail node f h = elim (Contains-append_cases (head ++ nodes) (all_nodes trees) node h) [
  | inl l ↦ elim (Contains-append_cases head nodes node l) [
    | inl a ↦ inr (Contains-append_left head tail node a)
    | inr b ↦ later (f (Contains-append_left nodes (all_nodes trees) node b))
  ]
  | inr r ↦ later (f (Contains-append_right nodes (all_nodes trees) node r))
]
  where
    later : (node ≡ Undone) ⊎ Contains tail node → (node ≡ Undone) ⊎ Contains (head ++ tail) node
    later k = elim k [ inl e ↦ inl e | inr c ↦ inr (Contains-append_right head tail node c) ]

only_undone : (node : Node) → Contains (Undone ∷ []) node → node ≡ Undone
only_undone node h = All-contains (λ n. n ≡ Undone) (Undone ∷ []) node (All-cons (λ n. n ≡ Undone) Undone [] refl (All-nil (λ n. n ≡ Undone))) h

module _ (Holds : List (ℕ × ℕ) → Node → Type 0) where
  pub graft-in : (pending : List (List (ℕ × ℕ))) (nodes : List Node) (trees : List (List Node)) (node : Node) → AreTrees Holds pending nodes →
      AreOn Holds (open_ranges pending nodes) trees → Contains (nodes ++ all_nodes trees) node → (node ≡ Undone) ⊎ Contains (graft nodes trees) node
  graft-in [] [] [] node h on k = inr k
  graft-in [] [] (tree ∷ trees) node h on k = absurd on
  graft-in [] (n ∷ nodes) trees node h on k = absurd h
  graft-in (ranges ∷ pending) [] trees node h on k = absurd h
  graft-in (ranges ∷ pending) (Undone ∷ nodes) [] node h on k = over (Undone ∷ []) nodes [] (graft nodes []) node (graft-in pending nodes [] node h.1 tt) k
  graft-in (ranges ∷ pending) (Undone ∷ nodes) (tree ∷ trees) node h on k = elim (Contains-append_cases ((Undone ∷ []) ++ nodes) (tree ++ all_nodes trees) node k) [
    | inl l ↦ elim (Contains-append_cases (Undone ∷ []) nodes node l) [
      | inl a ↦ inl (only_undone node a)
      | inr b ↦ later (graft-in pending nodes trees node h.1 on.1 (Contains-append_left nodes (all_nodes trees) node b))
    ]
    | inr r ↦ elim (Contains-append_cases tree (all_nodes trees) node r) [
      | inl a ↦ inr (Contains-append_left tree (graft nodes trees) node a)
      | inr b ↦ later (graft-in pending nodes trees node h.1 on.1 (Contains-append_right nodes (all_nodes trees) node b))
    ]
  ]
    where
      later : (node ≡ Undone) ⊎ Contains (graft nodes trees) node → (node ≡ Undone) ⊎ Contains (tree ++ graft nodes trees) node
      later q = elim q [ inl e ↦ inl e | inr c ↦ inr (Contains-append_right tree (graft nodes trees) node c) ]
  graft-in (ranges ∷ pending) (Split unit cut seen ∷ nodes) trees node h on k =
      over (Split unit cut seen ∷ []) nodes trees (graft nodes trees) node (graft-in (parts_of ranges (Split unit cut seen) ++ pending) nodes trees node h.1 on) k
  graft-in (ranges ∷ pending) (Leaf vector scale seen ∷ nodes) trees node h on k =
      over (Leaf vector scale seen ∷ []) nodes trees (graft nodes trees) node (graft-in pending nodes trees node h.1 on) k
  graft-in (ranges ∷ pending) (Over resource ∷ nodes) trees node h on k =
      over (Over resource ∷ []) nodes trees (graft nodes trees) node (graft-in pending nodes trees node h.1 on) k

  count_nodes_all : (trees : List (List Node)) → node_count (all_nodes trees) ≡ count_all trees
  count_nodes_all [] = refl
  count_nodes_all (tree ∷ trees) = node_count-append tree (all_nodes trees) ∙ ap (λ n. node_count tree + n) (count_nodes_all trees)

  -- the graft is made of the tree and of what the trees are made of
  pub graft-made : (pending : List (List (ℕ × ℕ))) (nodes made : List Node) (trees : List (List Node)) → AreTrees Holds pending nodes →
      AreOn Holds (open_ranges pending nodes) trees → IsMadeOf (all_nodes trees) made → IsMadeOf (graft nodes trees) (nodes ++ made)
  graft-made pending nodes made trees h on m = record {
    from_list = λ node k. elim (graft-from nodes trees node k) [
      | inl e ↦ inl e
      | inr c ↦ elim (Contains-append_cases nodes (all_nodes trees) node c) [
        | inl l ↦ inr (Contains-append_left nodes made node l)
        | inr r ↦ elim (m.from_list node r) [ inl e ↦ inl e | inr d ↦ inr (Contains-append_right nodes made node d) ]
      ]
    ];
    in_tree = λ node k. elim (Contains-append_cases nodes made node k) [
      | inl l ↦ graft-in pending nodes trees node h on (Contains-append_left nodes (all_nodes trees) node l)
      | inr r ↦ elim (m.in_tree node r) [
        | inl e ↦ inl e
        | inr d ↦ graft-in pending nodes trees node h on (Contains-append_right nodes (all_nodes trees) node d)
      ]
    ];
    count = graft-count Holds pending nodes trees h on ∙ omega (arith, m.count, count_nodes_all trees, node_count-append nodes made);
  }

pub grow_tree : (old new tree rest : List Node) (trees after : List (List Node)) → new ≡ old ++ tree → trees ≡ tree ∷ after →
    new ++ graft rest after ≡ old ++ graft (Undone ∷ rest) trees
grow_tree old new tree rest trees after e k = rw (e, k) (append_assoc old tree (graft rest after))

-- a tree that is not whole has an open range
pub open_there : (Holds : List (ℕ × ℕ) → Node → Type 0) (pending : List (List (ℕ × ℕ))) (nodes : List Node) → AreTrees Holds pending nodes → (IsWhole nodes → ⊥) →
    1 ≤ length (open_ranges pending nodes)
open_there Holds [] [] h not_whole = absurd (not_whole tt)
open_there Holds [] (node ∷ nodes) h not_whole = absurd h
open_there Holds (ranges ∷ pending) [] h not_whole = absurd h
open_there Holds (ranges ∷ pending) (Undone ∷ nodes) h not_whole = omega arith
open_there Holds (ranges ∷ pending) (Split unit cut seen ∷ nodes) h not_whole =
    open_there Holds (parts_of ranges (Split unit cut seen) ++ pending) nodes h.1 not_whole
open_there Holds (ranges ∷ pending) (Leaf vector scale seen ∷ nodes) h not_whole = open_there Holds pending nodes h.1 not_whole
open_there Holds (ranges ∷ pending) (Over resource ∷ nodes) h not_whole = open_there Holds pending nodes h.1 not_whole

pub some_taken : {X : Type 0} (m : ℕ) (xs : List X) → 1 ≤ m → 1 ≤ length xs → 1 ≤ length (take m xs)
some_taken zero xs l k = absurd (omega arith)
some_taken (suc m) [] l k = absurd (omega arith)
some_taken (suc m) (x ∷ xs) l k = omega arith
