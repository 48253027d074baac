-- One tree for each piece: what was made in it, or an undone node.
use Rattle.std.proofs.Common.{◌≡◌, ℕ, zero, suc, ◌+◌, ◌<◌, ◌≤◌, List, [], ◌∷◌, ◌++◌, map, length, refl, sym, ◌∙◌, ap, arith, ◌⊎◌, inl, inr, append_assoc}
use Rattle.std.specs.Prelude.{All, Contains, slice_index_or, slice_set}
use Rattle.std.proofs.lemmas.Bool.{cases_eq}
use Rattle.std.proofs.lemmas.List.{length-set, get_or-set_same, get_or-set_other}
use Rattle.std.proofs.lemmas.List.Elements.{All-head, All-tail, All-append, All-cons, All-nil, All-contains, All-get_or, Contains-append_left, Contains-append_right, Contains-append_cases, Contains-push}
use Rattle.choice_problem.specs.declared.nodes.Node.{Node}
use Rattle.choice_problem.specs.declared.nodes.Node.TheVariants.{Undone}
use Rattle.choice_problem.specs.Trees.{node_count}
use Rattle.choice_problem.specs.Grafts.{AreOn}
use Rattle.search_workers.specs.declared.searchers.Done.{Done}
use Rattle.search_workers.specs.Settings.{Setting, AreGrown, Drives}
use Rattle.search_workers.specs.Searchers.{made, pieces_of}
use Rattle.search_workers.specs.Work.{IsMadeOf, all_nodes}
use Rattle.search_workers.specs.Rounds.{AreApart}
use Rattle.search_workers.proofs.NodeLemmas.{node_count-append}
use Rattle.search_workers.proofs.PieceLemmas.{times, times-append, times-one}
use Rattle.search_workers.proofs.RoundLemmas.{pieces-append}

set-from : (trees : List (List Node)) (i : ℕ) (tree : List Node) (node : Node) →
    Contains (all_nodes (slice_set trees i tree)) node → Contains (all_nodes trees) node ⊎ Contains tree node
set-from [] i tree node h = inl h
set-from (t ∷ ts) zero tree node h = elim (Contains-append_cases tree (all_nodes ts) node h) [
  | inl a ↦ inr a
  | inr b ↦ inl (Contains-append_right t (all_nodes ts) node b)
]
set-from (t ∷ ts) (suc i) tree node h = elim (Contains-append_cases t (all_nodes (slice_set ts i tree)) node h) [
  | inl a ↦ inl (Contains-append_left t (all_nodes ts) node a)
  | inr b ↦ elim (set-from ts i tree node b) [
    | inl c ↦ inl (Contains-append_right t (all_nodes ts) node c)
    | inr d ↦ inr d
  ]
]

only_undone : (node : Node) → Contains (Undone ∷ []) node → node ≡ Undone
only_undone node h = All-contains (λ n. n ≡ Undone) (Undone ∷ []) node (All-cons (λ n. n ≡ Undone) Undone [] refl (All-nil (λ n. n ≡ Undone))) h

set-in : (trees : List (List Node)) (i : ℕ) (tree : List Node) (node : Node) → i < length trees →
    slice_index_or trees i [] ≡ Undone ∷ [] → Contains tree node ⊎ Contains (all_nodes trees) node →
    (node ≡ Undone) ⊎ Contains (all_nodes (slice_set trees i tree)) node
set-in [] i tree node l e h = absurd (omega arith)
set-in (t ∷ ts) zero tree node l e h = elim h [
  | inl a ↦ inr (Contains-append_left tree (all_nodes ts) node a)
  | inr b ↦ elim (Contains-append_cases t (all_nodes ts) node b) [
    | inl c ↦ inl (let e' : t ≡ Undone ∷ [] = e in only_undone node (rw e' at c))
    | inr d ↦ inr (Contains-append_right tree (all_nodes ts) node d)
  ]
]
set-in (t ∷ ts) (suc i) tree node l e h = elim h [
  | inl a ↦ later (set-in ts i tree node (omega arith) e (inl a))
  | inr b ↦ elim (Contains-append_cases t (all_nodes ts) node b) [
    | inl c ↦ inr (Contains-append_left t (all_nodes (slice_set ts i tree)) node c)
    | inr d ↦ later (set-in ts i tree node (omega arith) e (inr d))
  ]
]
  where
    later : (node ≡ Undone) ⊎ Contains (all_nodes (slice_set ts i tree)) node →
        (node ≡ Undone) ⊎ Contains (t ++ all_nodes (slice_set ts i tree)) node
    later k = elim k [ inl e' ↦ inl e' | inr c ↦ inr (Contains-append_right t (all_nodes (slice_set ts i tree)) node c) ]

set-count : (trees : List (List Node)) (i : ℕ) (tree : List Node) → i < length trees → slice_index_or trees i [] ≡ Undone ∷ [] →
    node_count (all_nodes (slice_set trees i tree)) ≡ node_count tree + node_count (all_nodes trees)
set-count [] i tree l e = absurd (omega arith)
set-count (t ∷ ts) zero tree l e =
    let none : node_count t ≡ 0 = ap node_count e in
    omega (arith, none, node_count-append tree (all_nodes ts), node_count-append t (all_nodes ts))
set-count (t ∷ ts) (suc i) tree l e =
    omega (arith, set-count ts i tree (omega arith) e, node_count-append t (all_nodes (slice_set ts i tree)), node_count-append t (all_nodes ts))

-- an undone tree makes way for another
set-made : (trees : List (List Node)) (i : ℕ) (tree made : List Node) → i < length trees → slice_index_or trees i [] ≡ Undone ∷ [] →
    IsMadeOf (all_nodes trees) made → IsMadeOf (all_nodes (slice_set trees i tree)) (tree ++ made)
set-made trees i tree made l e m = record {
  from_list = λ node h. elim (set-from trees i tree node h) [
    | inl a ↦ elim (m.from_list node a) [ inl u ↦ inl u | inr c ↦ inr (Contains-append_right tree made node c) ]
    | inr b ↦ inr (Contains-append_left tree made node b)
  ];
  in_tree = λ node h. elim (Contains-append_cases tree made node h) [
    | inl a ↦ set-in trees i tree node l e (inl a)
    | inr b ↦ elim (m.in_tree node b) [ inl u ↦ inl u | inr c ↦ set-in trees i tree node l e (inr c) ]
  ];
  count = omega (arith, set-count trees i tree l e, m.count, node_count-append tree made);
}

pub map-set : {X Y : Type 0} (f : X → Y) (xs : List X) (i : ℕ) (x : X) → map f (slice_set xs i x) ≡ slice_set (map f xs) i (f x)
map-set f [] i x = refl
map-set f (y ∷ ys) zero x = refl
map-set f (y ∷ ys) (suc i) x = ap (λ l. f y ∷ l) (map-set f ys i x)

-- what was made is placed, but for the trees that are left
pub record ArePlaced (s : Setting) (pieces : List (List (ℕ × ℕ))) (done rest : List Done) (trees : List (List Node)) : Type 0 where
  pub placed : List Done
  pub split : done ≡ rest ++ placed
  pub count : length trees ≡ length pieces
  pub free : (i : ℕ) → i < length trees → times i (pieces_of placed) ≡ 0 → slice_index_or trees i [] ≡ Undone ∷ []
  pub shape : (i : ℕ) → i < length trees → AreGrown s (slice_index_or pieces i [] ∷ []) (slice_index_or trees i [])
  pub nodes : IsMadeOf (all_nodes trees) (made placed)

undone_all : (trees : List (List Node)) → All (λ t. t ≡ Undone ∷ []) trees → All (λ n. n ≡ Undone) (all_nodes trees)
undone_all [] h = All-nil (λ n. n ≡ Undone)
undone_all (t ∷ ts) h =
    All-append (λ n. n ≡ Undone) t (all_nodes ts)
    (rw (All-head (λ t. t ≡ Undone ∷ []) t ts h) (All-cons (λ n. n ≡ Undone) Undone [] refl (All-nil (λ n. n ≡ Undone))))
    (undone_all ts (All-tail (λ t. t ≡ Undone ∷ []) t ts h))

undone_count : (trees : List (List Node)) → All (λ t. t ≡ Undone ∷ []) trees → node_count (all_nodes trees) ≡ 0
undone_count [] h = refl
undone_count (t ∷ ts) h =
    let none : node_count t ≡ 0 = ap node_count (All-head (λ t. t ≡ Undone ∷ []) t ts h) in
    omega (arith, none, undone_count ts (All-tail (λ t. t ≡ Undone ∷ []) t ts h), node_count-append t (all_nodes ts))

append_none : (ds : List Done) → ds ++ [] ≡ ds
append_none [] = refl
append_none (d ∷ ds) = ap (λ l. d ∷ l) (append_none ds)

contains_none : (node : Node) → Contains [] node → ⊥
contains_none node k = omega (arith, k.1)

pub placed_none : (s : Setting) (pieces : List (List (ℕ × ℕ))) (done : List Done) (trees : List (List Node)) →
    length trees ≡ length pieces → All (λ t. t ≡ Undone ∷ []) trees → ArePlaced s pieces done done trees
placed_none s pieces done trees count undone = record {
  placed = [];
  split = sym (append_none done);
  count = count;
  free = λ i l none. All-get_or (λ t. t ≡ Undone ∷ []) trees i [] l undone;
  shape = λ i l. rw (All-get_or (λ t. t ≡ Undone ∷ []) trees i [] l undone) (tt, tt);
  nodes = record {
    from_list = λ node h. inl (All-contains (λ n. n ≡ Undone) (all_nodes trees) node (undone_all trees undone) h);
    in_tree = λ node h. absurd (contains_none node h);
    count = undone_count trees undone;
  };
}

module _ (s : Setting) (pieces : List (List (ℕ × ℕ))) (done rest left : List Done) (d : Done) (trees : List (List Node))
    (h : ArePlaced s pieces done rest trees) (popped : rest ≡ left ++ d ∷ []) (apart : AreApart (pieces_of done))
    (there : d.piece < length pieces) (tree : AreGrown s (slice_index_or pieces d.piece [] ∷ []) d.tree.items) where
  split' : done ≡ left ++ d ∷ h.placed
  split' = h.split ∙ (ap (λ l. l ++ h.placed) popped ∙ append_assoc left (d ∷ []) h.placed)

  fresh : times d.piece (pieces_of h.placed) ≡ 0
  fresh =
      let all : pieces_of done ≡ pieces_of left ++ d.piece ∷ pieces_of h.placed = ap pieces_of split' ∙ pieces-append left (d ∷ h.placed) in
      let count = times-append d.piece (pieces_of left) (d.piece ∷ pieces_of h.placed) in
      let one = times-one d.piece (pieces_of h.placed) in
      let most : times d.piece (pieces_of left ++ d.piece ∷ pieces_of h.placed) ≤ 1 = rw (← all) (apart d.piece) in
      omega (arith, count, one, most)

  within : d.piece < length trees
  within = omega (arith, there, h.count)

  free' : (i : ℕ) → i < length (slice_set trees d.piece d.tree.items) → times i (pieces_of (d ∷ h.placed)) ≡ 0 →
      slice_index_or (slice_set trees d.piece d.tree.items) i [] ≡ Undone ∷ []
  free' i l none = elim (cases_eq i d.piece) [
    | inl e ↦ absurd (let one = times-one d.piece (pieces_of h.placed) in let none' : times d.piece (d.piece ∷ pieces_of h.placed) ≡ 0 = rw e at none in omega (arith, one, none'))
    | inr n ↦
        let other = get_or-set_other trees d.piece i d.tree.items [] n in
        let step = times-append i (d.piece ∷ []) (pieces_of h.placed) in
        other ∙ h.free i (omega (arith, l, length-set trees d.piece d.tree.items)) (omega (arith, step, none))
  ]

  shape' : (i : ℕ) → i < length (slice_set trees d.piece d.tree.items) →
      AreGrown s (slice_index_or pieces i [] ∷ []) (slice_index_or (slice_set trees d.piece d.tree.items) i [])
  shape' i l = elim (cases_eq i d.piece) [
    | inl e ↦ rw (e, get_or-set_same trees d.piece d.tree.items [] within) tree
    | inr n ↦ rw (get_or-set_other trees d.piece i d.tree.items [] n) (h.shape i (omega (arith, l, length-set trees d.piece d.tree.items)))
  ]

  pub placed_more : ArePlaced s pieces done left (slice_set trees d.piece d.tree.items)
  placed_more = record {
    placed = d ∷ h.placed;
    split = split';
    count = length-set trees d.piece d.tree.items ∙ h.count;
    free = free';
    shape = shape';
    nodes = set-made trees d.piece d.tree.items (made h.placed) within (h.free d.piece within fresh) h.nodes;
  }

pub on_each : (s : Setting) (pieces : List (List (ℕ × ℕ))) (trees : List (List Node)) → length trees ≡ length pieces →
    ((i : ℕ) → i < length trees → AreGrown s (slice_index_or pieces i [] ∷ []) (slice_index_or trees i [])) →
    AreOn (λ ranges node. Drives s ranges node) pieces trees
on_each s pieces [] e h = tt
on_each s [] (t ∷ ts) e h = absurd (omega arith)
on_each s (r ∷ rs) (t ∷ ts) e h = (h 0 (omega arith), on_each s rs ts (omega arith) (λ i l. h (suc i) (omega arith)))

pub placed_all : (s : Setting) (pieces : List (List (ℕ × ℕ))) (done rest : List Done) (trees : List (List Node)) →
    ArePlaced s pieces done rest trees → rest ≡ [] → AreOn (λ ranges node. Drives s ranges node) pieces trees × IsMadeOf (all_nodes trees) (made done)
placed_all s pieces done rest trees h e =
    let all : done ≡ h.placed = h.split ∙ ap (λ l. l ++ h.placed) e in
    (on_each s pieces trees h.count h.shape, rw all h.nodes)

-- the last tree that is left is of a piece, on its ranges
pub placed_last : (s : Setting) (pieces : List (List (ℕ × ℕ))) (done rest left : List Done) (d : Done) (trees : List (List Node)) →
    ArePlaced s pieces done rest trees → rest ≡ left ++ d ∷ [] → All (λ (e : Done). e.piece < length pieces) done →
    All (λ (e : Done). AreGrown s (slice_index_or pieces e.piece [] ∷ []) e.tree.items) done →
    (d.piece < length pieces) × (d.piece < length trees) × AreGrown s (slice_index_or pieces d.piece [] ∷ []) d.tree.items
placed_last s pieces done rest left d trees h popped there grown =
    let all : done ≡ left ++ d ∷ h.placed = h.split ∙ (ap (λ l. l ++ h.placed) popped ∙ append_assoc left (d ∷ []) h.placed) in
    let in_all : Contains done d = rw all (Contains-append_right left (d ∷ h.placed) d (Contains-append_left (d ∷ []) h.placed d (Contains-push [] d))) in
    let t = All-contains (λ (e : Done). e.piece < length pieces) done d there in_all in
    (t, omega (arith, t, h.count), All-contains (λ (e : Done). AreGrown s (slice_index_or pieces e.piece [] ∷ []) e.tree.items) done d grown in_all)
