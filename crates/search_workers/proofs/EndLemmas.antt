-- A board's end, and one visit of the caller.
use Rattle.std.proofs.Common.{◌≡◌, ℕ, ◌≤◌, true, List, [], ◌∷◌, ◌++◌, length, min, refl, sym, ◌∙◌, ap, arith, inl, inr, ◌⊎◌, Option, Some, None}
use Rattle.std.specs.Prelude.{All, Contains, take, nat_lt}
use Rattle.std.proofs.lemmas.Bool.Decides.{nat_tests}
use Rattle.choice_problem.specs.Driven.{IsSeenBetween, RecordsBetween, Records}
use Rattle.branch_tree.specs.Visits.{NoneOver}
use Rattle.search_workers.specs.Outcomes.{IsBestFound}
use Rattle.std.specs.Option.{option_map}
use Rattle.std.proofs.lemmas.Bool.{cases_lt}
use Rattle.std.proofs.lemmas.List.Elements.{All-head, All-contains, All-cons, All-nil, Contains-append_left, Contains-append_right, Contains-append_cases, Contains-push}
use Rattle.choice_problem.specs.declared.nodes.Node.{Node}
use Rattle.choice_problem.specs.declared.nodes.Node.TheVariants.{Split, Leaf, Over, Undone}
use Rattle.choice_problem.specs.Bounds.{whole_of}
use Rattle.choice_problem.specs.Choices.{choice_cost}
use Rattle.choice_problem.specs.Trees.{node_count}
use Rattle.choice_problem.specs.Grafts.{open_ranges, graft, AreOn}
use Rattle.incumbent_word.specs.declared.view.Worker.{Worker}
use Rattle.incumbent_word.specs.declared.view.View.{View}
use Rattle.incumbent_word.specs.Core.{AtMost, EachOnce, lesser, newcomer}
use Rattle.search_workers.specs.declared.searchers.Done.{Done}
use Rattle.search_workers.specs.Settings.{Setting, AreGrown, Drives, IsLook, IsBelow, RecordsSeen}
use Rattle.search_workers.specs.Work.{IsWork, IsMadeOf, IsSoFar, all_nodes, lesser_choice, with_undone_parts}
use Rattle.search_workers.specs.Searchers.{made, pieces_of, IsSearcher}
use Rattle.search_workers.specs.Rounds.{AreVisitsMade, IsRound, AreApart}
use Rattle.search_workers.proofs.CostLemmas.{at_most_refl, lesser_left, lesser_none}
use Rattle.search_workers.proofs.NodeLemmas.{node_count-append}
use Rattle.search_workers.proofs.GraftLemmas.{AreOn-take, graft-trees, graft-made}
use Rattle.search_workers.proofs.WorkLemmas.{work_none, work_node, work_found, board_ends, board_count}
use Rattle.search_workers.proofs.EnterLemmas.{records_seen, found_between}
use Rattle.search_workers.proofs.PieceLemmas.{times}

pub once_apart : (pieces : List ℕ) (n : ℕ) → EachOnce (λ x. times x pieces) n → AreApart pieces
once_apart pieces n once x = elim (cases_lt x n) [
  | inl below ↦ omega (arith, (once x).0 below)
  | inr more ↦ omega (arith, (once x).1 more)
]

-- at least one tree, each with a node that counts
some_made : (done : List Done) → 1 ≤ length (pieces_of done) → All (λ d. 1 ≤ node_count d.tree.items) done → 1 ≤ node_count (made done)
some_made [] l all = absurd (omega arith)
some_made (d ∷ ds) l all =
    let one = All-head (λ (e : Done). 1 ≤ node_count e.tree.items) d ds all in omega (arith, one, node_count-append d.tree.items (made ds))

-- trees put in the place of the first undone nodes
module _ (s : Setting) (pieces : List (List (ℕ × ℕ))) (before tree nodes : List Node) (trees : List (List Node)) (m : ℕ) (cost : Option ℕ)
    (best : Option (List ℕ)) (h : IsSoFar s cost best before) (are : pieces ≡ take m (open_ranges (whole_of s.problem ∷ []) before))
    (is : tree ≡ graft before trees) (on : AreOn (λ ranges node. Drives s ranges node) pieces trees) (made_of : IsMadeOf (all_nodes trees) nodes) where
  on' : AreOn (λ ranges node. Drives s ranges node) (open_ranges (whole_of s.problem ∷ []) before) trees
  on' = AreOn-take (λ ranges node. Drives s ranges node) m (open_ranges (whole_of s.problem ∷ []) before) trees (rw are at on)

  pub grafted_shape : AreGrown s (whole_of s.problem ∷ []) tree
  grafted_shape = rw is (graft-trees (λ ranges node. Drives s ranges node) (whole_of s.problem ∷ []) before trees h.driven.trees on')

  pub grafted_made : IsMadeOf tree (before ++ nodes)
  grafted_made = rw is (graft-made (λ ranges node. Drives s ranges node) (whole_of s.problem ∷ []) before nodes trees h.driven.trees on' made_of)

-- a board closed, and its workers' trees grafted
pub round_ends : (s : Setting) (pieces : List (List (ℕ × ℕ))) (w : View) (cost : Option ℕ) (best : Option (List ℕ)) (done : List Done)
    (start : Option ℕ) (first chosen : Option (List ℕ)) (before tree : List Node) (trees : List (List Node)) (m claimed taken budget : ℕ) (least : Option ℕ) →
    IsSearcher s pieces w cost best done → w.worker.pieces ≡ pieces_of done → IsSoFar s start first before →
    pieces ≡ take m (open_ranges (whole_of s.problem ∷ []) before) → 1 ≤ length pieces → tree ≡ graft before trees →
    AreOn (λ ranges node. Drives s ranges node) pieces trees →
    IsMadeOf (all_nodes trees) (made done) → chosen ≡ lesser_choice start cost first best → least ≡ lesser start w.worker.best → AtMost least w.worker.seen →
    length w.worker.pieces ≡ claimed → length w.worker.numbers ≡ taken → claimed ≡ length pieces → taken ≤ budget →
    (w.no_number_left ≡ true → taken ≡ budget) → IsRound s budget taken start least chosen before tree
round_ends s pieces w cost best done start first chosen before tree trees m claimed taken budget least k claims h are some is on made_of choice falls under had many all within marked =
    let shape = grafted_shape s pieces before tree (made done) trees m start first h are is on made_of in
    let m' = grafted_made s pieces before tree (made done) trees m start first h are is on made_of in
    let picked : chosen ≡ lesser_choice start w.worker.best first best = choice ∙ ap (λ z. lesser_choice start z first best) k.cost_is in
    let count = board_count s start least first best w.worker before (made done) tree h k.work falls under shape m' in
    let falls' : AtMost least start = rw falls (lesser_left start w.worker.best) in
    record {
      visits = record {
        so_far = rw picked (board_ends s start least first best w.worker before (made done) tree h k.work falls under shape m');
        count = omega (arith, count, many);
        fell = falls';
      };
      within = within;
      progress = elim k.progress [
        | inl mark ↦ inl (marked mark)
        | inr each ↦ inr (let pieces_had : length (pieces_of done) ≡ claimed = ap length (sym claims) ∙ had in
            let one = some_made done (omega (arith, pieces_had, all, some)) each in omega (arith, one, k.work.numbers, many))
      ];
    }

with_undone_parts-has : (node other : Node) → Contains (with_undone_parts node ++ []) other → (other ≡ Undone) ⊎ Contains (node ∷ []) other
with_undone_parts-has (Split unit cut seen) other h = elim (Contains-append_cases (Split unit cut seen ∷ []) (Undone ∷ Undone ∷ []) other h) [
  | inl a ↦ inr a
  | inr b ↦ inl (All-contains (λ n. n ≡ Undone) (Undone ∷ Undone ∷ []) other
      (All-cons (λ n. n ≡ Undone) Undone (Undone ∷ []) refl (All-cons (λ n. n ≡ Undone) Undone [] refl (All-nil (λ n. n ≡ Undone)))) b)
]
with_undone_parts-has (Leaf vector scale seen) other h = inr h
with_undone_parts-has (Over resource) other h = inr h
with_undone_parts-has Undone other h = inr h

with_undone_parts-from : (node other : Node) → Contains (node ∷ []) other → Contains (with_undone_parts node ++ []) other
with_undone_parts-from (Split unit cut seen) other h = Contains-append_left (Split unit cut seen ∷ []) (Undone ∷ Undone ∷ []) other h
with_undone_parts-from (Leaf vector scale seen) other h = h
with_undone_parts-from (Over resource) other h = h
with_undone_parts-from Undone other h = h

with_undone_parts-count : (node : Node) → node_count (with_undone_parts node ++ []) ≡ node_count (node ∷ [])
with_undone_parts-count (Split unit cut seen) = refl
with_undone_parts-count (Leaf vector scale seen) = refl
with_undone_parts-count (Over resource) = refl
with_undone_parts-count Undone = refl

with_undone_parts-made : (tree before : List Node) (node : Node) → IsMadeOf tree (before ++ (with_undone_parts node ++ [])) → IsMadeOf tree (before ++ node ∷ [])
with_undone_parts-made tree before node m = record {
  from_list = λ other h. elim (m.from_list other h) [
    | inl u ↦ inl u
    | inr c ↦ elim (Contains-append_cases before (with_undone_parts node ++ []) other c) [
      | inl a ↦ inr (Contains-append_left before (node ∷ []) other a)
      | inr b ↦ elim (with_undone_parts-has node other b) [ inl u ↦ inl u | inr d ↦ inr (Contains-append_right before (node ∷ []) other d) ]
    ]
  ];
  in_tree = λ other h. elim (Contains-append_cases before (node ∷ []) other h) [
    | inl a ↦ m.in_tree other (Contains-append_left before (with_undone_parts node ++ []) other a)
    | inr b ↦ m.in_tree other (Contains-append_right before (with_undone_parts node ++ []) other (with_undone_parts-from node other b))
  ];
  count = omega (arith, m.count, node_count-append before (with_undone_parts node ++ []), node_count-append before (node ∷ []), with_undone_parts-count node);
}

pub undone_parts_grown : (s : Setting) (ranges : List (ℕ × ℕ)) (node : Node) → Drives s ranges node → AreGrown s (ranges ∷ []) (with_undone_parts node)
undone_parts_grown s ranges (Split unit cut seen) d = (d, (tt, (tt, tt)))
undone_parts_grown s ranges (Leaf vector scale seen) d = (d, tt)
undone_parts_grown s ranges (Over resource) d = (d, tt)
undone_parts_grown s ranges Undone d = (d, tt)

-- what one visit of the caller did, as the work of a worker
abbrev pub one_worker : Option ℕ → Option ℕ → Worker
one_worker cost more = record { pieces = []; numbers = 0 ∷ []; best = more; seen = lesser cost more }

pub one_work : (s : Setting) (ranges : List (ℕ × ℕ)) (cost : Option ℕ) (best : Option (List ℕ)) (before : List Node) (node : Node) (found : Option (List ℕ)) →
    IsSoFar s cost best before → IsLook s ranges cost node found →
    IsWork s (one_worker cost (option_map (choice_cost s.problem) found)) found (node ∷ [])
one_work s ranges None best before node None h l =
    work_node s (newcomer None) (one_worker None None) None [] node (work_none s None h.now) refl tt refl
    (records_seen None s.greedy None node l.choice h.now) l.counted
one_work s ranges (Some c) best before node None h l =
    work_node s (newcomer (Some c)) (one_worker (Some c) None) None [] node (work_none s (Some c) h.now) refl (at_most_refl (Some c)) refl
    (records_seen (Some c) s.greedy (Some c) node l.choice h.now) l.counted
one_work s ranges cost best before node (Some x) h l =
    let n : ℕ = choice_cost s.problem x in
    rw l.choice.2 (work_found s (newcomer cost) (one_worker cost (Some n)) None [] (Leaf 0 1 (Some n)) x (work_none s cost h.now) l.choice.0 refl
    (lesser_left cost (Some n)) refl (found_between cost s.greedy cost n h.now l.choice.1) refl refl)

-- one visit of an open part
pub part_visited : (s : Setting) (ranges : List (ℕ × ℕ)) (cost : Option ℕ) (best : Option (List ℕ)) (before tree : List Node) (node : Node) (found : Option (List ℕ)) →
    IsSoFar s cost best before → IsLook s ranges cost node found → AreGrown s (whole_of s.problem ∷ []) tree →
    IsMadeOf tree (before ++ (with_undone_parts node ++ [])) →
    AreVisitsMade s 1 cost (lesser cost (option_map (choice_cost s.problem) found)) (lesser_choice cost (option_map (choice_cost s.problem) found) best found) before tree
part_visited s ranges cost best before tree node found h l shape m =
    let more : Option ℕ = option_map (choice_cost s.problem) found in
    let w : Worker = one_worker cost more in
    let work = one_work s ranges cost best before node found h l in
    let m' = with_undone_parts-made tree before node m in
    let least : Option ℕ = lesser cost more in
    record {
      so_far = board_ends s cost least best found w before (node ∷ []) tree h work refl (at_most_refl least) shape m';
      count = board_count s cost least best found w before (node ∷ []) tree h work refl (at_most_refl least) shape m';
      fell = lesser_left cost more;
    }

with_undone_parts-all : (P : Node → Type 0) (node : Node) → P node → P Undone → All P (with_undone_parts node)
with_undone_parts-all P (Split unit cut seen) h u = All-cons P (Split unit cut seen) (Undone ∷ Undone ∷ []) h (All-cons P Undone (Undone ∷ []) u (All-cons P Undone [] u (All-nil P)))
with_undone_parts-all P (Leaf vector scale seen) h u = All-cons P (Leaf vector scale seen) [] h (All-nil P)
with_undone_parts-all P (Over resource) h u = All-cons P (Over resource) [] h (All-nil P)
with_undone_parts-all P Undone h u = All-cons P Undone [] h (All-nil P)

with_undone_parts-here : (node : Node) → Contains (with_undone_parts node) node
with_undone_parts-here (Split unit cut seen) = Contains-append_left (Split unit cut seen ∷ []) (Undone ∷ Undone ∷ []) (Split unit cut seen) (Contains-push [] (Split unit cut seen))
with_undone_parts-here (Leaf vector scale seen) = Contains-push [] (Leaf vector scale seen)
with_undone_parts-here (Over resource) = Contains-push [] (Over resource)
with_undone_parts-here Undone = Contains-push [] Undone

lesser_below : (cost : Option ℕ) (n : ℕ) → IsBelow n cost → lesser cost (Some n) ≡ Some n
lesser_below None n l = refl
lesser_below (Some c) n l = let e : min c n ≡ n = omega (arith, l) in ap (λ (m : ℕ). Some m) e

choice_below : (cost : Option ℕ) (n : ℕ) (best : Option (List ℕ)) (x : List ℕ) → IsBelow n cost → lesser_choice cost (Some n) best (Some x) ≡ Some x
choice_below None n best x l = refl
choice_below (Some c) n best x l = let e : nat_lt n c ≡ true = grind (arith, nat_tests) in rw e refl

-- the first visit, of all alternatives, none of whose resources is over
pub first_visited : (s : Setting) (cost : Option ℕ) (best : Option (List ℕ)) (node : Node) (found : Option (List ℕ)) →
    IsBestFound s.problem cost best → IsSeenBetween cost s.greedy cost → NoneOver s.problem (whole_of s.problem) →
    IsLook s (whole_of s.problem) cost node found →
    IsSoFar s (lesser cost (option_map (choice_cost s.problem) found)) (lesser_choice cost (option_map (choice_cost s.problem) found) best found) (with_undone_parts node)
first_visited s cost best node None found now none l = rw (lesser_none cost) (record {
  found = found;
  now = now;
  driven = record {
    trees = undone_parts_grown s (whole_of s.problem) node l.driven;
    between = with_undone_parts-all (RecordsBetween cost s.greedy) node (records_seen cost s.greedy cost node l.choice now) tt;
    reached = inr (node, with_undone_parts-here node, reached node l.driven l.choice);
  };
})
  where
    reached : (other : Node) → Drives s (whole_of s.problem) other → RecordsSeen cost other → Records cost other
    reached (Split unit cut seen) d r = r
    reached (Leaf vector scale seen) d r = r
    reached (Over resource) d r = absurd (none resource d.there d.over)
    reached Undone d r = absurd r
first_visited s cost best node (Some x) found now none l =
    let n : ℕ = choice_cost s.problem x in
    let least : lesser cost (Some n) ≡ Some n = lesser_below cost n l.choice.1 in
    let picked : lesser_choice cost (Some n) best (Some x) ≡ Some x = choice_below cost n best x l.choice.1 in
    let d : Drives s (whole_of s.problem) (Leaf 0 1 (Some n)) = rw l.choice.2 at l.driven in
    let between : IsSeenBetween (Some n) s.greedy (Some n) = rw least at (found_between cost s.greedy cost n now l.choice.1) in
    rw (least, picked, l.choice.2) (record {
      found = (l.choice.0, refl);
      now = between;
      driven = record {
        trees = (d, tt);
        between = All-cons (RecordsBetween (Some n) s.greedy) (Leaf 0 1 (Some n)) [] between (All-nil (RecordsBetween (Some n) s.greedy));
        reached = inr (Leaf 0 1 (Some n), Contains-push [] (Leaf 0 1 (Some n)), refl);
      };
    })
