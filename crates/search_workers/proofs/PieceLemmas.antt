-- A worker's pieces, one after the other.
use Rattle.std.proofs.Common.{◌≡◌, ◌≢◌, ℕ, ◌+◌, ◌-◌, ◌<◌, ◌≤◌, true, cond, Bool, eq-eqb, List, [], ◌∷◌, ◌++◌, length, refl, sym, ◌∙◌, ap, subst, arith, Option, inl, inr, append_assoc}
use Rattle.std.specs.Prelude.{replicate, reverse, slice_index_or}
use Rattle.std.proofs.lemmas.List.{length-reverse}
use Rattle.std.proofs.lemmas.List.Sums.{sum_by-append, sum_by-cons}
use Rattle.std.proofs.lemmas.List.Elements.{All-push, All-append}
use mathlib.Core.Logic.{dite}
use native.Mathlib.Decide.{dec_le}
use Rattle.choice_problem.specs.declared.nodes.Node.{Node}
use Rattle.choice_problem.specs.declared.nodes.Node.TheVariants.{Undone}
use Rattle.choice_problem.specs.Trees.{node_count}
use Rattle.choice_problem.specs.Driven.{RecordsBetween}
use Rattle.search_workers.proofs.NodeLemmas.{node_count-append, undone_trees, All-undone, undone-counts}
use Rattle.incumbent_word.specs.declared.view.Worker.{Worker}
use Rattle.incumbent_word.specs.declared.view.View.{View}
use Rattle.incumbent_word.specs.Calls.{with_piece}
use Rattle.std.specs.Prelude.{count_by, ◌==◌}
use Rattle.search_workers.specs.declared.searchers.Done.{Done}
use Rattle.search_workers.specs.Settings.{Setting, AreGrown}
use Rattle.search_workers.specs.Work.{IsWork}
use Rattle.search_workers.specs.Searchers.{made, pieces_of, HasProgress, IsBegun, IsSearcher}
use Rattle.search_workers.proofs.WorkLemmas.{recorded_left}

-- how often a piece stands in a list
abbrev pub times : ℕ → List ℕ → ℕ
times x xs = count_by (λ y. y == x) xs

append_none : (xs : List Node) → xs ++ [] ≡ xs
append_none [] = refl
append_none (x ∷ xs) = ap (λ l. x ∷ l) (append_none xs)

pub made-append : (ds es : List Done) → made (ds ++ es) ≡ made ds ++ made es
made-append [] es = refl
made-append (d ∷ ds) es = ap (λ l. d.tree.items ++ l) (made-append ds es) ∙ sym (append_assoc d.tree.items (made ds) (made es))

made-push : (ds : List Done) (d : Done) → made (ds ++ d ∷ []) ≡ made ds ++ d.tree.items
made-push ds d = made-append ds (d ∷ []) ∙ ap (λ l. made ds ++ l) (append_none d.tree.items)

pub pieces-push : (ds : List Done) (d : Done) → pieces_of (ds ++ d ∷ []) ≡ pieces_of ds ++ d.piece ∷ []
pieces-push [] d = refl
pieces-push (e ∷ ds) d = ap (λ l. e.piece ∷ l) (pieces-push ds d)

pub work_undone : (s : Setting) (w : Worker) (best : Option (List ℕ)) (nodes : List Node) (n : ℕ) → IsWork s w best nodes →
    IsWork s w best (nodes ++ replicate n Undone)
work_undone s w best nodes n h = record {
  found = h.found;
  recorded = recorded_left w.best nodes (replicate n Undone) h.recorded;
  now = h.now;
  between = All-append (RecordsBetween w.seen s.greedy) nodes (replicate n Undone) h.between (All-undone w.seen s.greedy n);
  numbers = omega (arith, h.numbers, node_count-append nodes (replicate n Undone), undone-counts n);
}

-- a piece is done
pub piece_done : (s : Setting) (pieces : List (List (ℕ × ℕ))) (v w : View) (cost cost' : Option ℕ) (best best' : Option (List ℕ)) (done : List Done)
    (d : Done) (nodes : List Node) (pending : List (List (ℕ × ℕ))) → IsSearcher s pieces v cost best done →
    IsWork s w.worker best' (made done ++ nodes) → cost' ≡ w.worker.best → IsBegun s (slice_index_or pieces d.piece []) nodes (reverse pending) →
    d.tree.items ≡ nodes ++ replicate (length pending) Undone → d.piece < length pieces → HasProgress w nodes →
    (v.no_number_left ≡ true → w.no_number_left ≡ true) →
    IsSearcher s pieces w cost' best' (done ++ d ∷ [])
piece_done s pieces v w cost cost' best best' done d nodes pending h work cost_is walk tree there begun marks =
    let n : ℕ = length pending in
    let undone : List Node = replicate n Undone in
    let shape : AreGrown s (slice_index_or pieces d.piece [] ∷ []) d.tree.items =
    rw (tree, ← length-reverse pending) (walk.trees (replicate (length (reverse pending)) Undone) (undone_trees s (reverse pending))) in
    let all : made (done ++ d ∷ []) ≡ (made done ++ nodes) ++ undone = made-push done d ∙ (ap (λ l. made done ++ l) tree ∙ sym (append_assoc (made done) nodes undone)) in
    let count : node_count d.tree.items ≡ node_count nodes = ap node_count tree ∙ (node_count-append nodes undone ∙ omega (arith, undone-counts n)) in
    record {
      work = rw all (work_undone s w.worker best' (made done ++ nodes) n work);
      cost_is = cost_is;
      there = All-push (λ (e : Done). e.piece < length pieces) done d h.there there;
      trees = All-push (λ (e : Done). AreGrown s (slice_index_or pieces e.piece [] ∷ []) e.tree.items) done d h.trees shape;
      progress = elim begun [
        | inl m ↦ inl m
        | inr one ↦ elim h.progress [
          | inl m ↦ inl (marks m)
          | inr all ↦ inr (All-push (λ (e : Done). 1 ≤ node_count e.tree.items) done d all (omega (arith, one, count)))
        ]
      ];
    }

-- a claim changes nothing but the pieces, or the mark
pub searcher_claims : (s : Setting) (pieces : List (List (ℕ × ℕ))) (v w : View) (cost : Option ℕ)
    (best : Option (List ℕ)) (done : List Done) (n : ℕ) → IsSearcher s pieces v cost best done → w ≡ with_piece v n w.log →
    IsSearcher s pieces w cost best done
searcher_claims s pieces v w cost best done n h is = rw is (record {
  work = record { found = h.work.found; recorded = h.work.recorded; now = h.work.now; between = h.work.between; numbers = h.work.numbers };
  cost_is = h.cost_is;
  there = h.there;
  trees = h.trees;
  progress = h.progress;
})

pub searcher_marked : (s : Setting) (pieces : List (List (ℕ × ℕ))) (v w : View) (cost : Option ℕ)
    (best : Option (List ℕ)) (done : List Done) → IsSearcher s pieces v cost best done → w ≡ record v { no_piece_left = true; log = w.log } →
    IsSearcher s pieces w cost best done
searcher_marked s pieces v w cost best done h is = rw is (record {
  work = h.work;
  cost_is = h.cost_is;
  there = h.there;
  trees = h.trees;
  progress = h.progress;
})

-- all pieces so far are below the next
pub record IsRising (pieces : List ℕ) (total next : ℕ) : Type 0 where
  pub room : next ≤ total
  pub last : 0 < next → times (next - 1) pieces ≢ 0

pub times-append : (x : ℕ) (xs ys : List ℕ) → times x (xs ++ ys) ≡ times x xs + times x ys
times-append x xs ys = sum_by-append (λ y. cond (y == x) 1 0) xs ys

pub times-one : (x : ℕ) (xs : List ℕ) → times x (x ∷ xs) ≡ times x xs + 1
times-one x xs =
    let one : cond {A = ℕ} (x == x) 1 0 ≡ 1 = ap (λ (b : Bool). cond {A = ℕ} b 1 0) (eq-eqb x x refl) in
    let step : times x (x ∷ xs) ≡ cond {A = ℕ} (x == x) 1 0 + times x xs = sum_by-cons (λ y. cond (y == x) 1 0) x xs in omega (arith, one, step)

here : (xs : List ℕ) (n : ℕ) → times n (xs ++ n ∷ []) ≢ 0
here xs n none = let a = times-append n xs (n ∷ []) in let one = times-one n [] in absurd (omega (arith, a, one, none))

pub rising_none : (pieces : List ℕ) (total : ℕ) → IsRising pieces total 0
rising_none pieces total = record { room = omega arith; last = λ l. absurd (omega arith) }

module _ (pieces : List ℕ) (total next : ℕ) (c : IsRising pieces total next) (n : ℕ) (rising : (x : ℕ) → n ≤ x → times x pieces ≡ 0) where
  pub later : next ≤ n
  later = dite (dec_le next n) (λ h. h) (λ below. absurd (c.last (omega arith) (rising (next - 1) (omega arith))))

  pub rises : (pieces' : List ℕ) (next' : ℕ) → n < total → pieces' ≡ pieces ++ n ∷ [] → next' ≡ n + 1 → IsRising pieces' total next'
  rises pieces' next' below is up = record {
    room = omega arith;
    last = λ _. rw is (let e : n ≡ next' - 1 = omega arith in subst (λ (z : ℕ). times z (pieces ++ n ∷ []) ≢ 0) e (here pieces n));
  }
