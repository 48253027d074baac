-- The seats of the workers of one board.
use Rattle.std.proofs.Common.{◌≡◌, ℕ, suc, ◌+◌, ◌-◌, ◌*◌, ◌/◌, ◌^◌, ◌<◌, ◌≤◌, List, [], ◌∷◌, ◌++◌, length, refl, sym, ◌∙◌, arith, None, inl, inr, true, false}
use Rattle.std.specs.Prelude.{slice_index_or}
use Rattle.std.proofs.lemmas.List.Elements.{All-nil}
use Rattle.std.proofs.lemmas.Nat.{pow_pos}
use Rattle.std.proofs.lemmas.Grind.{pow_more}
use Rattle.choice_problem.specs.Driven.{IsSeenBetween}
use Rattle.choice_problem.specs.Trees.{node_count}
use Rattle.incumbent_word.specs.Core.{newcomer}
use Rattle.incumbent_word.specs.Seats.{BoardView, IsSeatOf}
use Rattle.search_workers.specs.declared.searchers.Done.{Done}
use Rattle.search_workers.specs.declared.searchers.Searcher.{Searcher}
use Rattle.search_workers.specs.Settings.{Setting, AreGrown}
use Rattle.search_workers.specs.Rounds.{IsReady, HasStopped, shares}
use Rattle.search_workers.proofs.WorkLemmas.{work_none}

-- a worker that has done nothing may claim
pub ready_new : (s : Setting) (pieces : List (List (ℕ × ℕ))) (board : BoardView) (w : Searcher) → IsSeatOf board w.seat →
    w.seat.view.worker ≡ newcomer board.terms.start → w.cost ≡ None → w.best ≡ None → w.done.items ≡ [] →
    IsSeenBetween board.terms.start s.greedy board.terms.start → IsReady s pieces board w
ready_new s pieces board w own worker cost best done now = record {
  own = own;
  searcher = record {
    work = rw (worker, best, done) (work_none s board.terms.start now);
    cost_is = rw (cost, worker) refl;
    there = rw done (All-nil (λ (d : Done). d.piece < length pieces));
    trees = rw done (All-nil (λ (d : Done). AreGrown s (slice_index_or pieces d.piece [] ∷ []) d.tree.items));
    progress = inr (rw done (All-nil (λ (d : Done). 1 ≤ node_count d.tree.items)));
  };
  claims = rw (worker, done) refl;
}

pub shares-append : (ws vs : List Searcher) → shares (ws ++ vs) ≡ shares ws + shares vs
shares-append [] vs = omega arith
shares-append (w ∷ ws) vs = let rest = shares-append ws vs in omega (arith, rest)

pub shares_same : (ws vs : List Searcher) → length vs ≡ length ws →
    ((i : ℕ) (d : Searcher) → i < length ws → (slice_index_or vs i d).seat.view.share ≡ (slice_index_or ws i d).seat.view.share) → shares vs ≡ shares ws
shares_same [] [] e h = refl
shares_same [] (v ∷ vs) e h = absurd (omega arith)
shares_same (w ∷ ws) [] e h = absurd (omega arith)
shares_same (w ∷ ws) (v ∷ vs) e h =
    let rest = shares_same ws vs (omega arith) (λ i d l. h (suc i) d (omega arith)) in
    let first = h 0 w (omega arith) in
    omega (arith, rest, first)

-- a share of 2 ^ (k + 1) and more can be split, and half of it is left
pub room_left : (n share : ℕ) → n ≤ 15 → 2 ^ (33 - n) ≤ share → (2 ≤ share) × (2 ^ (33 - (n + 1)) ≤ share - share / 2)
room_left n share few room =
    let k : ℕ = 32 - n in
    let up : 33 - n ≡ k + 1 = omega arith in
    let down : 33 - (n + 1) ≡ k = omega arith in
    let more : 2 ^ (k + 1) ≡ 2 ^ k * 2 = pow_more 2 k in
    let some = pow_pos k in
    let room' : 2 ^ (k + 1) ≤ share = rw up at room in
    (omega (arith, more, some, room'), rw down (omega (arith, more, some, room')))

-- a worker that did not want memory is ready, and found all pieces claimed
pub finished_ready : (s : Setting) (pieces : List (List (ℕ × ℕ))) (board : BoardView) (w : Searcher) → HasStopped s pieces board w → w.failed ≡ false →
    IsReady s pieces board w × (w.seat.view.no_piece_left ≡ true)
finished_ready s pieces board w h e = elim h.ended [
  | inl f ↦ absurd (cc (sym f ∙ e))
  | inr k ↦ k
]
