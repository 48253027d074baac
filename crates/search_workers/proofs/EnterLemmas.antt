-- One visit of a worker.
use Rattle.std.proofs.Common.{◌≡◌, ℕ, ◌+◌, List, [], ◌∷◌, ◌++◌, length, refl, sym, ◌∙◌, ap, arith, Option, Some, None, append_assoc}
use Rattle.std.specs.Prelude.{All}
use Rattle.std.proofs.lemmas.List.Elements.{All-head, All-tail, All-append, All-cons, All-nil}
use Rattle.choice_problem.specs.declared.nodes.Node.{Node}
use Rattle.choice_problem.specs.declared.nodes.Node.TheVariants.{Split, Leaf, Over, Undone}
use Rattle.choice_problem.specs.Bounds.{AreRanges}
use Rattle.choice_problem.specs.Choices.{choice_cost}
use Rattle.choice_problem.specs.Trees.{CanSplit, parts_of, low_part, high_part}
use Rattle.choice_problem.specs.Driven.{IsSeenBetween, RecordsBetween}
use Rattle.incumbent_word.specs.declared.view.View.{View}
use Rattle.incumbent_word.specs.Core.{AtMost, lesser}
use Rattle.incumbent_word.specs.Calls.{Looked, with_number}
use Rattle.search_workers.specs.Settings.{Setting, Drives, RecordsSeen, IsBelow, IsLook}
use Rattle.search_workers.specs.Work.{IsWork, IsAhead, IsKeeping, lesser_choice}
use Rattle.search_workers.specs.Searchers.{IsBegun}
use Rattle.search_workers.proofs.CostLemmas.{at_most_trans}
use Rattle.search_workers.proofs.WorkLemmas.{now_falls, work_node, work_found}

-- the parts of a node of a driven tree are ranges
pub parts_valid : (s : Setting) (ranges : List (ℕ × ℕ)) (node : Node) →
    ((unit cut : ℕ) → CanSplit ranges unit cut → AreRanges s.problem (low_part ranges unit cut)) →
    ((unit cut : ℕ) → CanSplit ranges unit cut → AreRanges s.problem (high_part ranges unit cut)) →
    Drives s ranges node → All (AreRanges s.problem) (parts_of ranges node)
parts_valid s ranges (Split unit cut seen) low high d =
    All-cons (AreRanges s.problem) (low_part ranges unit cut) (high_part ranges unit cut ∷ []) (low unit cut d.1)
    (All-cons (AreRanges s.problem) (high_part ranges unit cut) [] (high unit cut d.1) (All-nil (AreRanges s.problem)))
parts_valid s ranges (Leaf vector scale seen) low high d = All-nil (AreRanges s.problem)
parts_valid s ranges (Over resource) low high d = All-nil (AreRanges s.problem)
parts_valid s ranges Undone low high d = All-nil (AreRanges s.problem)

module _ (s : Setting) (root ranges : List (ℕ × ℕ)) (nodes : List Node) (pending : List (List (ℕ × ℕ)))
    (w : IsBegun s root nodes (ranges ∷ pending)) where
  pub within : AreRanges s.problem ranges
  within = All-head (AreRanges s.problem) ranges pending w.valid

  pub begun_node : (node : Node) → Drives s ranges node → All (AreRanges s.problem) (parts_of ranges node) →
      IsBegun s root (nodes ++ node ∷ []) (parts_of ranges node ++ pending)
  begun_node node d parts = record {
    valid = All-append (AreRanges s.problem) (parts_of ranges node) pending parts (All-tail (AreRanges s.problem) ranges pending w.valid);
    trees = λ rest h. rw append_assoc (w.trees (node ∷ rest) (d, h));
  }

-- a number taken
pub ahead_taken : (s : Setting) (v w : View) (n : ℕ) (best : Option (List ℕ)) (nodes : List Node) → IsWork s v.worker best nodes →
    w ≡ with_number v n w.log → AtMost w.worker.seen v.worker.seen → IsAhead s w.worker best nodes
ahead_taken s v w n best nodes h is fell = record {
  before = v.worker;
  work = h;
  same = ap (λ (x : View). x.worker.best) is;
  fell = fell;
  more = ap (λ (x : View). length x.worker.numbers) is ∙ length_push v.worker.numbers n;
}
  where
    length_push : (xs : List ℕ) (n : ℕ) → length (xs ++ n ∷ []) ≡ length xs + 1
    length_push [] n = refl
    length_push (x ∷ xs) n = let e = length_push xs n in omega arith

pub records_seen : (result greedy seen : Option ℕ) (node : Node) → RecordsSeen seen node → IsSeenBetween result greedy seen → RecordsBetween result greedy node
records_seen result greedy seen (Split unit cut recorded) h k = rw h k
records_seen result greedy seen (Leaf vector scale recorded) h k = rw h k
records_seen result greedy seen (Over resource) h k = tt
records_seen result greedy seen Undone h k = absurd h

pub found_between : (s g least : Option ℕ) (c : ℕ) → IsSeenBetween s g s → IsBelow c s → IsSeenBetween (lesser least (Some c)) g (Some c)
found_between s None None c h less = omega arith
found_between s None (Some l) c h less = omega arith
found_between None (Some g) least c h less = absurd (cc h)
found_between (Some s) (Some g) None c h less = (omega arith, omega (arith, h.1, less))
found_between (Some s) (Some g) (Some l) c h less = (omega arith, omega (arith, h.1, less))

module _ (s : Setting) (v w : View) (seen : Option ℕ) (best : Option (List ℕ)) (nodes : List Node)
    (a : IsAhead s v.worker best nodes) (k : Looked v seen w) where
  seen_is : w.worker.seen ≡ seen
  seen_is = ap (λ (x : View). x.worker.seen) k.now

  best_is : w.worker.best ≡ a.before.best
  best_is = ap (λ (x : View). x.worker.best) k.now ∙ a.same

  fell : AtMost w.worker.seen a.before.seen
  fell = at_most_trans w.worker.seen v.worker.seen a.before.seen k.no_rise a.fell

  now : IsSeenBetween w.worker.seen s.greedy w.worker.seen
  now = now_falls s.greedy a.before.seen w.worker.seen fell a.work.now

  now_seen : IsSeenBetween w.worker.seen s.greedy seen
  now_seen = rw (← seen_is) now

  more : length w.worker.numbers ≡ length a.before.numbers + 1
  more = ap (λ (x : View). length x.worker.numbers) k.now ∙ a.more

  module _ (ranges : List (ℕ × ℕ)) (node : Node) (cost cost' : Option ℕ) (best' : Option (List ℕ)) (y : View) (is : cost ≡ v.worker.best) where
    entered_found : (x : List ℕ) → IsLook s ranges seen node (Some x) → IsKeeping s.problem (Some x) w y cost cost' best best' →
        IsWork s y.worker best' (nodes ++ node ∷ []) × (cost' ≡ y.worker.best)
    entered_found x l q =
        let n : ℕ = choice_cost s.problem x in
        let below : IsBelow n w.worker.seen = rw seen_is l.choice.1 in
        let y_seen : y.worker.seen ≡ lesser q.0.least (Some n) = ap (λ (z : View). z.worker.seen) q.0.now in
        let y_best : y.worker.best ≡ lesser a.before.best (Some n) = ap (λ (z : View). z.worker.best) q.0.now ∙ ap (λ z. lesser z (Some n)) best_is in
        let y_more : length y.worker.numbers ≡ length a.before.numbers + 1 = ap (λ (z : View). length z.worker.numbers) q.0.now ∙ more in
        let between : IsSeenBetween y.worker.seen s.greedy (Some n) = rw y_seen (found_between w.worker.seen s.greedy q.0.least n now below) in
        let work : IsWork s y.worker (lesser_choice a.before.best (Some n) best (Some x)) (nodes ++ Leaf 0 1 (Some n) ∷ []) =
        work_found s a.before y.worker best nodes (Leaf 0 1 (Some n)) x a.work l.choice.0 y_best
        (at_most_trans y.worker.seen w.worker.seen a.before.seen q.0.no_rise fell) y_more between refl refl in (
          rw (l.choice.2, q.3, is ∙ a.same) work,
          q.2 ∙ (ap (λ z. lesser z (Some n)) (is ∙ a.same) ∙ sym y_best),
        )

    pub entered : (found : Option (List ℕ)) → IsLook s ranges seen node found → IsKeeping s.problem found w y cost cost' best best' →
        IsWork s y.worker best' (nodes ++ node ∷ []) × (cost' ≡ y.worker.best)
    entered None l q =
        let work : IsWork s w.worker best (nodes ++ node ∷ []) =
        work_node s a.before w.worker best nodes node a.work best_is fell more
        (records_seen w.worker.seen s.greedy seen node l.choice now_seen) l.counted in
        (rw (q.0, q.2) work, q.1 ∙ (is ∙ (sym (ap (λ (x : View). x.worker.best) k.now) ∙ sym (ap (λ (z : View). z.worker.best) q.0))))
    entered (Some x) l q = entered_found x l q
