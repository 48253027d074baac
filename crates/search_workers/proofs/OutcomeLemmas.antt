-- From a tree and a best choice to what a search answers.
use Rattle.std.proofs.Common.{◌≡◌, ℕ, ◌≤◌, List, [], ◌∷◌, refl, sym, ◌∙◌, arith, Option, Some, None, inl, inr}
use Rattle.std.specs.Prelude.{IfSome}
use Rattle.std.specs.Option.{option_map}
use Rattle.std.proofs.lemmas.List.Elements.{All-cons, All-nil, Contains-push}
use Rattle.choice_problem.specs.declared.vectors.Price.{Price}
use Rattle.choice_problem.specs.declared.nodes.Node.{Node}
use Rattle.choice_problem.specs.declared.nodes.Node.TheVariants.{Split, Leaf, Over, Undone}
use Rattle.choice_problem.specs.Problems.{ProblemView}
use Rattle.choice_problem.specs.Choices.{IsFeasible, IsBest, HasNone, choice_cost}
use Rattle.choice_problem.specs.Bounds.{IsVector, whole_of}
use Rattle.choice_problem.specs.Trees.{IsSound, IsWhole, node_count}
use Rattle.choice_problem.specs.Driven.{IsDriven, IsDrivenFrom, IsDrivenNode, IsSeenBetween, RecordsBetween}
use Rattle.choice_problem.specs.Greedy.{IsGreedyCost}
use Rattle.choice_problem.specs.Roots.{IsRootVector}
use Rattle.incumbent_word.specs.Core.{AtMost}
use Rattle.branch_tree.specs.Visits.{ClosesBy}
use Rattle.search_workers.specs.declared.outcomes.Outcome.{Outcome}
use Rattle.search_workers.specs.declared.outcomes.Outcome.TheVariants as answer
use Rattle.search_workers.specs.declared.states.Start.{Start}
use Rattle.search_workers.specs.Outcomes.{IsBestFound, AreListed, IsSearched, AreNamedOf, IsOutcome, IsSettled, HasAtMost, OutcomeCostsAtMost}
use Rattle.search_workers.specs.Work.{IsStart}
use Rattle.search_workers.proofs.FinishLemmas.{none_cost}

module _ (p : ProblemView) (given : List (List Price)) (budget : ℕ) (vectors : List (List Price)) (tree : List Node) (cost : Option ℕ)
    (best : Option (List ℕ)) (outcome : Outcome) (h : IsSearched p given vectors cost best tree) (whole : IsWhole tree) (few : node_count tree ≤ budget)
    (cut : AreNamedOf p given budget vectors tree)
    (best_law : (x : List ℕ) → IsFeasible p x → IsSound p vectors (Some (choice_cost p x)) (whole_of p) tree → IsBest p x)
    (none_law : IsSound p vectors None (whole_of p) tree → HasNone p)
    (optimal : (x : List ℕ) (c : ℕ) → best ≡ Some x → cost ≡ Some c → outcome ≡ answer.Optimal x c tree vectors)
    (infeasible : best ≡ None → outcome ≡ answer.Infeasible tree vectors) where
  none_ends : best ≡ None → IsOutcome p given budget outcome × IsSettled outcome
  none_ends b =
      let no_cost = none_cost p cost best h.found b in
      let s : IsSearched p given vectors None None tree = rw (no_cost, b) at h in
      rw (infeasible b) ((s, whole, few, cut, none_law s.sound), tt)

  some_ends : (x : List ℕ) (c : ℕ) → best ≡ Some x → cost ≡ Some c → IsOutcome p given budget outcome × IsSettled outcome
  some_ends x c b k =
      let s : IsSearched p given vectors (Some c) (Some x) tree = rw (k, b) at h in
      let sound : IsSound p vectors (Some (choice_cost p x)) (whole_of p) tree = rw (← s.found.1) at s.sound in
      rw (optimal x c b k) ((s, whole, few, cut, best_law x s.found.0 sound), tt)

  by_cases : (b : Option (List ℕ)) (k : Option ℕ) → best ≡ b → cost ≡ k → IsBestFound p k b → IsOutcome p given budget outcome × IsSettled outcome
  by_cases None k e f found = none_ends e
  by_cases (Some x) None e f found = absurd found
  by_cases (Some x) (Some c) e f found = some_ends x c e f

  pub whole_ends : IsOutcome p given budget outcome × IsSettled outcome
  whole_ends = by_cases best cost refl refl h.found

-- what is whole costs at most what any feasible choice does
pub whole_costs : (p : ProblemView) (given : List (List Price)) (budget : ℕ) (outcome : Outcome) → IsOutcome p given budget outcome → IsSettled outcome →
    (x : List ℕ) → IsFeasible p x → OutcomeCostsAtMost p (choice_cost p x) outcome
whole_costs p given budget (answer.Optimal choice cost tree vectors) h s x f =
    let least = h.4.least x f in omega (arith, least, h.0.found.1)
whole_costs p given budget (answer.Infeasible tree vectors) h s x f = absurd (h.4 x f)
whole_costs p given budget (answer.Spent best tree vectors) h s x f = absurd s

pub best_costs : (p : ProblemView) (cost : Option ℕ) (best : Option (List ℕ)) (x : List ℕ) → IsBestFound p cost best → AtMost cost (Some (choice_cost p x)) →
    HasAtMost p (choice_cost p x) best
best_costs p None None x h a = absurd a
best_costs p None (Some y) x h a = absurd h
best_costs p (Some c) None x h a = absurd h
best_costs p (Some c) (Some y) x h a = omega (arith, h.1, a)

-- no vectors
pub listed_none : (p : ProblemView) (given : List (List Price)) → AreListed p given []
listed_none p given = record {
  few = omega arith;
  each = All-nil (IsVector p);
  root = λ l. absurd (omega arith);
  few_prices = omega arith;
  handed_in = λ k l t. absurd (omega arith);
}

-- nothing is visited
module _ (p : ProblemView) (given : List (List Price)) (best : Option (List ℕ)) (root : List Price) (root_is : IsRootVector p root)
    (greedy : IsGreedyCost p (option_map (choice_cost p) best))
    (sound_law : IsDriven p [] (option_map (choice_cost p) best) (Undone ∷ []) → IsSound p [] (option_map (choice_cost p) best) (whole_of p) (Undone ∷ [])) where
  same_between : (cost : Option ℕ) → IsSeenBetween cost cost cost
  same_between None = refl
  same_between (Some c) = (omega arith, omega arith)

  driven_none : IsDriven p [] (option_map (choice_cost p) best) (Undone ∷ [])
  driven_none = record {
    greedy = option_map (choice_cost p) best;
    root = root;
    greedy_is = greedy;
    root_is = root_is;
    tree = record {
      trees = (tt, tt);
      between = All-cons (RecordsBetween (option_map (choice_cost p) best) (option_map (choice_cost p) best)) Undone [] tt
          (All-nil (RecordsBetween (option_map (choice_cost p) best) (option_map (choice_cost p) best)));
      reached = inl refl;
    };
  }

  pub nothing_visited : IsBestFound p (option_map (choice_cost p) best) best → IsOutcome p given 0 (answer.Spent best (Undone ∷ []) [])
  nothing_visited found = (
    (option_map (choice_cost p) best, record { found = found; driven = driven_none; sound = sound_law driven_none; listed = listed_none p given }),
    refl,
    (λ w. w),
    λ l. absurd (omega arith),
  )

-- the first visit closes all alternatives without prices
module _ (p : ProblemView) (start : Start) (root : List Price) (leaf : Node) (k : IsStart p start) (closes : ClosesBy p root [] (whole_of p) start.cost leaf)
    (node : IsDrivenNode p (root ∷ []) root (whole_of p) leaf)
    (none_law : (resource : ℕ) → IsSound p [] None (whole_of p) (Over resource ∷ []) → HasNone p) where
  no_cost : (cost : Option ℕ) (best : Option (List ℕ)) → HasNone p → IsBestFound p cost best → cost ≡ None
  no_cost None best none found = refl
  no_cost (Some c) None none found = absurd found
  no_cost (Some c) (Some x) none found = absurd (none x found.0)

  over_reached : HasNone p → start.cost ≡ start.greedy
  over_reached none =
      let e = no_cost start.cost start.best none k.found in
      let now : IsSeenBetween None start.greedy None = rw e at k.now in e ∙ sym now

  from_leaf : (other : Node) → leaf ≡ other → ClosesBy p root [] (whole_of p) start.cost other → IsDrivenNode p (root ∷ []) root (whole_of p) other →
      IsDrivenFrom p (root ∷ []) root start.greedy start.cost (other ∷ []) × IsWhole (other ∷ []) × (node_count (other ∷ []) ≡ 1)
  from_leaf (Split unit cut seen) e c d = absurd c
  from_leaf Undone e c d = absurd c
  from_leaf (Leaf vector scale seen) e c d =
      let is : seen ≡ start.cost = c.1.0 in (
        record {
          trees = (d, tt);
          between = All-cons (RecordsBetween start.cost start.greedy) (Leaf vector scale seen) [] (rw is k.now) (All-nil (RecordsBetween start.cost start.greedy));
          reached = inr (Leaf vector scale seen, Contains-push [] (Leaf vector scale seen), is);
        },
        tt,
        refl,
      )
  from_leaf (Over resource) e c d = (
    record {
      trees = (d, tt);
      between = All-cons (RecordsBetween start.cost start.greedy) (Over resource) [] tt (All-nil (RecordsBetween start.cost start.greedy));
      reached = inl (over_reached (none_law resource (d, tt)));
    },
    tt,
    refl,
  )

  pub closed_driven : IsRootVector p root → IsDriven p (root ∷ []) start.cost (leaf ∷ [])
  closed_driven r = record {
    greedy = start.greedy;
    root = root;
    greedy_is = k.greedy_is;
    root_is = r;
    tree = (from_leaf leaf refl closes node).0;
  }

  pub closed_whole : IsWhole (leaf ∷ []) × (node_count (leaf ∷ []) ≡ 1)
  closed_whole = let r = from_leaf leaf refl closes node in (r.1, r.2)

pub found_if_feasible : (p : ProblemView) (best : Option (List ℕ)) → IfSome best (IsFeasible p) → IsBestFound p (option_map (choice_cost p) best) best
found_if_feasible p None f = tt
found_if_feasible p (Some x) f = (f, refl)
