-- From what a search answers to the end of a stage's trial.
use Rattle.std.proofs.Common.{◌≡◌, ℕ, zero, suc, ◌+◌, ◌*◌, ◌<◌, ◌≤◌, refl, sym, ap, subst, arith, List, [], ◌∷◌, length, pos, Option, Some, None, inl, inr}
use Rattle.std.specs.Prelude.{IfSome}
use Rattle.std.specs.Option.{option_map}
use Rattle.std.proofs.lemmas.List.Elements.{All-cons, All-nil}
use Rattle.choice_problem.specs.declared.vectors.Price.{Price}
use Rattle.choice_problem.specs.declared.nodes.Node.{Node}
use Rattle.choice_problem.specs.Problems.{ProblemView, resource_count, unit_count}
use Rattle.choice_problem.specs.Choices.{IsFeasible, choice_cost}
use Rattle.choice_problem.specs.Bounds.{IsVector, IsPrice, price_at}
use Rattle.search_workers.specs.declared.outcomes.Outcome.{Outcome}
use Rattle.search_workers.specs.declared.outcomes.Outcome.TheVariants as ends
use Rattle.search_workers.specs.Outcomes.{IsBestFound, IsOutcome, IsSettled, IsSearched, AreListed, AreAllOf, AreFurther, choice_count}
use Rattle.tested_trees.specs.Closed.{IsClosed}
use Rattle.closing_search.specs.Endings.{IsEnding}
use Rattle.tested_trees.specs.declared.closed.Closed.{Closed}
use Rattle.tested_trees.specs.declared.closed.Closed.TheVariants as closed
use Rattle.closing_search.specs.declared.endings.Ending.{Ending}
use Rattle.closing_search.specs.declared.endings.Ending.TheVariants as free
use Rattle.season_run.specs.declared.trials.StageEnd.{StageEnd}
use Rattle.cost_fixing.specs.declared.fixings.Fixing.{Fixing}
use Rattle.season_run.specs.Ends.{AreStageVectors, IsStageEnd, IsStageEndBy}
use Rattle.season_run.specs.Searches.{IsVisitedEnd, IsFreeSearch, FollowsFree, closed_end, visited_end, found_choice}
use Rattle.season_run.specs.Steps.{TakesNodes, IsDrivenBy, IsDrivenEnd, IsTrialEnd}
use Rattle.season_run.proofs.StageLemmas.{found-cost}

listed-any : (p : ProblemView) (given vectors : List (List Price)) → AreListed p given vectors → AreListed p [] vectors
listed-any p given vectors h = record {
  few = h.few;
  each = h.each;
  root = h.root;
  few_prices = h.few_prices;
  handed_in = λ k l t. absurd (omega (arith, l));
}

stage-vectors : (p : ProblemView) (given vectors : List (List Price)) → AreListed p given vectors → AreStageVectors p vectors
stage-vectors p given vectors h = record { few = h.few; each = h.each; few_prices = h.few_prices }

searched-any : (p : ProblemView) (given vectors : List (List Price)) (cost : Option ℕ) (best : Option (List ℕ)) (tree : List Node) →
    IsSearched p given vectors cost best tree → IsSearched p [] vectors (option_map (choice_cost p) best) best tree
searched-any p given vectors cost best tree h =
    subst (λ (k : Option ℕ). IsSearched p [] vectors k best tree) (found-cost p cost best h.found)
    (record { found = h.found; driven = h.driven; sound = h.sound; listed = listed-any p given vectors h.listed })

all-some : (p : ProblemView) (given : List (List Price)) (budget : ℕ) (vectors : List (List Price)) → AreAllOf p given budget vectors → 1 ≤ length vectors
all-some p given budget vectors h =
    let long = ap (λ (l : List (List Price)). length l) h.begins in
    omega (arith, long)

pub outcome-end : (p : ProblemView) (given : List (List Price)) (budget : ℕ) (o : Outcome) → 1 ≤ budget → IsOutcome p given budget o → IsStageEndBy p None o
outcome-end p given budget (ends.Optimal choice cost tree vectors) some h =
    record { found = h.0.found; listed = stage-vectors p given vectors h.0.listed; fixed = tt; sound = h.0.sound; whole = h.1 }
outcome-end p given budget (ends.Infeasible tree vectors) some h =
    (refl, record { found = h.0.found; listed = stage-vectors p given vectors h.0.listed; fixed = tt; sound = h.0.sound; whole = h.1 })
outcome-end p given budget (ends.Spent best tree vectors) some h =
    (refl, record { searched = searched-any p given vectors h.0.0 best tree h.0.1; root = all-some p given budget vectors (h.3 some); undone = h.2 })

visited-ended : (p : ProblemView) (given : List (List Price)) (budget : ℕ) (e : StageEnd) → 1 ≤ budget → IsVisitedEnd p given budget e → IsStageEnd p e
visited-ended p given budget e some v = subst (λ (f : Option Fixing). IsStageEndBy p f e.outcome) (sym v.whole) (outcome-end p given budget e.outcome some v.outcome)

pub outcome-nodes : (p : ProblemView) (given : List (List Price)) (budget : ℕ) (o : Outcome) → IsOutcome p given budget o → TakesNodes budget o
outcome-nodes p given budget (ends.Optimal choice cost tree vectors) h = h.2
outcome-nodes p given budget (ends.Infeasible tree vectors) h = h.2
outcome-nodes p given budget (ends.Spent best tree vectors) h = h.1

found-is : (p : ProblemView) (cost : Option ℕ) (best : Option (List ℕ)) → IsBestFound p cost best → IfSome best (IsFeasible p)
found-is p None None h = tt
found-is p (Some c) None h = tt
found-is p None (Some x) h = absurd h
found-is p (Some c) (Some x) h = h.0

driven-by : (p : ProblemView) (given vectors : List (List Price)) (cost : Option ℕ) (best : Option (List ℕ)) (tree : List Node) → IsSearched p given vectors cost best tree → IsDrivenBy p vectors cost tree
driven-by p given vectors cost best tree h = (h.driven, h.listed.root)

pub outcome-driven : (p : ProblemView) (given : List (List Price)) (budget : ℕ) (o : Outcome) → IsOutcome p given budget o → IsDrivenEnd p o
outcome-driven p given budget (ends.Optimal choice cost tree vectors) h = driven-by p given vectors (Some cost) (Some choice) tree h.0
outcome-driven p given budget (ends.Infeasible tree vectors) h = driven-by p given vectors None None tree h.0
outcome-driven p given budget (ends.Spent best tree vectors) h =
    driven-by p [] vectors (option_map (choice_cost p) best) best tree (searched-any p given vectors h.0.0 best tree h.0.1)

-- the choice that a search found is feasible
pub found-feasible : (p : ProblemView) (given : List (List Price)) (budget : ℕ) (o : Outcome) → IsOutcome p given budget o → IfSome (found_choice o) (IsFeasible p)
found-feasible p given budget (ends.Optimal choice cost tree vectors) h = h.0.found.0
found-feasible p given budget (ends.Infeasible tree vectors) h = tt
found-feasible p given budget (ends.Spent best tree vectors) h = found-is p h.0.0 best h.0.1.found

-- ---- searches by free splits

closed-ended : (p : ProblemView) (budget : ℕ) (a : Closed) → IsClosed p budget a → IsStageEnd p (closed_end a)
closed-ended p budget (closed.Optimal choice cost fixing tree vectors) h =
    record { found = (h.1, h.2); listed = record { few = h.0.few; each = h.0.each; few_prices = h.0.few_prices }; fixed = h.0.fixed; sound = h.0.sound; whole = h.0.whole }
closed-ended p budget (closed.Infeasible tree vectors) h =
    (refl, record { found = tt; listed = record { few = h.0.few; each = h.0.each; few_prices = h.0.few_prices }; fixed = tt; sound = h.0.sound; whole = h.0.whole })

closed-nodes : (p : ProblemView) (budget : ℕ) (a : Closed) → IsClosed p budget a → TakesNodes budget (closed_end a).outcome
closed-nodes p budget (closed.Optimal choice cost fixing tree vectors) h = h.0.few_nodes
closed-nodes p budget (closed.Infeasible tree vectors) h = h.0.few_nodes

follows-end : (p : ProblemView) (budget : ℕ) (e : Ending) (o : StageEnd) → 1 ≤ budget → IsEnding p budget e → FollowsFree p budget e o → IsStageEnd p o × TakesNodes budget o.outcome
follows-end p budget (free.Closed a) o some h f = rw f (closed-ended p budget a h, closed-nodes p budget a h)
follows-end p budget (free.Open best vector) o some h f = (visited-ended p (vector ∷ []) budget o some f.0, outcome-nodes p (vector ∷ []) budget o.outcome f.0.outcome)

-- ---- the ends of all searches

-- a larger problem, with a greater budget
pub many-trial : (p : ProblemView) (budget : ℕ) (o : StageEnd) → 64 < budget → 64 < unit_count p → IsFreeSearch p budget None o →
    (2 * choice_count p ≤ budget + 1 → IsSettled o.outcome) → IsTrialEnd p budget o
many-trial p budget o more many f settled =
    let both = follows-end p budget f.ending o (omega (arith, more)) f.ends f.follows in record {
      ended = both.0;
      nodes = both.1;
      small = λ le. absurd (omega (arith, le, more));
      searches = record {
        small = λ le. absurd (omega (arith, le, more));
        few_units = λ lt few. absurd (omega (arith, few, many));
        many_units = λ lt gt. f;
      };
      settled = settled;
    }

-- a small budget
pub small-trial : (p : ProblemView) (budget : ℕ) (o : Outcome) → 1 ≤ budget → budget ≤ 64 → IsOutcome p [] budget o →
    (2 * choice_count p ≤ budget + 1 → IsSettled o) → IsTrialEnd p budget (visited_end o)
small-trial p budget o some small h settled = record {
  ended = outcome-end p [] budget o some h;
  nodes = outcome-nodes p [] budget o h;
  small = λ le. (outcome-driven p [] budget o h, refl);
  searches = record {
    small = λ le. record { outcome = h; whole = refl };
    few_units = λ lt few. absurd (omega (arith, lt, small));
    many_units = λ lt gt. absurd (omega (arith, lt, small));
  };
  settled = settled;
}

fewer-nodes : (less budget : ℕ) (o : Outcome) → less ≤ budget → IsSettled o → TakesNodes less o → TakesNodes budget o
fewer-nodes less budget (ends.Optimal choice cost tree vectors) le s h = omega (arith, le, h)
fewer-nodes less budget (ends.Infeasible tree vectors) le s h = omega (arith, le, h)
fewer-nodes less budget (ends.Spent best tree vectors) le s h = absurd s

-- the first visits settled a problem of few units
pub first-trial : (p : ProblemView) (budget : ℕ) (o : Outcome) → 64 < budget → unit_count p ≤ 64 → IsOutcome p [] 64 o → IsSettled o → IsTrialEnd p budget (visited_end o)
first-trial p budget o more few h s = record {
  ended = outcome-end p [] 64 o (omega arith) h;
  nodes = fewer-nodes 64 budget o (omega (arith, more)) s (outcome-nodes p [] 64 o h);
  small = λ le. absurd (omega (arith, le, more));
  searches = record {
    small = λ le. absurd (omega (arith, le, more));
    few_units = λ lt le. record { first = o; visits = h; follows = inl (s, refl) };
    many_units = λ lt gt. absurd (omega (arith, gt, few));
  };
  settled = λ enough. s;
}

-- they did not
pub next-trial : (p : ProblemView) (budget : ℕ) (first : Outcome) (o : StageEnd) → 64 < budget → unit_count p ≤ 64 → IsOutcome p [] 64 first → (IsSettled first → ⊥) →
    IsFreeSearch p budget (found_choice first) o → (2 * choice_count p ≤ budget + 1 → IsSettled o.outcome) → IsTrialEnd p budget o
next-trial p budget first o more few h left f settled =
    let both = follows-end p budget f.ending o (omega (arith, more)) f.ends f.follows in record {
      ended = both.0;
      nodes = both.1;
      small = λ le. absurd (omega (arith, le, more));
      searches = record {
        small = λ le. absurd (omega (arith, le, more));
        few_units = λ lt le. record { first = first; visits = h; follows = inr (left, f) };
        many_units = λ lt gt. absurd (omega (arith, gt, few));
      };
      settled = settled;
    }

-- rising resources are few
rising-from : (p : ProblemView) (prices : List Price) → IsVector p prices → (k : ℕ) → k < length prices → k ≤ (price_at prices k).resource
rising-from p prices v zero lt = omega arith
rising-from p prices v (suc k) lt =
    let below = v.rising k (suc k) (record { resource = 0; price = pos 0 }) (omega arith) lt in
    omega (arith, below, rising-from p prices v k (omega (arith, lt)))

few-from : (p : ProblemView) (prices : List Price) (n : ℕ) → n ≡ length prices → IsVector p prices → n ≤ resource_count p
few-from p prices zero is v = omega arith
few-from p prices (suc n) is v =
    let e : IsPrice p (price_at prices n) = v.each n (record { resource = 0; price = pos 0 }) (omega (arith, is)) in
    omega (arith, e.there, rising-from p prices v n (omega (arith, is)))

pub few-prices : (p : ProblemView) (prices : List Price) → IsVector p prices → length prices ≤ resource_count p
few-prices p prices v = few-from p prices (length prices) refl v

-- one vector by itself may be handed to a search
pub one-further : (p : ProblemView) (vector : List Price) (vectors : List (List Price)) → IsVector p vector → resource_count p ≤ 1000000 → vectors ≡ vector ∷ [] → AreFurther p vectors
one-further p vector vectors v few e = rw e (record {
  few = omega arith;
  each = All-cons (IsVector p) vector [] v (All-nil (IsVector p));
  few_prices = omega (arith, few, few-prices p vector v);
})
