-- A stage with another choice of the same cost, and the last two stages of a run.
use Rattle.std.proofs.Common.{◌≡◌, ℕ, ◌≤◌, refl, sym, ◌∙◌, ap, subst, arith, List, [], ◌∷◌, length, Bool, true, false, Option, Some, None, inl, inr}
use Rattle.std.specs.Prelude.{◌⊎◌, IfSome, is_some}
use Rattle.std.specs.Option.{option_map}
use Rattle.season_days.specs.declared.declaration.Declaration.{Declaration}
use Rattle.choice_problem.specs.declared.vectors.Price.{Price}
use Rattle.choice_problem.specs.Problems.{ProblemView}
use Rattle.choice_problem.specs.Choices.{IsChoice, IsFeasible, IsBest, choice_cost}
use Rattle.tested_trees.specs.Closed.{IsClosed, IsClosedAtMost}
use Rattle.closing_search.specs.Endings.{IsEnding, EndsAtMost}
use Rattle.tested_trees.specs.declared.closed.Closed.{Closed}
use Rattle.tested_trees.specs.declared.closed.Closed.TheVariants as closed
use Rattle.closing_search.specs.declared.endings.Ending.{Ending}
use Rattle.closing_search.specs.declared.endings.Ending.TheVariants as free
use Rattle.search_workers.specs.Outcomes.{IsOutcome, IsSettled, OutcomeCostsAtMost}
use Rattle.search_workers.specs.declared.outcomes.Outcome.{Outcome}
use Rattle.search_workers.specs.declared.outcomes.Outcome.TheVariants as ends
use Rattle.tied_choice.specs.Ties.{IsTie}
use Rattle.cert_format.specs.declared.cert.Mark.{Mark}
use Rattle.cert_format.specs.declared.cert.Mark.TheVariants as marks
use Rattle.cert_format.specs.declared.cert.StageCert.{StageCert}
use Rattle.cert_format.specs.Proofs.{FitsMark, IsProof, IsStageFixing}
use Rattle.cert_format.specs.Printable.{IsPrintableProof, IsPrintableAs}
use Rattle.cert_format.specs.Spelling.{is_tried, HoldsNothing}
use Rattle.series_model.specs.declared.unit.Unit.{Unit as SlotUnit}
use Rattle.series_model.specs.declared.state.UnitState.{UnitState}
use Rattle.series_model.specs.Allotments.{IsFeasibleAllotment, total_displacement}
use Rattle.series_model.specs.Stages.{stage_units, stage_limit, stage_times, times_named, IsFeasibleChoice}
use Rattle.wasg_stages.specs.StageProblems.{IsAllotmentProblem, IsStageProblem, AreNumbers}
use Rattle.season_run.specs.Ends.{MakesStageBy}
use Rattle.cost_fixing.specs.declared.fixings.Fixing.{Fixing}
use Rattle.season_run.specs.Runs.{IsStageRun, IsTriedRun, OpensAs}
use Rattle.season_run.specs.Searches.{IsEndOfSearches, IsFreeSearch, IsSmallFirst, FollowsFree, KeepsKnown, IsVisitedEnd, closed_end, visited_end, found_choice, listed_vectors}
use Rattle.season_run.specs.declared.trials.StageEnd.{StageEnd}
use Rattle.season_run.specs.declared.ties.LastStages.{LastStages}
use Rattle.season_run.specs.Steps.{AreLastStages, FitsSeason, FollowsThird, IsNextStage, IsStageTie, IsTieOf}

-- ---- a stage of a problem, with another choice

module _ (p : ProblemView) (x z : List ℕ) (tie : IsTie p x z) where
  best : IsBest p x → IsBest p z
  best b = record { feasible = tie.feasible; least = λ y f. omega (arith, tie.cost, b.least y f) }

  -- the same end of a search, with the other choice
  abbrev swap : Outcome → Outcome
  swap (ends.Optimal choice cost tree vectors) = ends.Optimal z cost tree vectors
  swap (ends.Infeasible tree vectors) = ends.Infeasible tree vectors
  swap (ends.Spent b tree vectors) = ends.Spent b tree vectors

  abbrev swap-closed : Closed → Closed
  swap-closed (closed.Optimal choice cost fixing tree vectors) = closed.Optimal z cost fixing tree vectors
  swap-closed (closed.Infeasible tree vectors) = closed.Infeasible tree vectors

  abbrev swap-end : StageEnd → StageEnd
  swap-end e = record { outcome = swap e.outcome; fixing = e.fixing }

  closed-same : (a : Closed) → swap-end (closed_end a) ≡ closed_end (swap-closed a)
  closed-same (closed.Optimal choice cost fixing tree vectors) = refl
  closed-same (closed.Infeasible tree vectors) = refl

  swapped : (given : List (List Price)) (budget : ℕ) (o : Outcome) → IsOutcome p given budget o → found_choice o ≡ Some x → IsOutcome p given budget (swap o)
  swapped given budget (ends.Optimal choice cost tree vectors) h e =
      let was : IsBest p x = subst (λ (k : Option (List ℕ)). IfSome k (IsBest p)) e h.4 in
      let paid : choice_cost p x ≡ cost = subst (λ (k : Option (List ℕ)). IfSome k (λ y. choice_cost p y ≡ cost)) e h.0.found.1 in
      (record { found = (tie.feasible, tie.cost ∙ paid); driven = h.0.driven; sound = h.0.sound; listed = h.0.listed }, h.1, h.2, h.3, best was)
  swapped given budget (ends.Infeasible tree vectors) h e = h
  swapped given budget (ends.Spent b tree vectors) h e = h

  visited-swapped : (given : List (List Price)) (budget : ℕ) (e : StageEnd) → IsVisitedEnd p given budget e → found_choice e.outcome ≡ Some x → IsVisitedEnd p given budget (swap-end e)
  visited-swapped given budget e h is = record { outcome = swapped given budget e.outcome h.outcome is; whole = h.whole }

  closed-swapped : (budget : ℕ) (a : Closed) → IsClosed p budget a → found_choice (closed_end a).outcome ≡ Some x → IsClosed p budget (swap-closed a)
  closed-swapped budget (closed.Optimal choice cost fixing tree vectors) h e =
      let was : IsBest p x = subst (λ (k : Option (List ℕ)). IfSome k (IsBest p)) e h.3 in
      let paid : choice_cost p x ≡ cost = subst (λ (k : Option (List ℕ)). IfSome k (λ y. choice_cost p y ≡ cost)) e h.2 in
      (h.0, tie.feasible, tie.cost ∙ paid, best was)
  closed-swapped budget (closed.Infeasible tree vectors) h e = h

  settled-same : (o : Outcome) → IsSettled o → IsSettled (swap o)
  settled-same (ends.Optimal choice cost tree vectors) h = h
  settled-same (ends.Infeasible tree vectors) h = h
  settled-same (ends.Spent b tree vectors) h = h

  most-same : (most : ℕ) (o : Outcome) → OutcomeCostsAtMost p most o → OutcomeCostsAtMost p most (swap o)
  most-same most (ends.Optimal choice cost tree vectors) h = h
  most-same most (ends.Infeasible tree vectors) h = h
  most-same most (ends.Spent b tree vectors) h = h

  closed-most : (most : ℕ) (a : Closed) → IsClosedAtMost most a → IsClosedAtMost most (swap-closed a)
  closed-most most (closed.Optimal choice cost fixing tree vectors) h = h
  closed-most most (closed.Infeasible tree vectors) h = h

  known-same : (known : Option (List ℕ)) (o : Outcome) → KeepsKnown p known o → KeepsKnown p known (swap o)
  known-same None o h = h
  known-same (Some y) o h = most-same (choice_cost p y) o h

  known-closed : (known : Option (List ℕ)) (a : Closed) → IfSome known (λ y. EndsAtMost p (choice_cost p y) (free.Closed a)) → IfSome known (λ y. EndsAtMost p (choice_cost p y) (free.Closed (swap-closed a)))
  known-closed None a h = h
  known-closed (Some y) a h = closed-most (choice_cost p y) a h

  -- a search by free splits, and what follows it
  free-swapped : (budget : ℕ) (known : Option (List ℕ)) (o : StageEnd) (e : Ending) → IsEnding p budget e → IfSome known (λ y. EndsAtMost p (choice_cost p y) e) → FollowsFree p budget e o →
      found_choice o.outcome ≡ Some x → IsFreeSearch p budget known (swap-end o)
  free-swapped budget known o (free.Closed a) h k f is = record {
    ending = free.Closed (swap-closed a);
    ends = closed-swapped budget a h (ap (λ (b : StageEnd). found_choice b.outcome) (sym f) ∙ is);
    keeps = known-closed known a k;
    follows = ap swap-end f ∙ closed-same a;
  }
  free-swapped budget known o (free.Open b vector) h k f is = record {
    ending = free.Open b vector;
    ends = h;
    keeps = k;
    follows = (visited-swapped (vector ∷ []) budget o f.0 is, known-same b o.outcome f.1);
  }

  free-search : (budget : ℕ) (known : Option (List ℕ)) (o : StageEnd) → IsFreeSearch p budget known o → found_choice o.outcome ≡ Some x → IsFreeSearch p budget known (swap-end o)
  free-search budget known o f is = free-swapped budget known o f.ending f.ends f.keeps f.follows is

  first-swapped : (budget : ℕ) (o : StageEnd) (first : Outcome) → IsOutcome p [] 64 first →
      ((IsSettled first × (o ≡ visited_end first)) ⊎ ((IsSettled first → ⊥) × IsFreeSearch p budget (found_choice first) o)) → found_choice o.outcome ≡ Some x → IsSmallFirst p budget (swap-end o)
  first-swapped budget o first v (inl f) is = record {
    first = swap first;
    visits = swapped [] 64 first v (ap (λ (b : StageEnd). found_choice b.outcome) (sym f.1) ∙ is);
    follows = inl (settled-same first f.0, ap swap-end f.1);
  }
  first-swapped budget o first v (inr f) is = record {
    first = first;
    visits = v;
    follows = inr (f.0, free-search budget (found_choice first) o f.1 is);
  }

  searches-swapped : (budget : ℕ) (o : StageEnd) → IsEndOfSearches p budget o → found_choice o.outcome ≡ Some x → IsEndOfSearches p budget (swap-end o)
  searches-swapped budget o s is = record {
    small = λ le. visited-swapped [] budget o (s.small le) is;
    few_units = λ lt few. let f = s.few_units lt few in first-swapped budget o f.first f.visits f.follows is;
    many_units = λ lt gt. free-search budget None o (s.many_units lt gt) is;
  }

  module _ (c : StageCert) (mark : c.mark ≡ marks.Optimal) (choice_is : c.choice ≡ Some x) where
    abbrev tied : StageCert
    tied = record c { choice = Some z }

    found-by : (fixing : Option Fixing) (o : Outcome) → MakesStageBy p fixing o c → found_choice o ≡ Some x
    found-by fixing (ends.Optimal choice cost tree vectors) made = sym made.0.choice_is ∙ choice_is
    found-by fixing (ends.Infeasible tree vectors) made = sym made.0.choice_is ∙ choice_is
    found-by fixing (ends.Spent b tree vectors) made = sym made.0.choice_is ∙ choice_is

    made-by : (fixing : Option Fixing) (o : Outcome) → MakesStageBy p fixing o c → MakesStageBy p fixing (swap o) tied
    made-by fixing (ends.Optimal choice cost tree vectors) made = (
      record { mark_is = made.0.mark_is; choice_is = refl; cost_is = made.0.cost_is; fixing_is = made.0.fixing_is; tree_is = made.0.tree_is; kept = made.0.kept },
      record { no_bound = made.1.no_bound; no_floors = made.1.no_floors },
    )
    made-by fixing (ends.Infeasible tree vectors) made = (let no : marks.Infeasible ≡ marks.Optimal = sym made.0.mark_is ∙ mark in cc)
    made-by fixing (ends.Spent b tree vectors) made = (let no : marks.Unsettled ≡ marks.Optimal = sym made.0.mark_is ∙ mark in cc)

    fixing-by : (f : Option Fixing) → IfSome f (IsStageFixing p c) → IfSome f (IsStageFixing p tied)
    fixing-by None h = tt
    fixing-by (Some f) h = record { optimal = h.optimal; holds = h.holds }

    proof-here : IsProof p c → IsProof p tied
    proof-here h =
        let was : FitsMark p c marks.Optimal = subst (λ (m : Mark). FitsMark p c m) mark h.marked in
        record {
          feasible = tie.feasible;
          cost = h.cost ∙ ap (λ (k : Option (List ℕ)). option_map (choice_cost p) k) choice_is ∙ ap (λ (n : ℕ). Some n) (sym tie.cost);
          vectors = h.vectors;
          fixing = fixing-by c.fixing h.fixing;
          sound = h.sound;
          marked = subst (λ (m : Mark). FitsMark p tied m) (sym mark) (refl, was.1);
        }

    pub tied-run : (budget : ℕ) → IsStageRun p budget c → IsStageRun p budget tied
    tied-run budget r = record {
      proof = proof-here r.proof;
      nodes = r.nodes;
      listed = r.listed;
      named = r.named;
      small = λ le. record { unfixed = (r.small le).unfixed; driven = (r.small le).driven; root = (r.small le).root };
      end = swap-end r.end;
      searches = searches-swapped budget r.end r.searches (found-by r.end.fixing r.end.outcome r.made);
      made = made-by r.end.fixing r.end.outcome r.made;
      opened = subst (λ (m : Mark). OpensAs p budget (listed_vectors (swap r.end.outcome)) tied m) (sym mark) tt;
    }

-- ---- a stage of a season, with another choice

abbrev pub Numbers : Type 0
Numbers = (d : Declaration) (units : List SlotUnit) (limit : ℕ → ℕ) (p : ProblemView) (x : List ℕ) → IsAllotmentProblem d units limit p → IsChoice p x → AreNumbers d units x

abbrev pub There : Type 0
There = (d : Declaration) (units : List SlotUnit) (limit : ℕ → ℕ) (p : ProblemView) (x : List ℕ) → IsAllotmentProblem d units limit p → AreNumbers d units x → IsChoice p x

abbrev pub Displaces : Type 0
Displaces = (d : Declaration) (units : List SlotUnit) (limit : ℕ → ℕ) (p : ProblemView) (x : List ℕ) → IsAllotmentProblem d units limit p → IsChoice p x →
    choice_cost p x ≡ total_displacement d units (times_named d units x)

abbrev pub Allots : Type 0
Allots = (d : Declaration) (units : List SlotUnit) (limit : ℕ → ℕ) (p : ProblemView) (x : List ℕ) → IsAllotmentProblem d units limit p → IsFeasible p x →
    IsFeasibleAllotment d units limit (times_named d units x)

abbrev pub Back : Type 0
Back = (d : Declaration) (units : List SlotUnit) (limit : ℕ → ℕ) (p : ProblemView) (x : List ℕ) → IsAllotmentProblem d units limit p → IsChoice p x →
    IsFeasibleAllotment d units limit (times_named d units x) → IsFeasible p x

module _ (numbers : Numbers) (there : There) (displaces : Displaces) (allots : Allots) (back : Back) (d : Declaration) (stage : ℕ) (states : List UnitState) where
  -- a choice of the stage's problem, and a choice of the stage
  pub of-problem : (p : ProblemView) (x : List ℕ) → IsStageProblem d stage states p → IsFeasible p x → IsFeasibleChoice d stage states x
  of-problem p x is f = record {
    numbers = numbers d (stage_units stage states) (stage_limit d stage states) p x is f.choice;
    feasible = allots d (stage_units stage states) (stage_limit d stage states) p x is f;
  }

  pub to-problem : (p : ProblemView) (x : List ℕ) → IsStageProblem d stage states p → IsFeasibleChoice d stage states x → IsFeasible p x
  to-problem p x is f = back d (stage_units stage states) (stage_limit d stage states) p x is
      (there d (stage_units stage states) (stage_limit d stage states) p x is f.numbers) f.feasible

  of-choice : (p : ProblemView) → IsStageProblem d stage states p → (choice : Option (List ℕ)) → IfSome choice (IsFeasible p) → IfSome choice (IsFeasibleChoice d stage states)
  of-choice p is None f = tt
  of-choice p is (Some x) f = of-problem p x is f

  paid : (p : ProblemView) (x : List ℕ) → IsStageProblem d stage states p → IsFeasible p x → choice_cost p x ≡ total_displacement d (stage_units stage states) (stage_times d stage states x)
  paid p x is f = displaces d (stage_units stage states) (stage_limit d stage states) p x is f.choice

  pub tie-of-problem : (p : ProblemView) (x z : List ℕ) → IsStageProblem d stage states p → IsFeasible p x → IsTie p x z → IsStageTie d stage states x z
  tie-of-problem p x z is f t = record {
    feasible = of-problem p z is t.feasible;
    cost = sym (paid p z is t.feasible) ∙ t.cost ∙ paid p x is f;
  }

  tie-to-problem : (p : ProblemView) (x z : List ℕ) → IsStageProblem d stage states p → IsFeasible p x → IsStageTie d stage states x z → IsTie p x z
  tie-to-problem p x z is f t =
      let g = to-problem p z is t.feasible in record {
        feasible = g;
        cost = paid p z is g ∙ t.cost ∙ sym (paid p x is f);
      }

  module _ (budget : ℕ) (c : StageCert) (x z : List ℕ) (mark : c.mark ≡ marks.Optimal) (choice_is : c.choice ≡ Some x) (tie : IsStageTie d stage states x z) where
    chosen : (p : ProblemView) → IsProof p c → IsFeasible p x
    chosen p h = subst (λ (k : Option (List ℕ)). IfSome k (IsFeasible p)) choice_is h.feasible

    tried-tied : IsTriedRun d stage states budget c → IsTriedRun d stage states budget (record c { choice = Some z })
    tried-tied r =
        let f = chosen r.problem r.run.proof in record {
          problem = r.problem;
          problem_is = r.problem_is;
          run = tied-run r.problem x z (tie-to-problem r.problem x z r.problem_is f tie) c mark choice_is budget r.run;
          settled = λ enough e. r.settled enough e;
        }

    pub next-tied : (follows : Bool) → IsNextStage d stage states budget c follows → IsNextStage d stage states budget (record c { choice = Some z }) follows
    next-tied true h = (h.0, tried-tied h.1)
    next-tied false h = h

    -- it has as many units
    long : (follows : Bool) → IsNextStage d stage states budget c follows → length z ≡ length x
    long true h =
        let p = h.1.problem in
        let f = chosen p h.1.run.proof in
        let g = to-problem p z h.1.problem_is tie.feasible in
        g.choice.length ∙ sym f.choice.length
    long false h = (let no : true ≡ false = sym (ap (λ (m : Mark). is_tried m) mark) ∙ h in cc)

    printable-tied : IsPrintableProof 3 c → IsPrintableProof 3 (record c { choice = Some z })
    printable-tied h = record {
      has_cost = h.has_cost ∙ ap (λ (k : Option (List ℕ)). is_some k) choice_is;
      has_bound = h.has_bound;
      vector_count = h.vector_count;
      fixed_from = h.fixed_from;
      floor_count = h.floor_count;
    }

    pub fits-tied : (follows : Bool) → IsNextStage d stage states budget c follows → FitsSeason c → FitsSeason (record c { choice = Some z })
    fits-tied follows h fits =
        let few : length x ≤ 4096 = subst (λ (k : Option (List ℕ)). IfSome k (λ alts. length alts ≤ 4096)) choice_is fits.limits.units in
        let short : length z ≤ 4096 = omega (arith, few, long follows h) in
        let t : is_tried c.mark ≡ true = ap (λ (m : Mark). is_tried m) mark in
        let was : IsPrintableProof 3 c = subst (IsPrintableAs 3 c) t fits.printable in
        record {
          printable = subst (IsPrintableAs 3 (record c { choice = Some z })) (sym t) (printable-tied was);
          limits = record {
            units = short;
            vectors = fits.limits.vectors;
            prices = fits.limits.prices;
            nodes = fits.limits.nodes;
            budget = fits.limits.budget;
            floors = fits.limits.floors;
          };
        }

  -- the choice of a stage is one of its feasible choices, if it has one
  pub chosen-feasible : (budget : ℕ) (c : StageCert) (follows : Bool) → IsNextStage d stage states budget c follows → FitsSeason c → IfSome c.choice (IsFeasibleChoice d stage states)
  chosen-feasible budget c true h fits = of-choice h.1.problem h.1.problem_is c.choice h.1.run.proof.feasible
  chosen-feasible budget c false h fits =
      let nothing : HoldsNothing c = subst (IsPrintableAs 3 c) h fits.printable in
      rw nothing.choice tt

  -- stages 3 and 4 with another choice of stage 3
  pub last-tied : (budget : ℕ) (follows : Bool) (last after : LastStages) (z : List ℕ) (fourth : StageCert) → stage ≡ 3 → AreLastStages d states budget follows last → IsTieOf d stage states last.third z →
      FollowsThird d states budget follows (Some z) fourth → FitsSeason fourth → after.third ≡ record last.third { choice = Some z } → after.fourth ≡ fourth → AreLastStages d states budget follows after
  last-tied budget follows last after z fourth three two t next fits third_is fourth_is =
      let was = subst (λ (k : ℕ). IsNextStage d k states budget last.third follows) (sym three) two.third in
      let one : IsNextStage d 3 states budget (record last.third { choice = Some z }) follows =
      subst (λ (k : ℕ). IsNextStage d k states budget (record last.third { choice = Some z }) follows) three
      (next-tied budget last.third t.choice z t.mark t.choice_is t.tie follows was) in
      let one_fits = fits-tied budget last.third t.choice z t.mark t.choice_is t.tie follows was two.third_fits in
      record {
        third = subst (λ (c : StageCert). IsNextStage d 3 states budget c follows) (sym third_is) one;
        third_fits = subst FitsSeason (sym third_is) one_fits;
        fourth = subst (λ (c : StageCert). FollowsThird d states budget follows after.third.choice c) (sym fourth_is)
            (subst (λ (k : Option (List ℕ)). FollowsThird d states budget follows k fourth) (sym (ap (λ (c : StageCert). c.choice) third_is)) next);
        fourth_fits = subst FitsSeason (sym fourth_is) fits;
      }

-- a tie that was found, of the stage of a certificate
pub tie-of : (d : Declaration) (stage : ℕ) (states : List UnitState) (c : StageCert) (x : List ℕ) (found : Option (List ℕ)) → c.mark ≡ marks.Optimal → c.choice ≡ Some x →
    IfSome found (IsStageTie d stage states x) → IfSome found (IsTieOf d stage states c)
tie-of d stage states c x None mark is h = tt
tie-of d stage states c x (Some z) mark is h = record { mark = mark; choice = x; choice_is = is; tie = h }

-- the same, from a tie of the stage's problem
pub found-tie : (numbers : Numbers) (there : There) (displaces : Displaces) (allots : Allots) (back : Back) (d : Declaration) (stage : ℕ) (states : List UnitState) (p : ProblemView) (x : List ℕ) (found : Option (List ℕ)) →
    IsStageProblem d stage states p → IsFeasibleChoice d stage states x → IfSome found (IsTie p x) → IfSome found (IsStageTie d stage states x)
found-tie numbers there displaces allots back d stage states p x None is f h = tt
found-tie numbers there displaces allots back d stage states p x (Some z) is f h =
    tie-of-problem numbers there displaces allots back d stage states p x z is (to-problem numbers there displaces allots back d stage states p x is f) h
